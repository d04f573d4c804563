-- Programs of a game run as they are on each board where the game's objects have room on their layers.
use Rattle.std.proofs.Common.{◌≡◌, ℕ, ◌<◌, Bool, true, Option, Some, None, List, length, map, reverse, get_or}
use Rattle.std.proofs.Common.{slice_get, refl, sym, subst, ap, ◌∙◌, arith}
use Rattle.std.specs.Prelude.{All}
use Rattle.std.specs.List.{list_all}
use Rattle.std.proofs.lemmas.List.{length-map}
use Rattle.std.proofs.lemmas.List.Elements.{All-filter, All-weaker}
use Rattle.std.proofs.lemmas.List.Sums.{list_all-from_AllPass}
use Rattle.std.proofs.lemmas.Option.{slice_get-map, slice_get-get_or, get_or_from_slice_get}
use Rattle.ps_model.specs.declared.pieces.ObjectId.{ObjectId}
use Rattle.ps_model.specs.declared.pieces.LayerId.{LayerId}
use Rattle.ps_model.specs.declared.compiled.ObjectWrite.{ObjectWrite}
use Rattle.ps_model.specs.declared.compiled.ObjectWrite.TheVariants.{Put, Leave, Clear}
use Rattle.ps_model.specs.declared.rules.Part.{Part}
use Rattle.ps_model.specs.names.Names.{Names, layer_of, object_count}
use Rattle.ps_model.specs.rules.SourceRules.{SourceRule, RuleLine}
use Rattle.ps_model.specs.board.RuleSections.{Group, Loop}
use Rattle.ps_model.specs.meaning.TurnedRound.{row_turned}
use Rattle.ps_model.specs.meaning.Compiled.{CompiledRule, CompiledSection}
use Rattle.ps_model.specs.meaning.CompiledRules.{compiled_rules}
use Rattle.ps_laws.specs.WholeRows.{IsWholeRow, IsWholeLine}
use Rattle.ps_laws.specs.CompiledGames.{PutsOwn, IsWriteOf, IsCompiledCellOf, IsCompiledRuleOf, IsSectionOf}
use Rattle.ps_laws.proofs.common.WholeRows.{All-reverse, whole-turned}
use Rattle.ps_laws.proofs.common.Everywhere.{either_one, All-mapped}
use Rattle.ps_laws.proofs.common.RuleSections.{IsWholeRuleOf, whole_rules-game, program-each}
use Rattle.ps_laws.proofs.masks.OwnLayers.{compiled_rules-game}
use Rattle.ps_board.specs.Rooms.{has_room, HaveRoom, layer_numbers}
use Rattle.ps_board.specs.Runnable.{object_has_room, has_room_for, cell_has_room, row_runs, rule_runs, section_runs}
use Rattle.ps_board.specs.Runnable.{IsRunnable}
use Rattle.ps_compile.specs.CompactPrograms.{faces_back, rule_turned, rule_forwards, is_busy, compact_rules}
use Rattle.ps_compile.specs.CompactPrograms.{compact_program}
use Rattle.ps_compile.specs.RunnablePrograms.{RunsOnBoards}

-- elements of a kind that passes a test pass it all
all_pass : {X : Type 0} (P : X → Type 0) (test : X → Bool) → ((x : X) → P x → test x ≡ true) → (xs : List X) →
    All P xs → list_all test xs ≡ true
all_pass P test h xs all = list_all-from_AllPass test xs (All-weaker P (λ x. test x ≡ true) h xs all)

-- the layer of an object, by the list of layers
own_layer-listed : (names : Names) (layers : List LayerId) (object : ObjectId) (found : LayerId) →
    layer_numbers layers ≡ names.layers → slice_get layers object.0 ≡ Some found → layer_of names object ≡ found.0
own_layer-listed names layers object found e is =
    get_or_from_slice_get names.layers object.0 found.0 0
    (ap (λ (numbers : List ℕ). slice_get numbers object.0) (sym e)
    ∙ slice_get-map (λ (layer : LayerId). layer.0) layers object.0
    ∙ ap (λ (o : Option LayerId). elim o [ Some layer ↦ Some (layer.0) | None ↦ None ]) is)

-- an object has room on its own layer
own_room : (names : Names) (table : Option (List ℕ)) (layers : List LayerId) → layer_numbers layers ≡ names.layers →
    HaveRoom table layers → (layer : ℕ) (object : ObjectId) → object.0 < object_count names →
    layer_of names object ≡ layer → has_room table object layer ≡ true
own_room names table layers e room layer object below on =
    let as_many : length (layer_numbers layers) ≡ length layers = length-map layers (λ (layer : LayerId). layer.0) in
    let there : length (layer_numbers layers) ≡ length names.layers = ap length e in
    let within : object.0 < length layers = omega (arith, as_many, there, below) in
    let none : LayerId = record { 0 = 0 } in
    let found : LayerId = get_or layers object.0 none in
    let is : slice_get layers object.0 ≡ Some found = slice_get-get_or layers object.0 none within in
    subst (λ (n : ℕ). has_room table object n ≡ true) (sym (own_layer-listed names layers object found e is)
    ∙ on) (room object found is)

put_has_room : (names : Names) (table : Option (List ℕ)) (layers : List LayerId) →
    layer_numbers layers ≡ names.layers → HaveRoom table layers → (layer : ℕ) (object : ObjectWrite) →
    PutsOwn names layer object →
    object_has_room table layer object ≡ true
put_has_room names table layers e room layer (Put object) h = own_room names table layers e room layer object h.0 h.1
put_has_room names table layers e room layer Leave h = refl
put_has_room names table layers e room layer Clear h = refl

-- a rule of the game
rule_runs-so : (names : Names) (table : Option (List ℕ)) (layers : List LayerId) →
    layer_numbers layers ≡ names.layers → HaveRoom table layers → (rule : CompiledRule) → IsCompiledRuleOf names rule →
    rule_runs table rule ≡ true
rule_runs-so names table layers e room rule h =
    all_pass (All (All (IsCompiledCellOf names))) (row_runs table)
    (all_pass (All (IsCompiledCellOf names)) (list_all (cell_has_room table))
    (all_pass (IsCompiledCellOf names) (cell_has_room table)
    (λ cell. all_pass (IsWriteOf names) (has_room_for table) (λ write.
    put_has_room names table layers e room (write.layer).0 write.object) cell.write.layers)))
    rule.rows h.cells

-- a section of the game
section_runs-so : (names : Names) (table : Option (List ℕ)) (layers : List LayerId) →
    layer_numbers layers ≡ names.layers → HaveRoom table layers → (section : CompiledSection) →
    IsSectionOf names section →
    section_runs table section ≡ true
section_runs-so names table layers e room (Group rules) h =
    all_pass (IsCompiledRuleOf names) (rule_runs table) (rule_runs-so names table layers e room) rules h
section_runs-so names table layers e room (Loop body) h =
    all_pass (All (IsCompiledRuleOf names)) (list_all (rule_runs table))
    (all_pass (IsCompiledRuleOf names) (rule_runs table) (rule_runs-so names table layers e room)) body h

-- sections of the game
pub sections-run : (names : Names) (sections : List CompiledSection) → All (IsSectionOf names) sections →
    (table : Option (List ℕ)) (layers : List LayerId) → layer_numbers layers ≡ names.layers → HaveRoom table layers →
    IsRunnable table sections
sections-run names sections of_game table layers e room =
    all_pass (IsSectionOf names) (section_runs table) (section_runs-so names table layers e room) sections of_game

-- compact programs of a game ------------------------------------------------------------------------------------------

-- a rule turned round
turned-game : (names : Names) (rule : CompiledRule) → IsCompiledRuleOf names rule →
    IsCompiledRuleOf names (rule_turned rule)
turned-game names rule h = record {
  whole = All-mapped IsWholeRow IsWholeRow row_turned rule.rows whole-turned h.whole;
  cells =
      All-mapped (All (All (IsCompiledCellOf names))) (All (All (IsCompiledCellOf names))) row_turned rule.rows
      (λ row all. All-reverse (All (IsCompiledCellOf names)) (map reverse row)
      (All-mapped (All (IsCompiledCellOf names)) (All (IsCompiledCellOf names)) reverse row (λ part.
      All-reverse (IsCompiledCellOf names) part) all)) h.cells;
}

-- the compact rules of a game's rule
compact_rules-game : (names : Names) (rule : SourceRule) → IsWholeRuleOf names rule →
    All (IsCompiledRuleOf names) (compact_rules names rule)
compact_rules-game names rule h =
    All-filter (is_busy names) (IsCompiledRuleOf names) (map rule_forwards (compiled_rules names rule))
    (All-mapped (IsCompiledRuleOf names) (IsCompiledRuleOf names) rule_forwards (compiled_rules names rule)
    (λ made of_game. either_one (IsCompiledRuleOf names) (faces_back made.direction) (rule_turned made) made
    (turned-game names made of_game) of_game) (compiled_rules-game names rule h.0 h.1))

-- the compact program of lines
pub runs-on-boards : (names : Names) (part : Part) (lines : List RuleLine) (sections : List CompiledSection) →
    sections ≡ compact_program names part lines → All IsWholeLine lines →
    RunsOnBoards names lines sections
runs-on-boards names part lines sections e whole of_game table layers listed room =
    subst (λ (made : List CompiledSection). IsRunnable table made) (sym e)
    (sections-run names (compact_program names part lines)
    (program-each (IsWholeRuleOf names) (IsCompiledRuleOf names) (compact_rules names) (compact_rules-game names) part
    lines (whole_rules-game names lines of_game whole)) table layers listed room)
