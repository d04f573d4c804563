-- Compiled cells and rules agree with their sources: what a rule asks of a loose property lies on one layer.
use Rattle.std.proofs.Common.{◌≡◌, ℕ, Bool, true, false, ◌&&◌, not, cond, Option, Some, None, List, map, refl, sym}
use Rattle.std.proofs.Common.{subst}
use Rattle.std.specs.Prelude.{All, ⊤}
use Rattle.std.specs.List.{AllZip}
use Rattle.std.proofs.lemmas.List.Elements.{All-filter}
use Rattle.ps_model.specs.declared.pieces.ObjectId.{ObjectId}
use Rattle.ps_model.specs.declared.pieces.Motion.{Motion}
use Rattle.ps_model.specs.names.Names.{Meaning, One, AllOf, AnyOf, Names}
use Rattle.ps_model.specs.rules.SourceRules.{Item, Is, No, CellPair, SourceRule}
use Rattle.ps_model.specs.meaning.Occurrences.{are_on_one_layer, is_on_left_too, bound_name, bound_word}
use Rattle.ps_model.specs.meaning.Readings.{Reading, readings}
use Rattle.ps_model.specs.meaning.Wanted.{Wanted, Each, Any, chosen_member, motion_of_word, wanted_name, wanted_left}
use Rattle.ps_model.specs.meaning.Wanted.{wanted_right}
use Rattle.ps_model.specs.meaning.ReadingMeanings.{meaning_by, left_of_cell, right_of_cell, cell_meaning, is_possible}
use Rattle.ps_model.specs.meaning.ReadingMeanings.{reading_meaning, meanings}
use Rattle.ps_model.specs.meaning.Compiled.{meaning_of_cell, meaning_of_rule}
use Rattle.ps_model.specs.board.GameGrids.{IsCellOf}
use Rattle.ps_model.specs.meaning.GameRules.{IsPairOf, IsRuleOf, IsReadingOf}
use Rattle.ps_laws.specs.KeptGrids.{KeepsCells}
use Rattle.ps_laws.specs.EqualMeanings.{AgreeOn, SameRule}
use Rattle.ps_model.specs.meaning.CompiledCells.{cell_by}
use Rattle.ps_laws.specs.CompilingCells.{IsOnOneLayer}
use Rattle.ps_model.specs.meaning.CompiledRules.{compiled_cell, rule_by, compiled_rules}
use Rattle.ps_laws.proofs.common.Everywhere.{All-always, All-mapped}
use Rattle.ps_laws.proofs.common.Zipped.{AllZip-made}
use Rattle.ps_laws.proofs.grids.KeptReadings.{readings-game}
use Rattle.ps_laws.proofs.grids.KeptCells.{cell_meaning-keeps}
use Rattle.ps_laws.proofs.masks.FittingMasks.{masks-fit}
use Rattle.ps_laws.proofs.masks.RewritingWrites.{writes-rewrite}

-- loose properties ----------------------------------------------------------------------------------------------------

-- a property is fixed, or its members lie on one layer
loose_or_fixed : (names : Names) (chosen objects : List ObjectId) (motion : Option Motion) (one_layer left_too : Bool)
    → are_on_one_layer names objects ≡ one_layer →
    IsOnOneLayer names (cond (not (one_layer && left_too)) (Each chosen motion) (Any objects motion))
loose_or_fixed names chosen objects motion true true e = e
loose_or_fixed names chosen objects motion true false e = tt
loose_or_fixed names chosen objects motion false left_too e = tt

-- what a name asks
name_on_one_layer : (names : Names) (rule : SourceRule) (reading : Reading) (bound : Option ℕ) (meaning : Meaning)
    (motion : Option Motion) →
    IsOnOneLayer names (wanted_name names rule reading bound meaning motion)
name_on_one_layer names rule reading bound (One object) motion = tt
name_on_one_layer names rule reading bound (AllOf line objects) motion = tt
name_on_one_layer names rule reading bound (AnyOf line objects) motion =
    loose_or_fixed names (chosen_member reading bound) objects motion (are_on_one_layer names objects)
    (is_on_left_too rule (AnyOf line objects)) refl

-- what an item of the left asks
pub left_on_one_layer : (names : Names) (rule : SourceRule) (reading : Reading) (item : Item) →
    IsOnOneLayer names (wanted_left names rule reading item)
left_on_one_layer names rule reading (Is number None meaning) =
    name_on_one_layer names rule reading (Some number) meaning None
left_on_one_layer names rule reading (Is number (Some word) meaning) =
    name_on_one_layer names rule reading (Some number) meaning (motion_of_word reading (Some number) word)
left_on_one_layer names rule reading (No meaning) = tt

-- what an item of the right asks
pub right_on_one_layer : (names : Names) (rule : SourceRule) (cell : CellPair) (reading : Reading) (item : Item) →
    IsOnOneLayer names (wanted_right names rule cell reading item)
right_on_one_layer names rule cell reading (Is number None meaning) =
    name_on_one_layer names rule reading (bound_name rule cell meaning) meaning None
right_on_one_layer names rule cell reading (Is number (Some word) meaning) =
    name_on_one_layer names rule reading (bound_name rule cell meaning) meaning
    (motion_of_word reading (bound_word rule cell word meaning) word)
right_on_one_layer names rule cell reading (No meaning) = tt

-- cells ---------------------------------------------------------------------------------------------------------------

-- a compiled cell
pub cell_by-agrees : (names : Names) (left right : List Wanted) (rewrites : Bool) → All (IsOnOneLayer names) left →
    KeepsCells names (meaning_by names left right) →
    AgreeOn names rewrites (meaning_of_cell (cell_by names left right)) (meaning_by names left right)
cell_by-agrees names left right rewrites on keep = record {
  fits = λ cell of_game. masks-fit names left on cell;
  writes = λ does cell of_game. writes-rewrite names left right cell of_game;
  keeps = λ does cell of_game. subst (IsCellOf names) (sym (writes-rewrite names left right cell of_game))
      (keep cell of_game);
}

-- that of a game's cell
pub compiled_cell-agrees : (names : Names) (rule : SourceRule) (reading : Reading) (cell : CellPair) (rewrites : Bool)
    → IsReadingOf names reading → IsPairOf names cell →
    AgreeOn names rewrites (meaning_of_cell (compiled_cell names rule reading cell))
    (cell_meaning names rule reading cell)
compiled_cell-agrees names rule reading cell rewrites chosen h =
    cell_by-agrees names (left_of_cell names rule reading cell) (right_of_cell names rule reading cell) rewrites
    (All-mapped (IsOnOneLayer names) (λ (item : Item). ⊤) (wanted_left names rule reading) cell.left (λ item t.
    left_on_one_layer names rule reading item)
    (All-always (λ (item : Item). ⊤) cell.left (λ item. tt)))
    (cell_meaning-keeps names rule reading cell chosen h)

-- rules ---------------------------------------------------------------------------------------------------------------

-- the compiled rule of a game's rule and a reading
pub rule_by-same : (names : Names) (rule : SourceRule) (reading : Reading) → IsRuleOf names rule →
    IsReadingOf names reading →
    SameRule names (meaning_of_rule (rule_by names rule reading)) (reading_meaning names rule reading)
rule_by-same names rule reading all chosen = record {
  direction = refl;
  rows =
      AllZip-made (All (All (IsPairOf names))) (AllZip (AllZip (AgreeOn names rule.rewrites)))
      (map (map (compiled_cell names rule reading))) (map (map meaning_of_cell))
      (map (map (cell_meaning names rule reading)))
      (AllZip-made (All (IsPairOf names)) (AllZip (AgreeOn names rule.rewrites))
      (map (compiled_cell names rule reading)) (map meaning_of_cell) (map (cell_meaning names rule reading))
      (AllZip-made (IsPairOf names) (AgreeOn names rule.rewrites) (compiled_cell names rule reading) meaning_of_cell
      (cell_meaning names rule reading)
      (λ cell h. compiled_cell-agrees names rule reading cell rule.rewrites chosen h)))
      rule.rows all;
  rewrites = refl;
  commands = refl;
}

-- the compiled rules of a game's rule
pub compiled_rules-same : (names : Names) (rule : SourceRule) → IsRuleOf names rule →
    AllZip (SameRule names) (map meaning_of_rule (compiled_rules names rule)) (meanings names rule)
compiled_rules-same names rule all =
    AllZip-made (IsReadingOf names) (SameRule names) (rule_by names rule) meaning_of_rule (reading_meaning names rule)
    (λ reading. rule_by-same names rule reading all)
    _ (All-filter (is_possible names rule) (IsReadingOf names) (readings names rule) (readings-game names rule all))
