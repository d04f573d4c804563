-- Compact programs run as the lines that they are made of mean: turning a rule round and leaving out one that can do
-- nothing change no round.
use Rattle.std.proofs.Common.{◌≡◌, Bool, true, false, not, cond, List, [], ◌∷◌, map, flat_map, reverse, refl, sym}
use Rattle.std.proofs.Common.{subst, ap, ap₂, ◌∙◌}
use Rattle.std.specs.Prelude.{All}
use Rattle.std.specs.List.{AllZip}
use Rattle.std.proofs.lemmas.List.{map-append}
use Rattle.std.proofs.lemmas.List.Elements.{All-head, All-tail}
use Rattle.std.proofs.lemmas.Simd.{map-map}
use Rattle.ps_model.specs.declared.pieces.Direction.{Direction}
use Rattle.ps_model.specs.declared.pieces.Direction.TheVariants.{Up, Down, Left, Right}
use Rattle.ps_model.specs.declared.rules.Part.{Part}
use Rattle.ps_model.specs.names.Names.{Names}
use Rattle.ps_model.specs.rules.SourceRules.{SourceRule, RuleLine, Commands}
use Rattle.ps_model.specs.board.GameGrids.{IsGridOf}
use Rattle.ps_model.specs.board.Attempts.{Result}
use Rattle.ps_model.specs.board.Programs.{after_change, round}
use Rattle.ps_model.specs.board.RulePrograms.{program_of}
use Rattle.ps_model.specs.meaning.GameRules.{IsRuleOf}
use Rattle.ps_model.specs.meaning.TurnedRound.{row_turned, forwards}
use Rattle.ps_model.specs.meaning.RuleMeanings.{CellMeaning, RuleMeaning}
use Rattle.ps_model.specs.meaning.ReadingMeanings.{meanings}
use Rattle.ps_model.specs.meaning.Compiled.{CompiledCell, CompiledRule, CompiledSection, meaning_of_cell}
use Rattle.ps_model.specs.meaning.Compiled.{meaning_of_rule, meaning_of_program}
use Rattle.ps_model.specs.meaning.CompiledRules.{compiled_rules}
use Rattle.ps_laws.specs.EqualMeanings.{SameRule, EqualResults}
use Rattle.ps_laws.specs.IdleRules.{IsIdle}
use Rattle.ps_laws.specs.AlikeRounds.{Alike, AlikeSection}
use Rattle.ps_laws.proofs.common.RuleSections.{rules-game, program-related}
use Rattle.ps_laws.proofs.masks.AgreeingCells.{compiled_rules-same}
use Rattle.ps_laws.proofs.alike.TurnedPlaces.{map-reverse}
use Rattle.ps_laws.proofs.alike.AlikeRounds.{alike-append, alike-forwards}
use Rattle.ps_laws.proofs.alike.EqualPrograms.{round-same}
use Rattle.ps_laws.proofs.alike.AlikePrograms.{program_run-alike}
use Rattle.ps_compile.specs.IdleRules.{is_idle}
use Rattle.ps_compile.specs.CompactPrograms.{rule_forwards, compact, compact_rules, compact_program}
use Rattle.ps_compile.specs.AlikeRuns.{RunsAlike}
use Rattle.ps_compile.proofs.IdleRules.{idle-so}

-- rules turned round --------------------------------------------------------------------------------------------------

-- what is made of the cells of a row that is turned
row-turned : {A B : Type 0} (f : A → B) (row : List (List A)) →
    map (map f) (row_turned row) ≡ row_turned (map (map f) row)
row-turned f row =
    map-reverse (map f) (map reverse row)
    ∙ ap reverse (map-map (map f) reverse row ∙ each-reversed row ∙ sym (map-map reverse (map f) row)) where
      each-reversed : (parts : List (List _)) →
          map (λ part. map f (reverse part)) parts ≡ map (λ part. reverse (map f part)) parts
      each-reversed [] = refl
      each-reversed (part ∷ parts) = ap₂ (λ (first : List _) (rest : List (List _)).
          first ∷ rest) (map-reverse f part) (each-reversed parts)

rows-turned : {A B : Type 0} (f : A → B) (rows : List (List (List A))) →
    map (map (map f)) (map row_turned rows) ≡ map row_turned (map (map (map f)) rows)
rows-turned f [] = refl
rows-turned f (row ∷ rows) = ap₂ (λ (first : List (List _)) (rest : List (List (List _))).
    first ∷ rest) (row-turned f row) (rows-turned f rows)

-- a compiled rule turned means what it means, turned
forwards-by : (direction : Direction) (rows : List (List (List CompiledCell))) (rewrites : Bool) (commands : Commands) →
    (let rule : CompiledRule = record {
      direction = direction;
      rows = rows;
      rewrites = rewrites;
      commands =
          commands;
    } in meaning_of_rule (rule_forwards rule) ≡ forwards (meaning_of_rule rule))
forwards-by Up rows rewrites commands =
    ap (λ (made : List (List (List CellMeaning))). let rule : RuleMeaning =
    record { direction = Down; rows = made; rewrites = rewrites; commands = commands } in rule)
    (rows-turned meaning_of_cell rows)
forwards-by Down rows rewrites commands = refl
forwards-by Left rows rewrites commands =
    ap (λ (made : List (List (List CellMeaning))). let rule : RuleMeaning =
    record { direction = Right; rows = made; rewrites = rewrites; commands = commands } in rule)
    (rows-turned meaning_of_cell rows)
forwards-by Right rows rewrites commands = refl

forwards-meant : (rule : CompiledRule) → meaning_of_rule (rule_forwards rule) ≡ forwards (meaning_of_rule rule)
forwards-meant rule = forwards-by rule.direction rule.rows rule.rewrites rule.commands

-- rules ---------------------------------------------------------------------------------------------------------------

-- a rule that does nothing left out
alike-without : (names : Names) (rule : RuleMeaning) (a b : List RuleMeaning) → IsIdle names rule →
    Alike names (rule ∷ a) b → Alike names a b
alike-without names rule a b idle h state shape =
    let one : EqualResults names (round (rule ∷ a) state) (round b state) = h state shape in
    let none : round (rule ∷ a) state ≡ round a state =
    ap (λ (first : Result). after_change first.changed (round a first.state)) (idle state shape) in
    record {
      equal = sym none ∙ one.equal;
      grid =
          subst (λ (result : Result). IsGridOf names result.state.grid) none one.grid;
    }

-- one rule more, if it isn't void
alike-kept : (names : Names) (rule : CompiledRule) (rules : List CompiledRule) (b : List RuleMeaning) (idle : Bool) →
    is_idle names rule ≡ idle → Alike names (meaning_of_rule rule ∷ map meaning_of_rule rules) b →
    Alike names (map meaning_of_rule (cond (not idle) (rule ∷ rules) rules)) b
alike-kept names rule rules b true e h = alike-without names (meaning_of_rule rule) (map meaning_of_rule rules) b
    (idle-so names rule e) h
alike-kept names rule rules b false e h = h

one-alike : (names : Names) (rule : CompiledRule) (meant : RuleMeaning) → SameRule names (meaning_of_rule rule) meant →
    Alike names (meaning_of_rule (rule_forwards rule) ∷ []) (meant ∷ [])
one-alike names rule meant same =
    subst (λ (turned : RuleMeaning). Alike names (turned ∷ []) (meant ∷ [])) (sym (forwards-meant rule))
    (alike-forwards names (meaning_of_rule rule ∷ []) (meant ∷ []) (λ state shape.
    round-same names (meaning_of_rule rule ∷ []) (meant ∷ []) (same, tt) state shape))

compact-alike : (names : Names) (rules : List CompiledRule) (meant : List RuleMeaning) →
    AllZip (SameRule names) (map meaning_of_rule rules) meant → Alike names (map meaning_of_rule (compact names rules)) meant
compact-alike names [] [] h = λ state shape. record { equal = refl; grid = shape }
compact-alike names [] (m ∷ ms) h = absurd h
compact-alike names (rule ∷ rules) [] h = absurd h
compact-alike names (rule ∷ rules) (m ∷ ms) h =
    alike-kept names (rule_forwards rule) (compact names rules) (m ∷ ms) (is_idle names (rule_forwards rule)) refl
    (alike-append names (meaning_of_rule (rule_forwards rule) ∷ []) (m ∷ []) (map meaning_of_rule (compact names rules)) ms
    (one-alike names rule m h.0) (compact-alike names rules ms h.1))

-- programs ------------------------------------------------------------------------------------------------------------

-- the rules of a group
group-alike : (names : Names) (group : List SourceRule) → All (IsRuleOf names) group →
    Alike names (map meaning_of_rule (flat_map (compact_rules names) group)) (flat_map (meanings names) group)
group-alike names [] all = λ state shape. record { equal = refl; grid = shape }
group-alike names (rule ∷ group) all =
    subst (λ (made : List RuleMeaning). Alike names made (flat_map (meanings names) (rule ∷ group)))
    (sym (map-append meaning_of_rule (compact_rules names rule) (flat_map (compact_rules names) group)))
    (alike-append names (map meaning_of_rule (compact_rules names rule)) (meanings names rule)
    (map meaning_of_rule (flat_map (compact_rules names) group)) (flat_map (meanings names) group)
    (compact-alike names (compiled_rules names rule) (meanings names rule)
    (compiled_rules-same names rule (All-head (IsRuleOf names) rule group all)))
    (group-alike names group (All-tail (IsRuleOf names) rule group all)))

-- the compact program of lines runs as the lines mean
pub runs-alike : (names : Names) (part : Part) (lines : List RuleLine) (sections : List CompiledSection) →
    sections ≡ compact_program names part lines → RunsAlike names part lines sections
runs-alike names part lines sections e all =
    program_run-alike names (meaning_of_program sections) (program_of names part lines)
    (subst (λ (made : List CompiledSection). AllZip (AlikeSection names) (meaning_of_program made)
    (program_of names part lines)) (sym e)
    (program-related (IsRuleOf names) (Alike names) (compact_rules names) (map meaning_of_rule) (meanings names)
    (group-alike names) part lines (rules-game names lines all)))
