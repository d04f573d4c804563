-- Rules that are compiled facing down or right are the compiled rules turned so.
use Rattle.std.proofs.Common.{◌≡◌, ◌∙◌, Bool, true, false, cond, List, [], ◌∷◌, ◌++◌, map, reverse, append_assoc, refl}
use Rattle.std.proofs.Common.{sym, ap, ap₂}
use Rattle.std.specs.Prelude.{filter}
use Rattle.std.proofs.lemmas.List.{append-nil}
use Rattle.std.proofs.lemmas.Simd.{map-map}
use Rattle.ps_model.specs.declared.pieces.Direction.{Direction}
use Rattle.ps_model.specs.declared.pieces.Direction.TheVariants.{Up, Down, Left, Right}
use Rattle.ps_model.specs.names.Names.{Names}
use Rattle.ps_model.specs.rules.SourceRules.{CellPair, SourceRule, Commands}
use Rattle.ps_model.specs.meaning.TurnedRound.{row_turned}
use Rattle.ps_model.specs.meaning.Readings.{Reading}
use Rattle.ps_model.specs.meaning.ReadingMeanings.{is_possible}
use Rattle.ps_model.specs.meaning.Compiled.{CompiledCell, CompiledRule}
use Rattle.ps_model.specs.meaning.CompiledRules.{compiled_cell, rule_by}
use Rattle.ps_laws.proofs.alike.TurnedPlaces.{map-reverse}
use Rattle.ps_compile.specs.CompactPrograms.{faces_back, rule_forwards, is_busy, compact}
use Rattle.ps_compile.specs.PossibleRules.{rule_if}
use Rattle.ps_compile.specs.TurnedRows.{facing_forwards, from_end, row_from}

-- what is shown of a list from its other end
pub shown-from_end : {A B : Type 0} (backwards : Bool) (show : A → B) (items : List A) →
    map show (from_end backwards items) ≡ from_end backwards (map show items)
shown-from_end true show items = map-reverse show items
shown-from_end false show items = refl

-- rows made from their other ends
rows-back : (made : CellPair → CompiledCell) (rows : List (List (List CellPair))) →
    map (row_from true made) rows ≡ map row_turned (map (map (map made)) rows)
rows-back made [] = refl
rows-back made (row ∷ rows) =
    ap₂ (λ (first : List (List CompiledCell)) (rest : List (List (List CompiledCell))).
    first ∷ rest) (ap reverse (sym (map-map reverse (map made) row))) (rows-back made rows)

rows-same : (made : CellPair → CompiledCell) (rows : List (List (List CellPair))) →
    map (row_from false made) rows ≡ map (map (map made)) rows
rows-same made rows = refl

-- a rule of such rows
pub made-forwards : (direction : Direction) (made : CellPair →
    CompiledCell) (sources : List (List (List CellPair))) (rows : List (List (List CompiledCell))) (rewrites : Bool)
    (commands : Commands) →
    rows ≡ map (row_from (faces_back direction) made) sources →
    (let before : CompiledRule = record {
      direction = direction;
      rows = map (map (map made)) sources;
      rewrites =
          rewrites;
      commands = commands;
    } in
    let after : CompiledRule = record {
      direction = facing_forwards direction;
      rows = rows;
      rewrites =
          rewrites;
      commands = commands;
    } in after ≡ rule_forwards before)
made-forwards Up made sources rows rewrites commands e =
    ap (λ (r : List (List (List CompiledCell))). let rule : CompiledRule =
    record { direction = Down; rows = r; rewrites = rewrites; commands = commands } in rule) (e
    ∙ rows-back made sources)
made-forwards Down made sources rows rewrites commands e =
    ap (λ (r : List (List (List CompiledCell))). let rule : CompiledRule =
    record { direction = Down; rows = r; rewrites = rewrites; commands = commands } in rule) (e
    ∙ rows-same made sources)
made-forwards Left made sources rows rewrites commands e =
    ap (λ (r : List (List (List CompiledCell))). let rule : CompiledRule =
    record { direction = Right; rows = r; rewrites = rewrites; commands = commands } in rule) (e
    ∙ rows-back made sources)
made-forwards Right made sources rows rewrites commands e =
    ap (λ (r : List (List (List CompiledCell))). let rule : CompiledRule =
    record { direction = Right; rows = r; rewrites = rewrites; commands = commands } in rule) (e
    ∙ rows-same made sources)

-- the compiled rule of a reading, made so
pub made-rule : (names : Names) (rule source : SourceRule) (reading : Reading) (direction : Direction)
    (backwards : Bool) (rows : List (List (List CompiledCell))) →
    source ≡ rule → direction ≡ facing_forwards reading.direction → backwards ≡ faces_back reading.direction →
    rows ≡ map (row_from backwards (compiled_cell names rule reading)) source.rows →
    (let made : CompiledRule = record {
      direction = direction;
      rows = rows;
      rewrites = source.rewrites;
      commands =
          source.commands;
    } in made ≡ rule_forwards (rule_by names rule reading))
made-rule names rule source reading direction backwards rows s d b e =
    let cell : CellPair → CompiledCell = compiled_cell names rule reading in
    ap₂ (λ (way : Direction) (of : SourceRule). let made : CompiledRule =
    record { direction = way; rows = rows; rewrites = of.rewrites; commands = of.commands } in made) d s
    ∙ made-forwards reading.direction cell rule.rows rows rule.rewrites rule.commands
    (e ∙ ap₂ (λ (back : Bool) (of : SourceRule). map (row_from back cell) of.rows) b s)

-- what is put last of a reading
pub compact-possible : (names : Names) (rule : SourceRule) (reading : Reading) (made grown : List CompiledRule)
    (one : CompiledRule) → one ≡ rule_forwards (rule_by names rule reading) →
    grown ≡ made ++ filter (is_busy names) (one ∷ []) →
    is_possible names rule reading ≡ true → grown ≡ made ++ compact names (rule_if names rule reading)
compact-possible names rule reading made grown one e g possible =
    g ∙ ap (λ (r : CompiledRule). made ++ filter (is_busy names) (r ∷ [])) e
    ∙ sym (ap (λ (yes : Bool). made ++ compact names (cond yes (rule_by names rule reading ∷ []) [])) possible)

pub compact-impossible : (names : Names) (rule : SourceRule) (reading : Reading) (made : List CompiledRule) →
    is_possible names rule reading ≡ false → made ≡ made ++ compact names (rule_if names rule reading)
compact-impossible names rule reading made impossible = sym (append-nil made)
    ∙ sym (ap (λ (yes : Bool). made ++ compact names (cond yes (rule_by names rule reading ∷ []) [])) impossible)

-- one rule more, if it can do something
pub compact-more : (made rest : List CompiledRule) (rule : CompiledRule) (busy : Bool) →
    (made ++ cond busy (rule ∷ []) []) ++ rest ≡ made ++ cond busy (rule ∷ rest) rest
compact-more made rest rule true = append_assoc made (rule ∷ []) rest
compact-more made rest rule false = ap (λ (front : List CompiledRule). front ++ rest) (append-nil made)
