-- What an attempt comes to.
use Rattle.std.proofs.Common.{◌≡◌, ◌≢◌, ◌∙◌, ℕ, Bool, true, false, Option, List, [], ◌∷◌, map, fold, refl, subst, sym}
use Rattle.std.proofs.Common.{ap, ap₂}
use Rattle.ps_model.specs.board.Grid.{Grid}
use Rattle.ps_model.specs.board.Places.{places}
use Rattle.ps_model.specs.board.Attempts.{Result, Rewritten, applied, attempt_by, combinations, queued}
use Rattle.ps_model.specs.rules.SourceRules.{Commands}
use Rattle.ps_model.specs.meaning.RuleMeanings.{CellMeaning, RuleMeaning}
use Rattle.ps_model.specs.declared.pieces.Direction.{Direction}
use Rattle.ps_program.specs.declared.cells.CompiledCell.{CompiledCell}
use Rattle.ps_program.specs.declared.rows.CompiledRow.{CompiledRow}
use Rattle.ps_places.specs.Lines.{part_meaning}
use Rattle.ps_places.specs.RowPlaces.{parts_meaning, row_meaning}
use Rattle.ps_engine.specs.Choosing.{rows_meaning}
use Rattle.ps_engine.specs.OnePart.{one_part, rows_parts}

-- a grid as it was
abbrev pub unchanged : Grid → Rewritten
unchanged g = record { grid = g; changed = false }

abbrev pub rule_of : Direction → List (List (List CellMeaning)) → Bool → Commands → RuleMeaning
rule_of direction rows rewrites commands = record {
  direction = direction;
  rows = rows;
  rewrites = rewrites;
  commands =
      commands;
}

-- without a combination nothing is
pub attempt_none : (direction : Direction) (rows : List (List (List CellMeaning))) (rewrites : Bool)
    (commands : Commands) (g : Grid) (queue : Commands) (all : List (List (List ℕ))) → all ≡ [] →
    (let r : Result = record { state = record { grid = g; queue = queue }; changed = false } in
    r) ≡ attempt_by (rule_of direction rows rewrites commands) (record { grid = g; queue = queue }) all
attempt_none direction rows true commands g queue all e = rw e refl
attempt_none direction rows false commands g queue all e = rw e refl

-- or all are applied too
pub attempt_walked : (direction : Direction) (rows : List (List (List CellMeaning))) (rewrites : Bool)
    (commands : Commands) (g : Grid) (queue : Commands) (all : List (List (List ℕ)))
    (first : List (List ℕ)) (others : List (List (List ℕ))) (r : Rewritten) → all ≡ first ∷ others → rewrites ≡ true →
    r ≡ fold (applied rows) (unchanged g) all →
    (let s : Result = record {
      state = record { grid = r.grid; queue = queued queue commands };
      changed =
          r.changed;
    } in s) ≡ attempt_by (rule_of direction rows rewrites commands) (record { grid = g; queue = queue }) all
attempt_walked direction rows rewrites commands g queue all first others r e does made =
    ap (λ (x : Rewritten). let s : Result = record {
      state =
          record { grid = x.grid; queue = queued queue commands };
      changed = x.changed;
    } in s) (made
    ∙ ap (fold (applied rows) (unchanged g)) e)
    ∙ sym (ap₂ (λ (b : Bool) (xs : List (List (List ℕ))).
    attempt_by (rule_of direction rows b commands) (record { grid = g; queue = queue }) xs) does e)

-- the commands of a rule that rewrites nothing, where it has a combination
pub attempt_asked : (direction : Direction) (rows : List (List (List CellMeaning))) (rewrites : Bool)
    (commands : Commands) (g : Grid) (queue : Commands) (all : List (List (List ℕ)))
    (first : List (List ℕ)) (others : List (List (List ℕ))) → all ≡ first ∷ others → rewrites ≡ false →
    (let r : Result = record { state = record { grid = g; queue = queued queue commands }; changed = false } in
    r) ≡ attempt_by (rule_of direction rows rewrites commands) (record { grid = g; queue = queue }) all
attempt_asked direction rows rewrites commands g queue all first others e idle = rw (e, idle) refl

pub attempt_some : (direction : Direction) (rows : List (List (List CellMeaning))) (rewrites : Bool)
    (commands : Commands) (g : Grid) (queue : Commands) (all : List (List (List ℕ))) →
    all ≢ [] → rewrites ≡ false →
    (let r : Result = record { state = record { grid = g; queue = queued queue commands }; changed = false } in
    r) ≡ attempt_by (rule_of direction rows rewrites commands) (record { grid = g; queue = queue }) all
attempt_some direction rows rewrites commands g queue [] some idle = absurd (some refl)
attempt_some direction rows rewrites commands g queue (first ∷ others) some idle =
    attempt_asked direction rows rewrites commands g queue (first ∷ others) first others refl idle

-- or all of some are applied
pub attempt_written : (direction : Direction) (rows : List (List (List CellMeaning))) (rewrites : Bool)
    (commands : Commands) (g : Grid) (queue : Commands) (all : List (List (List ℕ))) (r : Rewritten) →
    rewrites ≡ true → all ≢ [] → r ≡ fold (applied rows) (unchanged g) all →
    (let s : Result = record {
      state = record { grid = r.grid; queue = queued queue commands };
      changed =
          r.changed;
    } in s) ≡ attempt_by (rule_of direction rows rewrites commands) (record { grid = g; queue = queue }) all
attempt_written direction rows rewrites commands g queue [] r does some made = absurd (some refl)
attempt_written direction rows rewrites commands g queue (first ∷ others) r does some made =
    attempt_walked direction rows rewrites commands g queue (first ∷ others) first others r refl does made

-- what the only part of rows means
pub rows_by_parts : (table : Option (List ℕ)) (rows : List CompiledRow) →
    rows_meaning table rows ≡ map (parts_meaning table) (rows_parts rows)
rows_by_parts table [] = refl
rows_by_parts table (row ∷ rows) = ap (λ (ms : List (List (List CellMeaning))).
    row_meaning table row ∷ ms) (rows_by_parts table rows)

pub only_part_meant : (table : Option (List ℕ)) (rows : List CompiledRow) (part : List CompiledCell) →
    rows_parts rows ≡ one_part part →
    rows_meaning table rows ≡ (part_meaning table part ∷ []) ∷ []
only_part_meant table rows part only = rows_by_parts table rows ∙ ap (map (parts_meaning table)) only

-- one row has combinations where it has places
pub some_alone : (ps : List (List ℕ)) → ps ≢ [] → combinations (ps ∷ []) ≢ []
some_alone [] some none = some refl
some_alone (p ∷ ps) some none = absurd (cc)

pub none_alone : (ps : List (List ℕ)) → ps ≡ [] → combinations (ps ∷ []) ≡ []
none_alone ps none = ap (λ (xs : List (List ℕ)). combinations (xs ∷ [])) none

-- all places of an only part are applied
pub attempt_part-written : (table : Option (List ℕ)) (direction : Direction) (rows : List CompiledRow)
    (part : List CompiledCell) (rewrites : Bool) (commands : Commands) (g : Grid) (queue : Commands) (r : Rewritten) →
    rows_parts rows ≡ one_part part → rewrites ≡ true →
    places g direction (part_meaning table part ∷ []) ≢ [] →
    r ≡ fold (applied ((part_meaning table part ∷ []) ∷ [])) (unchanged g)
    (combinations (places g direction (part_meaning table part ∷ []) ∷ [])) →
    (let s : Result = record {
      state = record { grid = r.grid; queue = queued queue commands };
      changed =
          r.changed;
    } in s) ≡ attempt_by (rule_of direction (rows_meaning table rows) rewrites commands)
    (record { grid = g; queue = queue }) (combinations (map (places g direction) (rows_meaning table rows)))
attempt_part-written table direction rows part rewrites commands g queue r only does some made =
    let all : List (List (List CellMeaning)) → List (List (List ℕ)) = λ meant.
    combinations (map (places g direction) meant) in
    let is : rows_meaning table rows ≡ (part_meaning table part ∷ []) ∷ [] = only_part_meant table rows part only in
    attempt_written direction (rows_meaning table rows) rewrites commands g queue (all (rows_meaning table rows)) r does
    (subst (λ (meant : List (List (List CellMeaning))). all meant ≢ []) (sym is)
    (some_alone (places g direction (part_meaning table part ∷ [])) some))
    (made ∙ sym (ap (λ (meant : List (List (List CellMeaning))). fold (applied meant) (unchanged g) (all meant)) is))
