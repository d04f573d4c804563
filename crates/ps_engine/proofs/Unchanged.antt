-- What tells that nothing has changed leaves the grid as it is.
use Rattle.std.proofs.Common.{◌≡◌, ◌∙◌, ℕ, zero, suc, Bool, true, false, not, Option, Some, None, List, [], ◌∷◌}
use Rattle.std.proofs.Common.{fold, refl, sym, ap}
use Rattle.std.specs.Prelude.{slice_get}
use Rattle.std.proofs.lemmas.Bool.{false≢true, not-false, or_parts}
use Rattle.ps_model.specs.declared.pieces.Slot.{Slot}
use Rattle.ps_model.specs.declared.limits.TheConstants.{ROUND_LIMIT}
use Rattle.ps_model.specs.board.Places.{cells_in}
use Rattle.ps_model.specs.board.Attempts.{Result, Rewritten, State, all_fit, applied, attempt}
use Rattle.ps_model.specs.board.Attempts.{combinations_on, rewritten_along, rewritten_cell, rewritten_rows, same_cell}
use Rattle.ps_model.specs.board.Attempts.{with_cell}
use Rattle.ps_model.specs.board.Programs.{group, round, settled}
use Rattle.ps_model.specs.meaning.RuleMeanings.{CellMeaning, RuleMeaning}
use Rattle.ps_laws.proofs.alike.TurnedAttempts.{chosen_by}
use Rattle.ps_laws.proofs.common.SameThings.{same_cell-true}
use Rattle.ps_engine.proofs.Sequences.{group_is}
use Rattle.ps_engine.proofs.WrittenOnce.{put_again}

-- cells and rows of cells
cell_kept : (meaning : CellMeaning) (number : ℕ) (r : Rewritten) (found : Option (List Slot)) →
    slice_get (r.grid).cells number ≡ found → (rewritten_cell r meaning number found).changed ≡ false →
    rewritten_cell r meaning number found ≡ r
cell_kept meaning number r None e off = refl
cell_kept meaning number r (Some cell) e off =
    let new : List Slot = meaning.rewritten cell in
    let parts = or_parts r.changed (not (same_cell cell new)) off in
    let same : cell ≡ new = same_cell-true cell new (not-false (same_cell cell new) parts.1) in
    ap (with_cell r number cell) (sym same) ∙ put_again r number cell e

along_kept : (meanings : List CellMeaning) (cells : List ℕ) (r : Rewritten) →
    (rewritten_along r meanings cells).changed ≡ false → rewritten_along r meanings cells ≡ r
along_kept [] cells r off = refl
along_kept (meaning ∷ meanings) [] r off = refl
along_kept (meaning ∷ meanings) (cell ∷ cells) r off =
    let next : Rewritten = rewritten_cell r meaning cell (slice_get (r.grid).cells cell) in
    let rest : rewritten_along next meanings cells ≡ next = along_kept meanings cells next off in
    rest ∙ cell_kept meaning cell r (slice_get (r.grid).cells cell) refl
    (sym (ap (λ (made : Rewritten). made.changed) rest) ∙ off)

rows_kept : (rows : List (List (List CellMeaning))) (places : List (List ℕ)) (r : Rewritten) →
    (rewritten_rows r rows places).changed ≡ false → rewritten_rows r rows places ≡ r
rows_kept [] places r off = refl
rows_kept (row ∷ rows) [] r off = refl
rows_kept (row ∷ rows) (place ∷ places) r off =
    let next : Rewritten = rewritten_along r (cells_in row) place in
    let rest : rewritten_rows next rows places ≡ next = rows_kept rows places next off in
    rest ∙ along_kept (cells_in row) place r (sym (ap (λ (made : Rewritten). made.changed) rest) ∙ off)

-- combinations
one_kept : (fits : Bool) (made r : Rewritten) → (made.changed ≡ false → made ≡ r) →
    (chosen_by fits made r).changed ≡ false → chosen_by fits made r ≡ r
one_kept true made r kept off = kept off
one_kept false made r kept off = refl

all_kept : (rows : List (List (List CellMeaning))) (combinations : List (List (List ℕ))) (r : Rewritten) →
    (fold (applied rows) r combinations).changed ≡ false → fold (applied rows) r combinations ≡ r
all_kept rows [] r off = refl
all_kept rows (first ∷ others) r off =
    let next : Rewritten = applied rows r first in
    let rest : fold (applied rows) next others ≡ next = all_kept rows others next off in
    rest ∙ one_kept (all_fit r.grid rows first) (rewritten_rows r rows first) r (rows_kept rows first r)
    (sym (ap (λ (made : Rewritten). made.changed) rest) ∙ off)

applied_kept : (rewrites : Bool) (made start : Rewritten) → (made.changed ≡ false → made ≡ start) →
    (chosen_by rewrites made start).changed ≡ false → (chosen_by rewrites made start).grid ≡ start.grid
applied_kept true made start kept off = ap (λ (r : Rewritten). r.grid) (kept off)
applied_kept false made start kept off = refl

-- an attempt, a round, a group
attempt_kept : (rule : RuleMeaning) (state : State) → (attempt rule state).changed ≡ false →
    ((attempt rule state).state).grid ≡ state.grid
attempt_kept rule state off =
    let start : Rewritten = record { grid = state.grid; changed = false } in
    let found : List (List (List ℕ)) = combinations_on state.grid rule in
    applied_kept rule.rewrites (fold (applied rule.rows) start found) start (all_kept rule.rows found start) off

pub made_kept : (rule : RuleMeaning) (state : State) (made : Result) → made ≡ attempt rule state →
    made.changed ≡ false → (made.state).grid ≡ state.grid
made_kept rule state made is off =
    ap (λ (r : Result). (r.state).grid) is
    ∙ attempt_kept rule state (sym (ap (λ (r : Result). r.changed) is) ∙ off)

round_kept : (rules : List RuleMeaning) (state : State) → (round rules state).changed ≡ false →
    ((round rules state).state).grid ≡ state.grid
round_kept [] state off = refl
round_kept (rule ∷ rules) state off =
    let first : Result = attempt rule state in
    let parts = or_parts first.changed (round rules first.state).changed off in
    round_kept rules first.state parts.1 ∙ attempt_kept rule state parts.0

-- one of two results
abbrev either_result : Bool → Result → Result → Result
either_result changed more last = elim changed [ true ↦ more | false ↦ last ]

-- what has changed stays changed
settled_changed : (rules : List RuleMeaning) (n : ℕ) (state : State) → (settled rules n true state).changed ≡ true
settled_changed rules zero state = refl
settled_changed rules (suc n) state =
    by (round rules state).changed (settled_changed rules n (round rules state).state)
  where
    by : (changed : Bool) → (settled rules n true (round rules state).state).changed ≡ true →
        (either_result changed (settled rules n true (round rules state).state) (record {
          state = (round rules state).state;
          changed = true;
        })).changed ≡ true
    by true more = more
    by false more = refl

-- a round that changed something, and one that didn't
step_kept : (rules : List RuleMeaning) (n : ℕ) (state : State) (next : Result) →
    (next.changed ≡ false → (next.state).grid ≡ state.grid) → (changed : Bool) → next.changed ≡ changed →
    (either_result changed (settled rules n true next.state) (record {
      state = next.state;
      changed = false;
    })).changed ≡ false →
    ((either_result changed (settled rules n true next.state) (record {
      state = next.state;
      changed = false;
    })).state).grid ≡ state.grid
step_kept rules n state next kept true e off = absurd (false≢true (sym off ∙ settled_changed rules n next.state))
step_kept rules n state next kept false e off = kept e

settled_kept : (rules : List RuleMeaning) (n : ℕ) (state : State) → (settled rules n false state).changed ≡ false →
    ((settled rules n false state).state).grid ≡ state.grid
settled_kept rules zero state off = refl
settled_kept rules (suc n) state off =
    step_kept rules n state (round rules state) (round_kept rules state) (round rules state).changed refl off

pub group_kept : (rules : List RuleMeaning) (state : State) → (group rules state).changed ≡ false →
    ((group rules state).state).grid ≡ state.grid
group_kept rules state off =
    let is : settled rules ROUND_LIMIT false state ≡ group rules state = group_is rules ROUND_LIMIT state refl in
    ap (λ (r : Result). (r.state).grid) (sym is)
    ∙ settled_kept rules ROUND_LIMIT state (ap (λ (r : Result). r.changed) is ∙ off)
