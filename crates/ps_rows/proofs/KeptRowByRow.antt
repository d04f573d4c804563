-- Rows of which columns are kept, one row behind the other.
use Rattle.std.proofs.Common.{◌≡◌, ◌∙◌, ◌≢◌, ℕ, ◌+◌, ◌<◌, ◌≤◌, inl, inr, Bool, List, [], length, refl, sym, subst, arith}
use Rattle.std.specs.Prelude.{slice_index_or, slice_set}
use Rattle.std.proofs.lemmas.Bool.{cases_lt}
use Rattle.std.proofs.lemmas.List.{get_or-set_same, get_or-set_other, length-set}
use Rattle.ps_model.specs.declared.pieces.Slot.{Slot}
use Rattle.ps_model.specs.board.Grid.{Grid}
use Rattle.ps_rows.specs.RowsKept.{AreKept, IsKept}

-- the rows below a number are done, and the others as they were
pub record AreKeptBelow (g : Grid) (first end : ℕ) (old new : List (List Bool)) (test : List Slot → Bool) : Type 0 where
  pub done : (k : ℕ) → k < end → IsKept g (first + k) (slice_index_or old k []) (slice_index_or new k []) test
  pub left : (k : ℕ) → end ≤ k → slice_index_or new k [] ≡ slice_index_or old k []
  pub long : length new ≡ length old

module _ (g : Grid) (first : ℕ) (old : List (List Bool)) (test : List Slot → Bool) where
  pub none_kept : AreKeptBelow g first 0 old old test
  none_kept = record { done = λ k h. absurd (omega (arith, h)); left = λ k h. refl; long = refl }

  -- one row more
  pub row_kept : (step : ℕ) (now : List (List Bool)) (word : List Bool) → step < length old →
      AreKeptBelow g first step old now test →
      IsKept g (first + step) (slice_index_or now step []) word test →
      AreKeptBelow g first (step + 1) old (slice_set now step word) test
  row_kept step now word inside was here =
      let low : step < length now = omega (arith, inside, was.long) in
      record {
        done = λ k h.
            let P : List Bool → Type 0 = λ w. IsKept g (first + k) (slice_index_or old k []) w test in
            elim (cases_lt k step) [
              | inl below ↦
                  let other : k ≢ step = λ e. absurd (omega (arith, below, e)) in
                  subst P (sym (get_or-set_other now step k word [] other)) (was.done k below)
              | inr above ↦
                  let same : k ≡ step = omega (arith, h, above) in
                  let Q : List Bool → Type 0 = λ w. IsKept g (first + step) w (slice_index_or (slice_set now step word) step []) test in
                  let R : List Bool → Type 0 = λ w. IsKept g (first + step) (slice_index_or now step []) w test in
                  rw same (subst Q (was.left step (omega arith)) (subst R (sym (get_or-set_same now step word [] low)) here))
            ];
        left = λ k h.
            let other : k ≢ step = λ e. absurd (omega (arith, h, e)) in
            get_or-set_other now step k word [] other ∙ was.left k (omega (arith, h));
        long = length-set now step word ∙ was.long;
      }

  -- all rows
  pub all_kept : (end : ℕ) (new : List (List Bool)) → length old ≤ end → AreKeptBelow g first end old new test →
      AreKept g first old new test
  all_kept end new whole was = record { long = was.long; each = λ k low. was.done k (omega (arith, whole, low)) }
