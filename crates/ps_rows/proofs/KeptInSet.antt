-- Rows of which columns are kept, where a set has those that are left to be looked at.
use Rattle.std.proofs.Common.{◌≡◌, ◌∙◌, ◌≢◌, ℕ, ◌+◌, ◌*◌, ◌<◌, ◌≤◌, ◌&&◌, ◌||◌, ◌∷◌, inl, inr, Bool, true, false, not}
use Rattle.std.proofs.Common.{List, [], length, refl, sym, ap, subst, arith}
use Rattle.std.specs.Prelude.{nat_lt, slice_index_or, slice_set}
use Rattle.std.proofs.Math.Bool.{and-true}
use Rattle.std.proofs.lemmas.Bool.{and_parts, cases_Bool, cases_eq, false≢true, le-ltb, lt-ltb, ltb-false, ltb-true, ne_eqb}
use Rattle.std.proofs.lemmas.List.{get_or-set_same, get_or-set_other, length-set}
use Rattle.ps_model.specs.declared.limits.TheConstants.{SIDE_LIMIT}
use Rattle.ps_model.specs.declared.pieces.Slot.{Slot}
use Rattle.ps_model.specs.board.Grid.{Grid, cell_at}
use Rattle.ps_board.specs.ColumnSets.{both_columns, column_at, columns_below, columns_without, no_columns, set_columns}
use Rattle.ps_board.proofs.ColumnLaws.{below_at, first_in, none_in}
use Rattle.ps_board.proofs.Taken.{in_both, taken_gone, taken_out, was_in}
use Rattle.ps_rows.specs.RowTests.{IsRowOf}
use Rattle.ps_rows.specs.RowsKept.{AreKept, IsKept}
use Rattle.ps_rows.proofs.Sets.{none_at, wide_on, without_at}

-- a row of which each cell passes -------------------------------------------------------------------------------------

module _ (g : Grid) (row : ℕ) (test : List Slot → Bool) (narrow : g.width ≤ SIDE_LIMIT) where
  -- what isn't in a set without columns
  pub row_of_all : (all any : List Bool) → any ≡ no_columns → IsRowOf g row (columns_without all any) test →
      IsRowOf g row all test
  row_of_all all any none told = λ x h.
      sym (without_at all any x (omega (arith, h, narrow))
      ∙ ap (λ (w : List Bool). column_at all x && not (column_at w x)) none
      ∙ ap (λ (b : Bool). column_at all x && not b) (none_at x) ∙ and-true (column_at all x))
      ∙ told x h

  -- all its columns are kept
  pub kept_at_rest : (all columns : List Bool) → all ≡ columns_below g.width → IsRowOf g row all test →
      IsKept g row columns columns test
  kept_at_rest all columns is told =
      record {
        part = λ x h.
            let passes : test (cell_at g (x * g.height + row)) ≡ true =
            sym (told x h) ∙ wide_on all g.width narrow is x h in
            sym (ap (λ (b : Bool). column_at columns x && b) passes ∙ and-true (column_at columns x));
        within = λ inside. inside;
        set = λ so. so;
      }

-- a row below a height isn't outside of all rows that a set has room for
pub never_outside : (height room row : ℕ) (all : List Bool) → all ≡ columns_below room → height ≤ room →
    height ≤ SIDE_LIMIT → row < height → column_at all row ≡ false → true ≡ false
never_outside height room row all is low few under off =
    sym (lt-ltb row room (omega (arith, under, low)))
    ∙ sym (below_at room row (omega (arith, under, few)))
    ∙ sym (ap (λ (w : List Bool). column_at w row) is) ∙ off

-- row by row of a set -------------------------------------------------------------------------------------------------

-- the rows that aren't left are done, and the others as they were
pub record AreKeptBut (g : Grid) (first : ℕ) (old : List (List Bool)) (left : List Bool) (new : List (List Bool))
    (test : List Slot → Bool) : Type 0 where
  pub done : (k : ℕ) → k < length old → column_at left (first + k) ≡ false →
      IsKept g (first + k) (slice_index_or old k []) (slice_index_or new k []) test
  pub same : (k : ℕ) → k < length old → column_at left (first + k) ≡ true →
      slice_index_or new k [] ≡ slice_index_or old k []
  pub inside : (x : ℕ) → x < SIDE_LIMIT → column_at left x ≡ true → (first ≤ x) × (x < first + length old)
  pub long : length new ≡ length old

at_cut : (asked cut : List Bool) (first x : ℕ) → x < SIDE_LIMIT → cut ≡ columns_without asked (columns_below first) →
    column_at cut x ≡ (column_at asked x && not (nat_lt x first))
at_cut asked cut first x small cutting =
    ap (λ (w : List Bool). column_at w x) cutting ∙ without_at asked (columns_below first) x small
    ∙ ap (λ (b : Bool). column_at asked x && not b) (below_at first x small)

module _ (g : Grid) (first : ℕ) (old : List (List Bool)) (test : List Slot → Bool)
    (few : first + length old ≤ SIDE_LIMIT) where
  -- of the rows from the first one on up to an end, those in a set are left
  pub none_kept_but : (asked cut below left : List Bool) (end : ℕ) → end ≡ first + length old →
      cut ≡ columns_without asked (columns_below first) → below ≡ columns_below end →
      left ≡ both_columns cut below →
      ((k : ℕ) → k < length old → column_at asked (first + k) ≡ false → (columns : List Bool) →
      IsKept g (first + k) columns columns test) →
      AreKeptBut g first old left old test
  none_kept_but asked cut below left end last cutting ending both rests =
      record {
        done = λ k low off.
            let x : ℕ = first + k in
            let small : x < SIDE_LIMIT = omega (arith, low, few) in
            let before : nat_lt x end ≡ true = lt-ltb x end (omega (arith, low, last)) in
            let behind : nat_lt x first ≡ false = le-ltb x first (omega arith) in
            let cut_off : column_at cut x ≡ false =
            sym (and-true (column_at cut x)) ∙ sym (ap (λ (b : Bool). column_at cut x && b) before)
            ∙ sym (in_both cut below left end x ending both small) ∙ off in
            let none : column_at asked x ≡ false =
            sym (and-true (column_at asked x))
            ∙ sym (ap (λ (b : Bool). column_at asked x && not b) behind)
            ∙ sym (at_cut asked cut first x small cutting) ∙ cut_off in
            rests k low none (slice_index_or old k []);
        same = λ k low on. refl;
        inside = λ x small on.
            let parts = and_parts (column_at cut x) (nat_lt x end)
            (sym (in_both cut below left end x ending both small) ∙ on) in
            let more = and_parts (column_at asked x) (not (nat_lt x first))
            (sym (at_cut asked cut first x small cutting) ∙ parts.0) in
            let behind : nat_lt x first ≡ false = elim (cases_Bool (nat_lt x first)) [
              | inl before ↦ absurd (false≢true (sym (ap not before) ∙ more.1))
              | inr after ↦ after
            ] in
            let below_end : x < end = ltb-true x end parts.1 in
            (ltb-false x first behind, omega (arith, below_end, last));
        long = refl;
      }

  -- where the row stands among them
  pub step_of : (set left : List Bool) (row : ℕ) (now : List (List Bool)) →
      set_columns set ≡ row ∷ set_columns left → AreKeptBut g first old set now test →
      (first ≤ row) × (row < first + length old)
  step_of set left row now is was =
      let there = first_in set row (set_columns left) is in
      was.inside row there.1 there.0

  -- one row more
  pub kept_but_more : (set left : List Bool) (row step : ℕ) (now : List (List Bool)) (word : List Bool) →
      set_columns set ≡ row ∷ set_columns left → first + step ≡ row → AreKeptBut g first old set now test →
      IsKept g row (slice_index_or now step []) word test →
      AreKeptBut g first old left (slice_set now step word) test
  kept_but_more set left row step now word is place was here =
      let there = first_in set row (set_columns left) is in
      let among = was.inside row there.1 there.0 in
      let inside : step < length old = omega (arith, place, among.1) in
      let low : step < length now = omega (arith, inside, was.long) in
      let stays : slice_index_or now step [] ≡ slice_index_or old step [] =
      was.same step inside (ap (column_at set) place ∙ there.0) in
      record {
        done = λ k small off.
            let P : List Bool → Type 0 = λ w. IsKept g (first + k) (slice_index_or old k []) w test in
            elim (cases_eq k step) [
              | inl same ↦
                  let Q : List Bool → Type 0 = λ w. IsKept g (first + step) w (slice_index_or (slice_set now step word) step []) test in
                  let R : List Bool → Type 0 = λ w. IsKept g (first + step) (slice_index_or now step []) w test in
                  let S : ℕ → Type 0 = λ r. IsKept g r (slice_index_or now step []) word test in
                  rw same (subst Q stays (subst R (sym (get_or-set_same now step word [] low)) (subst S (sym place) here)))
              | inr other ↦
                  let apart : first + k ≢ row = λ e. other (omega (arith, e, place)) in
                  let before : column_at set (first + k) ≡ false =
                  taken_out set left row (first + k) is (omega (arith, small, few))
                  ∙ ap (λ (b : Bool). b || column_at left (first + k)) (ne_eqb (first + k) row apart) ∙ off in
                  subst P (sym (get_or-set_other now step k word [] other)) (was.done k small before)
            ];
        same = λ k small on.
            let other : k ≢ step = λ e.
            let gone : column_at left (first + k) ≡ false =
            ap (λ (s : ℕ). column_at left (first + s)) e ∙ ap (column_at left) place ∙ taken_gone set left row is in
            false≢true (sym gone ∙ on) in
            get_or-set_other now step k word [] other
            ∙ was.same k small (was_in set left row (first + k) is (omega (arith, small, few)) on);
        inside = λ x small on. was.inside x small (was_in set left row x is small on);
        long = length-set now step word ∙ was.long;
      }

  -- all rows
  pub all_kept_but : (left : List Bool) (new : List (List Bool)) → set_columns left ≡ [] →
      AreKeptBut g first old left new test → AreKept g first old new test
  all_kept_but left new none was =
      record {
        long = was.long;
        each = λ k low. was.done k low (none_in left (first + k) none (omega (arith, low, few)));
      }
