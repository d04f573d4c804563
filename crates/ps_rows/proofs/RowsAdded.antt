-- The differences of a plane, of which those of the rows of a set are added, the least row first.
use Rattle.std.proofs.Common.{◌≡◌, ◌∙◌, ℕ, ◌+◌, ◌*◌, ◌-◌, ◌<◌, ◌≤◌, ◌||◌, inl, inr, Bool, true, false, List, []}
use Rattle.std.proofs.Common.{◌∷◌, sym, ap, arith}
use Rattle.std.specs.Prelude.{nat_eq}
use Rattle.std.proofs.lemmas.Bool.{cases_eq, cases_lt, ne_eqb, or_parts}
use Rattle.ps_model.specs.declared.limits.TheConstants.{SIDE_LIMIT}
use Rattle.ps_board.specs.ColumnSets.{column_at, set_columns}
use Rattle.ps_board.proofs.ColumnLaws.{first_in, none_in}
use Rattle.ps_board.proofs.Taken.{AreBelow, below-more, first_least, taken_below, taken_gone}
use Rattle.ps_board.proofs.Taken.{taken_out}
use Rattle.ps_rows.specs.Planes.{row_of}
use Rattle.ps_rows.specs.RowDifferences.{Difference, LeadBothWays}
use Rattle.ps_rows.proofs.RowDifferences.{both_reach}

-- those of the rows before the next one are added, and of the others those that aren't left are the same
pub record AreAdded (height plane next : ℕ) (left : List Bool) (first second : List (List Bool))
    (differences : List Difference) : Type 0 where
  pub low : AreBelow height left
  pub before : (row : ℕ) → row < next → column_at left row ≡ false
  pub same : (row : ℕ) → next ≤ row → row < height → column_at left row ≡ false →
      row_of first (plane * height + row) ≡ row_of second (plane * height + row)
  pub added : LeadBothWays height (plane * height + next) first second differences

module _ (height plane : ℕ) (first second : List (List Bool)) (differences : List Difference) where
  -- the rows up to another one are the same
  same_up_to : (next row : ℕ) → next ≤ row →
      ((y : ℕ) → next ≤ y → y < row → row_of first (plane * height + y) ≡ row_of second (plane * height + y)) →
      LeadBothWays height (plane * height + next) first second differences →
      LeadBothWays height (plane * height + row) first second differences
  same_up_to next row from same =
      both_reach height (plane * height + next) (plane * height + row) first second differences (omega (arith, from))
      (λ place after before.
      let y : ℕ = place - plane * height in
      let e : plane * height + y ≡ place = omega (arith, after) in
      let low : next ≤ y = omega (arith, after, e) in
      let high : y < row = omega (arith, before, e) in
      ap (row_of first) (sym e) ∙ same y low high ∙ ap (row_of second) e)

  module _ (set left : List Bool) (next row : ℕ) (is : set_columns set ≡ row ∷ set_columns left)
      (was : AreAdded height plane next set first second differences) where
    from : next ≤ row
    from = elim (cases_lt row next) [
      | inl less ↦ let clash : true ≡ false = sym (first_in set row (set_columns left) is).0 ∙ was.before row less in
          absurd (cc)
      | inr more ↦ more
    ]

    -- the first row that is left is reached
    pub row_reached : LeadBothWays height (plane * height + row) first second differences
    row_reached =
        same_up_to next row from
        (λ y low high.
        let under : row < height = taken_below set left height row is was.low in
        was.same y low (omega (arith, high, under)) (first_least set row y (set_columns left) is high)) was.added

    -- and taken out of the set, whatever is added
    pub added_on : (more : List Difference) → height ≤ SIDE_LIMIT →
        LeadBothWays height (plane * height + row + 1) first second more →
        AreAdded height plane (row + 1) left first second more
    added_on more short lead =
        let inside : row < SIDE_LIMIT = (first_in set row (set_columns left) is).1 in
        record {
          low = below-more set left height row is was.low;
          before = λ y less. elim (cases_eq y row) [
            | inl e ↦ ap (column_at left) e ∙ taken_gone set left row is
            | inr apart ↦
                let early : y < row = omega (arith, less, apart) in
                (or_parts (nat_eq y row) (column_at left y)
                (sym (taken_out set left row y is (omega (arith, early, inside)))
                ∙ first_least set row y (set_columns left) is early)).1
          ];
          same = λ y low under out.
              let late : next ≤ y = omega (arith, low, from) in
              was.same y late under
              (taken_out set left row y is (omega (arith, under, short))
              ∙ ap (λ (b : Bool). b || column_at left y) (ne_eqb y row (λ e. absurd (omega (arith, e, low)))) ∙ out);
          added = rw (let back : plane * height + (row + 1) ≡ plane * height + row + 1 = omega arith in back) lead;
        }

  -- nothing is left
  pub added_all : (left : List Bool) (next : ℕ) → height ≤ SIDE_LIMIT → next ≤ height → set_columns left ≡ [] →
      AreAdded height plane next left first second differences →
      LeadBothWays height ((plane + 1) * height) first second differences
  added_all left next short within none was =
      rw (let end : (plane + 1) * height ≡ plane * height + height = omega arith in end)
      (same_up_to next height within
      (λ y low high. was.same y low high (none_in left y none (omega (arith, high, short)))) was.added)
