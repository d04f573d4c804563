-- Rows of planes that were copied, those of a set.
use Rattle.std.proofs.Common.{◌≡◌, ◌≢◌, ◌∙◌, ℕ, ◌+◌, ◌*◌, ◌<◌, ◌≤◌, ◌&&◌, inl, inr, Bool, true, false, List, ◌∷◌}
use Rattle.std.proofs.Common.{length, refl, sym, ap, arith}
use Rattle.std.specs.Prelude.{[], nat_eq, slice_set}
use Rattle.std.proofs.lemmas.Bool.{and_parts, cases_eq, cases_lt, false≢true, or_right}
use Rattle.std.proofs.lemmas.Nat.{same_from_place}
use Rattle.std.proofs.lemmas.List.{get_or-set_other, get_or-set_same}
use Rattle.ps_model.specs.declared.limits.TheConstants.{SIDE_LIMIT}
use Rattle.ps_board.specs.ColumnSets.{both_columns, column_at, no_columns, set_columns}
use Rattle.ps_board.proofs.ColumnLaws.{column_at-where, first_in}
use Rattle.ps_board.proofs.Taken.{AreBelow, ArePassed, below-more, passed-all, passed-changed, taken_out}
use Rattle.ps_rows.specs.PlaneCopies.{AreRowsOf, IsRowCopied}
use Rattle.ps_rows.specs.Planes.{row_of}

-- sets ----------------------------------------------------------------------------------------------------------------

pub in_both : (first second both : List Bool) (x : ℕ) → x < SIDE_LIMIT → both ≡ both_columns first second →
    column_at both x ≡ true → (column_at first x ≡ true) × (column_at second x ≡ true)
in_both first second both x low is on =
    and_parts (column_at first x) (column_at second x)
    (sym (column_at-where (λ y. column_at first y && column_at second y) x low)
    ∙ sym (ap (λ (set : List Bool). column_at set x) is) ∙ on)

-- a row that isn't among those that are wanted has no mark, if it is in the set
pub not_wanted : (rows marked wanted : List Bool) (row : ℕ) → row < SIDE_LIMIT → wanted ≡ both_columns rows marked →
    column_at wanted row ≡ false → column_at rows row ≡ true →
    column_at marked row ≡ false
not_wanted rows marked wanted row low is off on =
    ap (λ (b : Bool). b && column_at marked row) (sym on)
    ∙ sym (column_at-where (λ y. column_at rows y && column_at marked y) row low)
    ∙ sym (ap (λ (set : List Bool). column_at set row) is) ∙ off

-- what is left later is in the set, and what is taken out
pub wanted-more : (rows set left : List Bool) (k : ℕ) → set_columns set ≡ k ∷ set_columns left →
    ((row : ℕ) → row < SIDE_LIMIT → column_at set row ≡ true → column_at rows row ≡ true) →
    (row : ℕ) → row < SIDE_LIMIT → column_at left row ≡ true → column_at rows row ≡ true
wanted-more rows set left k is wanted row low on =
    wanted row low (taken_out set left k row is low ∙ or_right (nat_eq row k) (column_at left row) on)

pub wanted-first : (rows set left : List Bool) (k : ℕ) → set_columns set ≡ k ∷ set_columns left →
    ((row : ℕ) → row < SIDE_LIMIT → column_at set row ≡ true → column_at rows row ≡ true) →
    column_at rows k ≡ true
wanted-first rows set left k is wanted = let first = first_in set k (set_columns left) is in wanted k first.1 first.0

-- planes --------------------------------------------------------------------------------------------------------------

-- a row of a plane that is written, and each other one
pub row_written : (height plane row : ℕ) (word : List Bool) (words more : List (List Bool)) → row < height →
    (plane + 1) * height ≤ length words → more ≡ slice_set words (plane * height + row) word →
    row_of more (plane * height + row) ≡ word
row_written height plane row word words more under enough is =
    let within : plane * height + row < length words = omega arith in
    ap (λ (ws : List (List Bool)). row_of ws (plane * height + row)) is
    ∙ get_or-set_same words (plane * height + row) word no_columns within

pub row_kept : (height plane row : ℕ) (word : List Bool) (other y : ℕ) (words more : List (List Bool)) → row < height →
    y < height → (other ≡ plane → y ≢ row) → more ≡ slice_set words (plane * height + row) word →
    row_of more (other * height + y) ≡ row_of words (other * height + y)
row_kept height plane row word other y words more under inside apart is =
    ap (λ (ws : List (List Bool)). row_of ws (other * height + y)) is
    ∙ get_or-set_other words (plane * height + row) (other * height + y) word no_columns
    (λ e. let same = same_from_place other y plane row height inside under e in apart same.0 same.1)

-- a row of no plane so far
pub no_row_copied : (height row : ℕ) (source before : List (List Bool)) → IsRowCopied height 0 row source before before
no_row_copied height row source before = record {
  copied = λ plane low. absurd (omega arith);
  behind = λ plane high. refl;
  left = λ plane other under apart. refl;
}

-- and of one plane more
pub row_more : (height plane row : ℕ) (word : List Bool) (source before now after : List (List Bool)) → row < height →
    (plane + 1) * height ≤ length now → after ≡ slice_set now (plane * height + row) word →
    word ≡ row_of source (plane * height + row) → IsRowCopied height plane row source before now →
    IsRowCopied height (plane + 1) row source before after
row_more height plane row word source before now after under enough is read was = record {
  copied = λ o low. elim (cases_eq o plane) [
    | inl e ↦ rw e (row_written height plane row word now after under enough is ∙ read)
    | inr apart ↦
        row_kept height plane row word o row now after under under (λ e f. apart e) is
        ∙ was.copied o (omega (arith, low, apart))
  ];
  behind = λ o high.
      row_kept height plane row word o row now after under under (λ e f. absurd (omega (arith, e, high))) is
      ∙ was.behind o (omega (arith, high));
  left = λ o other inside apart.
      row_kept height plane row word o other now after under inside (λ e. apart) is ∙ was.left o other inside apart;
}

-- the planes whose rows are copied, those that aren't left -----------------------------------------------------------

-- what holds of the rows that were taken out, and of all others
pub record AreRowsSoFar (height end : ℕ) (rows left : List Bool) (source before now : List (List Bool)) : Type 0 where
  pub low : AreBelow height left
  pub wanted : (row : ℕ) → row < SIDE_LIMIT → column_at left row ≡ true → column_at rows row ≡ true
  pub passed : ArePassed (λ row. column_at rows row ≡ true → (plane : ℕ) → plane < end →
      row_of now (plane * height + row) ≡ row_of source (plane * height + row)) height left
  pub elsewhere : (plane row : ℕ) → row < height → (plane < end → column_at rows row ≡ false) →
      row_of now (plane * height + row) ≡ row_of before (plane * height + row)

module _ (height end : ℕ) (rows : List Bool) (source before : List (List Bool)) (short : height ≤ SIDE_LIMIT) where
  pub no_rows_so_far : ((row : ℕ) → row < SIDE_LIMIT → height ≤ row → column_at rows row ≡ false) →
      AreRowsSoFar height end rows rows source before before
  no_rows_so_far within = record {
    low = record { at = λ row few past. within row few past };
    wanted = λ row few on. on;
    passed = record { at = λ row under off on. absurd (false≢true (sym off ∙ on)) };
    elsewhere = λ plane row under apart. refl;
  }

  pub rows_so_far : (set left : List Bool) (row : ℕ) (now after : List (List Bool)) →
      set_columns set ≡ row ∷ set_columns left → AreRowsSoFar height end rows set source before now →
      IsRowCopied height end row source now after → AreRowsSoFar height end rows left source before after
  rows_so_far set left row now after is was step =
      let Before : ℕ → Type 0 = λ y. column_at rows y ≡ true → (plane : ℕ) → plane < end →
      row_of now (plane * height + y) ≡ row_of source (plane * height + y) in
      let After : ℕ → Type 0 = λ y. column_at rows y ≡ true → (plane : ℕ) → plane < end →
      row_of after (plane * height + y) ≡ row_of source (plane * height + y) in
      record {
        low = below-more set left height row is was.low;
        wanted = wanted-more rows set left row is was.wanted;
        passed = passed-changed Before After set left height row short is
            (λ on plane below. step.copied plane below)
            (λ y inside apart so on plane below. step.left plane y inside apart ∙ so on plane below) was.passed;
        elsewhere = λ plane y inside off.
            elim (cases_eq y row) [
              | inl same ↦ elim (cases_lt plane end) [
                | inl below ↦
                    absurd (false≢true (sym (off below) ∙ ap (column_at rows) same
                    ∙ wanted-first rows set left row is was.wanted))
                | inr past ↦
                    rw same (step.behind plane past)
                    ∙ was.elsewhere plane y inside off
              ]
              | inr apart ↦ step.left plane y inside apart ∙ was.elsewhere plane y inside off
            ];
      }

  pub all_rows_so_far : (left : List Bool) (now : List (List Bool)) → set_columns left ≡ [] →
      AreRowsSoFar height end rows left source before now → AreRowsOf height 0 end rows source before now
  all_rows_so_far left now none was =
      let Same : ℕ → Type 0 = λ y. column_at rows y ≡ true → (plane : ℕ) → plane < end →
      row_of now (plane * height + y) ≡ row_of source (plane * height + y) in
      record {
        below = λ plane row under less. absurd (omega (arith, less));
        behind = λ plane row under more. was.elsewhere plane row under (λ below. absurd (omega (arith, more, below)));
        copied = λ plane row under low high on.
            passed-all Same left height row short none was.passed under on plane high;
        left = λ plane row under off. was.elsewhere plane row under (λ below. off);
      }
