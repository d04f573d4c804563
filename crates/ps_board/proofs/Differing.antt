-- Cells that are the same but for those of a set of columns, which is made column by column.
use Rattle.std.proofs.Common.{◌≡◌, ◌∙◌, ℕ, ◌+◌, ◌<◌, inl, inr, Bool, true, false, List, sym, ap, subst, arith}
use Rattle.std.specs.Prelude.{nat_eq, not, if◌then◌else◌}
use Rattle.std.proofs.lemmas.Bool.{cases_eq, eq-eqb, ne_eqb, not-false}
use Rattle.ps_model.specs.declared.limits.TheConstants.{SIDE_LIMIT}
use Rattle.ps_board.specs.ColumnSets.{column_at, with_column}
use Rattle.ps_board.proofs.ColumnLaws.{column_at-where}

-- a column of the set that has another column or hasn't
column_at-with : (columns : List Bool) (column x : ℕ) (set : Bool) → x < SIDE_LIMIT →
    column_at (with_column columns column set) x ≡ (if nat_eq x column then set else column_at columns x)
column_at-with columns column x set low = column_at-where (λ y.
    if nat_eq y column then set else column_at columns y) x low

pub one_differs : (P : ℕ → Type 0) (columns : List Bool) (column : ℕ) (same : Bool) → column < SIDE_LIMIT →
    (same ≡ true → P column) →
    ((x : ℕ) → x < column → column_at columns x ≡ false → P x) →
    (x : ℕ) → x < column + 1 → column_at (with_column columns column (not same)) x ≡ false → P x
one_differs P columns column same low here before = λ x under none.
    let told = sym (column_at-with columns column x (not same) (omega arith)) ∙ none in
    elim (cases_eq x column) [
      | inl e ↦ subst P (sym e) (here (not-false same
          (sym (ap (λ (b : Bool). if b then not same else column_at columns x) (eq-eqb x column e)) ∙ told)))
      | inr apart ↦ before x (omega arith) (sym
          (ap (λ (b : Bool). if b then not same else column_at columns x) (ne_eqb x column apart)) ∙ told)
    ]
