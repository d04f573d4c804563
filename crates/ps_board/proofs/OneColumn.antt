-- The set of one column alone.
use Rattle.std.proofs.Common.{◌≡◌, ◌∙◌, ℕ, ◌<◌, inl, inr, Bool, true, false, List, refl, sym, ap}
use Rattle.std.specs.Prelude.{nat_eq, if◌then◌else◌}
use Rattle.std.proofs.lemmas.Bool.{cases_eq, eq-eqb, ne_eqb, false≢true}
use Rattle.ps_model.specs.declared.limits.TheConstants.{SIDE_LIMIT}
use Rattle.ps_board.specs.ColumnSets.{column_at, no_columns, with_column}
use Rattle.ps_board.proofs.ColumnLaws.{column_at-where}

in_single : (columns : List Bool) (column x : ℕ) → columns ≡ with_column no_columns column true → x < SIDE_LIMIT →
    column_at columns x ≡ (if nat_eq x column then true else column_at no_columns x)
in_single columns column x is low =
    ap (λ (set : List Bool). column_at set x) is
    ∙ column_at-where (λ y. if nat_eq y column then true else column_at no_columns y) x low

pub has_own : (columns : List Bool) (column : ℕ) → columns ≡ with_column no_columns column true → column < SIDE_LIMIT →
    column_at columns column ≡ true
has_own columns column is low =
    in_single columns column column is low ∙ ap (λ (b : Bool).
    if b then true else column_at no_columns column) (eq-eqb column column refl)

pub only_own : (columns : List Bool) (column x : ℕ) → columns ≡ with_column no_columns column true → x < SIDE_LIMIT →
    column_at columns x ≡ true → x ≡ column
only_own columns column x is low has = elim (cases_eq x column) [
  | inl e ↦ e
  | inr apart ↦ absurd (false≢true
      (sym (in_single columns column x is low ∙ ap (λ (b : Bool).
      if b then true else column_at no_columns x) (ne_eqb x column apart)
      ∙ column_at-where (λ y. false) x low) ∙ has))
]
