-- Sets without a column, and what is in both of two sets and in none of them.
use Rattle.std.proofs.Common.{◌≡◌, ◌∙◌, ℕ, ◌<◌, ◌&&◌, ◌||◌, Bool, false, List, [], refl, sym, ap}
use Rattle.std.proofs.lemmas.Bool.{or_parts}
use Rattle.ps_model.specs.declared.limits.TheConstants.{SIDE_LIMIT}
use Rattle.ps_board.specs.ColumnSets.{both_columns, column_at, either_columns, set_columns}
use Rattle.ps_board.proofs.ColumnLaws.{column_at-where, none_on, set_columns-are}

-- a set without a column is empty
pub empty_of : (set : List Bool) → ((x : ℕ) → x < SIDE_LIMIT → column_at set x ≡ false) → set_columns set ≡ []
empty_of set none =
    set_columns-are set (λ x. false) none ∙ none_on (λ x. false) 0 SIDE_LIMIT (λ x low high. refl)

-- what isn't in two sets joined is in neither
pub in_neither : (set other joined : List Bool) (x : ℕ) → joined ≡ either_columns set other → x < SIDE_LIMIT →
    column_at joined x ≡ false → (column_at set x ≡ false) × (column_at other x ≡ false)
in_neither set other joined x e low out =
    or_parts (column_at set x) (column_at other x)
    (sym (ap (λ (cs : List Bool). column_at cs x) e
    ∙ column_at-where (λ y. column_at set y || column_at other y) x low) ∙ out)

-- the numbers of a set that are in another
pub at_both : (set other both : List Bool) (x : ℕ) → both ≡ both_columns set other → x < SIDE_LIMIT →
    column_at both x ≡ (column_at set x && column_at other x)
at_both set other both x e low =
    ap (λ (cs : List Bool). column_at cs x) e ∙ column_at-where (λ y. column_at set y && column_at other y) x low
