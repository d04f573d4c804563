-- Places of a part that begin so many cells apart, row by row of the board.
use Rattle.std.proofs.Common.{◌≡◌, ◌∙◌, ℕ, ◌<◌, ◌≤◌, ◌&&◌, ◌||◌, inl, inr, Bool, true, false, List, [], ◌∷◌, length}
use Rattle.std.proofs.Common.{refl, sym, ap, ap₂, arith}
use Rattle.std.specs.Prelude.{suc, zero}
use Rattle.std.proofs.lemmas.Bool.{cases_eq, ne_eqb}
use Rattle.ps_model.specs.declared.limits.TheConstants.{SIDE_LIMIT}
use Rattle.ps_board.specs.ColumnSets.{both_columns, column_at, set_columns}
use Rattle.ps_board.proofs.ColumnLaws.{column_at-where, none_in}
use Rattle.ps_board.proofs.Taken.{taken_out}
use Rattle.ps_program.specs.declared.rows.Axis.{Axis}
use Rattle.ps_places.specs.LeavingAlone.{starts_behind}
use Rattle.ps_places.specs.PartStarts.{columns_on, is_start}

-- no place on a row has another one so many cells behind it
pub record NotApartOn (axis : Axis) (rows : List Bool) (starts : List (List Bool)) (distance row : ℕ) : Type 0 where
  pub at : (x : ℕ) → x < SIDE_LIMIT → is_start rows starts row x ≡ true → starts_behind axis rows starts distance row x
      ≡ false

-- nothing is kept beyond the last row
pub none_kept : (starts : List (List Bool)) (row : ℕ) → length starts ≤ row → columns_on starts row ≡ []
none_kept [] row past = refl
none_kept (columns ∷ starts) zero past = absurd (omega arith)
none_kept (columns ∷ starts) (suc row) past = none_kept starts row (omega arith)

-- a row without a place
pub no_start : (axis : Axis) (rows : List Bool) (starts : List (List Bool)) (distance row : ℕ) →
    column_at rows row ≡ false →
    NotApartOn axis rows starts distance row
no_start axis rows starts distance row out =
    record {
      at = λ x low on. let clash : false ≡ true =
          sym (ap (λ (b : Bool). b && column_at (columns_on starts row) x) out) ∙ on in absurd (cc);
    }

-- there is no column with both
pub not_apart : (axis : Axis) (rows : List Bool) (starts : List (List Bool)) (distance row : ℕ)
    (kept others both : List Bool) →
    ((x : ℕ) → column_at kept x ≡ is_start rows starts row x) →
    ((x : ℕ) → x < SIDE_LIMIT → column_at others x ≡ starts_behind axis rows starts distance row x) →
    both ≡ both_columns kept others → set_columns both ≡ [] → NotApartOn axis rows starts distance row
not_apart axis rows starts distance row kept others both here behind is none =
    record {
      at = λ x low on.
          let off : (column_at kept x && column_at others x) ≡ false =
          sym (column_at-where (λ y. column_at kept y && column_at others y) x low)
          ∙ ap (λ (cs : List Bool). column_at cs x) (sym is) ∙ none_in both x none low in
          sym (behind x low) ∙ sym (ap (λ (b : Bool). b && column_at others x) (here x ∙ on)) ∙ off;
    }

-- one row more
pub apart_more : (axis : Axis) (rows left rest : List Bool) (starts : List (List Bool)) (distance row : ℕ) →
    set_columns left ≡ row ∷ set_columns rest →
    NotApartOn axis rows starts distance row →
    ((r : ℕ) → r < SIDE_LIMIT → column_at left r ≡ false → NotApartOn axis rows starts distance r) →
    (r : ℕ) → r < SIDE_LIMIT → column_at rest r ≡ false → NotApartOn axis rows starts distance r
apart_more axis rows left rest starts distance row is here passed r low out = elim (cases_eq r row) [
  | inl same ↦ rw same here
  | inr other ↦ passed r low (taken_out left rest row r is low ∙ ap₂ (λ (a b : Bool). a || b) (ne_eqb r row other) out)
]
