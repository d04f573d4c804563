-- Rows that are compared all in one go, by the columns in which they differ.
use Rattle.std.proofs.Common.{◌≡◌, ℕ, ◌+◌, ◌*◌, ◌<◌, inl, inr, Bool, List, [], arith}
use Rattle.std.proofs.lemmas.Bool.{cases_eq}
use Rattle.ps_board.specs.ColumnSets.{either_columns, set_columns, unlike_columns}
use Rattle.ps_board.proofs.EmptySets.{empty_of}
use Rattle.ps_rows.specs.Planes.{IsSet, row_of}
use Rattle.ps_rows.proofs.Sets.{neither_at, not_unlike, same_set}

-- one row more is compared
pub one_word_more : (height plane row : ℕ) (unlike : List Bool) (first second : List (List Bool)) →
    IsSet (row_of first (plane * height + row)) → IsSet (row_of second (plane * height + row)) →
    (set_columns unlike ≡ [] → (y : ℕ) → y < row →
    row_of first (plane * height + y) ≡ row_of second (plane * height + y)) →
    set_columns (either_columns unlike (unlike_columns (row_of first (plane * height + row))
    (row_of second (plane * height + row)))) ≡ [] →
    (y : ℕ) → y < row + 1 → row_of first (plane * height + y) ≡ row_of second (plane * height + y)
one_word_more height plane row unlike first second is so before none y below =
    let here : List Bool = row_of first (plane * height + row) in
    let there : List Bool = row_of second (plane * height + row) in
    let parts = neither_at unlike (unlike_columns here there) none in
    elim (cases_eq y row) [
      | inl e ↦ rw e (same_set here there is so (λ x low. not_unlike here there x low (parts x low).1))
      | inr apart ↦ before (empty_of unlike (λ x low. (parts x low).0)) y (omega arith)
    ]
