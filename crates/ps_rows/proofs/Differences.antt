-- One plane more, whose differences come to those of the planes before it.
use Rattle.std.proofs.Common.{◌∙◌, ℕ, ◌+◌, ◌*◌, inl, inr, Bool, List, sym, arith}
use Rattle.std.proofs.lemmas.Bool.{cases_eq, or_parts}
use Rattle.ps_board.specs.ColumnSets.{column_at, either_columns, unlike_columns}
use Rattle.ps_rows.specs.Planes.{row_of}
use Rattle.ps_rows.specs.Sameness.{HasDifferences}
use Rattle.ps_rows.proofs.Sets.{either_at, not_unlike}

pub one_plane_more : (height row plane : ℕ) (first second : List (List Bool)) (word : List Bool) →
    HasDifferences height row plane first second word →
    HasDifferences height row (plane + 1) first second
    (either_columns word (unlike_columns (row_of first (plane * height + row)) (row_of second (plane * height + row))))
one_plane_more height row plane first second word before = λ each x under low none.
    let here : List Bool = row_of first (plane * height + row) in
    let there : List Bool = row_of second (plane * height + row) in
    let parts = or_parts (column_at word x) (column_at (unlike_columns here there) x)
    (sym (either_at word (unlike_columns here there) x low) ∙ none) in
    elim (cases_eq each plane) [
      | inl e ↦ rw e (not_unlike here there x low parts.1)
      | inr apart ↦ before each x (omega arith) low parts.0
    ]
