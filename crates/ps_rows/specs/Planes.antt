-- Planes of rows, each a set of columns, as one flat list: row y of a plane is the set at plane * height + y, and the
-- set says whether the plane has the cell in each column of that row.
use Rattle.std.specs.Prelude.{ℕ, ◌+◌, ◌*◌, ◌/◌, ◌%◌, ◌≡◌, ◌≤◌, nat_eq, length, Bool, false, true, Option, None, Some}
use Rattle.std.specs.Prelude.{List, [], ◌∷◌}
use Rattle.std.specs.Prelude.{slice_index_or, slice_set}
use Rattle.std.specs.List.{list_any}
use Rattle.ps_model.specs.board.Movement.{is_number}
use Rattle.ps_board.specs.ColumnSets.{column_at, columns_where, no_columns, with_column}

-- the list is a set of columns: it tells of each column that a board may have, and of no other one
abbrev pub IsSet : List Bool → Type 0
IsSet columns = columns_where (column_at columns) ≡ columns

-- the row at a place of the list, without columns beyond its end
abbrev pub row_of : List (List Bool) → ℕ → List Bool
row_of words place = slice_index_or words place no_columns

-- each row is a set
abbrev pub AreSets : List (List Bool) → Type 0
AreSets words = (place : ℕ) → IsSet (row_of words place)

-- from a place on no row has a column
abbrev pub AreEmptyFrom : ℕ → List (List Bool) → Type 0
AreEmptyFrom start words = (place : ℕ) → start ≤ place → row_of words place ≡ no_columns

-- from a place on each row is as there
abbrev pub AreSameFrom : ℕ → List (List Bool) → List (List Bool) → Type 0
AreSameFrom start first second = (place : ℕ) → start ≤ place → row_of first place ≡ row_of second place

-- the plane has the cell
unfoldable pub has_cell : ℕ → List (List Bool) → ℕ → ℕ → Bool
has_cell height words cell plane = column_at (row_of words (plane * height + cell % height)) (cell / height)

-- the planes with the cell in that one, or without it
unfoldable pub with_cell : ℕ → List (List Bool) → ℕ → ℕ → Bool → List (List Bool)
with_cell height words cell plane on =
    let place = plane * height + cell % height in
    slice_set words place (with_column (row_of words place) (cell / height) on)

-- of these planes the chosen one with the cell, and each other without it
unfoldable pub with_cell_in : ℕ → ℕ → Option ℕ → List (List Bool) → List ℕ → List (List Bool)
with_cell_in height cell chosen words [] = words
with_cell_in height cell chosen words (plane ∷ planes) =
    with_cell_in height cell chosen (with_cell height words cell plane (is_number chosen plane)) planes

-- the planes with a cell moved to another place in that one, if there is one
unfoldable pub with_shift : ℕ → ℕ → ℕ → Option ℕ → List (List Bool) → List (List Bool)
with_shift height cell to None words = words
with_shift height cell to (Some plane) words =
    with_cell height (with_cell height words to plane true) cell plane false

-- the rows of each of these planes are all there
abbrev pub HavePlanes : ℕ → List (List Bool) → List ℕ → Type 0
HavePlanes height words planes = (plane : ℕ) → list_any (nat_eq plane) planes ≡ true →
    (plane + 1) * height ≤ length words
