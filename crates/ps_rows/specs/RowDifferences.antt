-- How rows differ from others: by columns that are in one of two rows alone. They make of each of the two the other.
use Rattle.std.specs.Prelude.{◌≡◌, ℕ, ◌+◌, ◌*◌, nat_lt, if◌then◌else◌, Bool, List, [], ◌∷◌, slice_set}
use Rattle.ps_board.specs.ColumnSets.{unlike_columns}
use Rattle.ps_rows.specs.Planes.{row_of}
use Rattle.ps_rows.specs.declared.row_differences.RowDifference.{RowDifference}

-- what differs in a row
abbrev pub Difference : Type 0
Difference = RowDifference (List Bool)

-- the planes of a height, with a row changed by what differs
unfoldable pub row_changed : ℕ → List (List Bool) → Difference → List (List Bool)
row_changed height words difference =
    let place = difference.plane * height + difference.row in
    if nat_lt difference.row height then slice_set words place (unlike_columns (row_of words place) difference.columns)
    else words

-- with several rows changed, one behind the other
unfoldable pub rows_changed : ℕ → List (List Bool) → List Difference → List (List Bool)
rows_changed height words [] = words
rows_changed height words (difference ∷ differences) =
    rows_changed height (row_changed height words difference) differences

-- behind such changes the rows before a place are those of others, and all from there on are what they were
abbrev pub Lead : ℕ → ℕ → List (List Bool) → List (List Bool) → List Difference → Type 0
Lead height end words others differences = (place : ℕ) →
    row_of (rows_changed height words differences) place ≡
    (if nat_lt place end then row_of others place else row_of words place)

-- from the first to the second, and from the second to the first
pub record LeadBothWays (height end : ℕ) (first second : List (List Bool)) (differences : List Difference) : Type 0
  where
    pub forth : Lead height end first second differences
    pub back : Lead height end second first differences
