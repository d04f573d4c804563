-- The positions of the parts of a row on the lines of a board, as they are found: a set for each part of each line.
use Rattle.std.specs.Prelude.{◌≡◌, ◌≢◌, ℕ, ◌+◌, ◌*◌, ◌<◌, nat_le, Bool, true, false, ◌&&◌, if◌then◌else◌, Option, List}
use Rattle.std.specs.Prelude.{[], length, slice_index_or}
use Rattle.ps_model.specs.declared.limits.TheConstants.{SIDE_LIMIT}
use Rattle.ps_model.specs.board.Grid.{Grid}
use Rattle.ps_board.specs.ColumnSets.{column_at, no_columns, with_column}
use Rattle.ps_program.specs.declared.cells.CompiledCell.{CompiledCell}
use Rattle.ps_program.specs.declared.rows.Axis.{Axis}
use Rattle.ps_places.specs.Lines.{line_count, line_long, part_fits}
use Rattle.ps_places.specs.PartStarts.{is_start}
use Rattle.ps_places.specs.Starts.{AreWhere}

-- a part begins at a position of a line: it has room there to the line's end, and fits
abbrev pub begins_on : Grid → Option (List ℕ) → Axis → ℕ → List CompiledCell → ℕ → Bool
begins_on g table axis line part position =
    nat_le (position + length part) (line_long axis g) && part_fits g table axis line part position

-- the part with a number, and its set on a line, where sets stand line by line, one for each of so many parts
abbrev pub part_of : List (List CompiledCell) → ℕ → List CompiledCell
part_of parts number = slice_index_or parts number []

abbrev pub set_of : List (List Bool) → ℕ → ℕ → ℕ → List Bool
set_of starts count line number = slice_index_or starts (line * count + number) []

-- a part begins nowhere on a line
pub record BeginsNowhere (g : Grid) (table : Option (List ℕ)) (axis : Axis) (part : List CompiledCell)
    (line : ℕ) : Type 0 where
  pub at : (position : ℕ) → position < SIDE_LIMIT → begins_on g table axis line part position ≡ false

-- so does one of the parts of a row
pub record HasNoWay (g : Grid) (table : Option (List ℕ)) (axis : Axis) (parts : List (List CompiledCell))
    (line : ℕ) : Type 0 where
  pub number : ℕ
  pub within : number < length parts
  pub nowhere : BeginsNowhere g table axis (part_of parts number) line

-- the first parts begin on a line at the positions of their sets
pub record BeginInSets (g : Grid) (table : Option (List ℕ)) (axis : Axis) (parts : List (List CompiledCell)) (line : ℕ)
    (sets : ℕ → List Bool) (count : ℕ) : Type 0 where
  pub at : (number : ℕ) → number < count → AreWhere (begins_on g table axis line (part_of parts number)) (sets number)

-- a line is one of those found, and the first parts begin there at the positions of their sets; or else a part begins
-- nowhere on it
pub record IsLineFound (g : Grid) (table : Option (List ℕ)) (axis : Axis) (parts : List (List CompiledCell))
    (starts : List (List Bool)) (lines : List Bool) (count line : ℕ) : Type 0 where
  pub found : column_at lines line ≡ true →
      BeginInSets g table axis parts line (set_of starts (length parts) line) count
  pub none : column_at lines line ≡ false → HasNoWay g table axis parts line

-- so for each line of the grid, and no other line is found
pub record AreLinesFound (g : Grid) (table : Option (List ℕ)) (axis : Axis) (parts : List (List CompiledCell))
    (starts : List (List Bool)) (lines : List Bool) (count : ℕ) : Type 0 where
  pub each : (line : ℕ) → line < line_count axis g → IsLineFound g table axis parts starts lines count line
  pub below : (line : ℕ) → column_at lines line ≡ true → line < line_count axis g

-- the set of a column with a row added, if the column is one of these: in place of what stood there, where nothing was
-- found yet
abbrev pub with_row : List Bool → List Bool → ℕ → List Bool → ℕ → List Bool
with_row columns found row set x =
    if column_at columns x then with_column (if column_at found x then set else no_columns) row true else set

-- so for the sets of the part with a number, and no other set changes
pub record IsRowAdded (old : List (List Bool)) (count number : ℕ) (columns found : List Bool) (row : ℕ)
    (new : List (List Bool)) : Type 0 where
  pub at : (x : ℕ) → x < SIDE_LIMIT → set_of new count x number
      ≡ with_row columns found row (set_of old count x number) x
  pub others : (x other : ℕ) → other < count → other ≢ number → set_of new count x other ≡ set_of old count x other

-- a part begins on lines of a set at the positions of its sets, if the line is found, and else nowhere; the lines found
-- are of those, and no other set changes
pub record IsPartFound (g : Grid) (table : Option (List ℕ)) (axis : Axis) (part : List CompiledCell)
    (within : List Bool) (count number : ℕ) (old new : List (List Bool)) (found : List Bool) : Type 0 where
  pub begins : (x : ℕ) → column_at found x ≡ true → AreWhere (begins_on g table axis x part) (set_of new count x number)
  pub inside : (x : ℕ) → column_at found x ≡ true → column_at within x ≡ true
  pub none : (x : ℕ) → column_at within x ≡ true → column_at found x ≡ false → BeginsNowhere g table axis part x
  pub others : (x other : ℕ) → other < count → other ≢ number → set_of new count x other ≡ set_of old count x other

-- the sets of a part on some lines are those that are kept of the rows with these numbers, and no other set changes
pub record AreTakenOver (rows : List Bool) (columns : List (List Bool)) (lines : List Bool) (count number : ℕ)
    (old new : List (List Bool)) : Type 0 where
  pub taken : (row x : ℕ) → column_at lines row ≡ true →
      column_at (set_of new count row number) x ≡ is_start rows columns row x
  pub others : (row other : ℕ) → other < count → other ≢ number →
      set_of new count row other ≡ set_of old count row other
