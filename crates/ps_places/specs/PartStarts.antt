-- Where the only part of a row of a rule begins on a board, row by row of the board: a set of columns for each of some
-- rows.
use Rattle.std.specs.Prelude.{◌≡◌, ℕ, ◌<◌, Bool, true, ◌&&◌, Option, List, [], length, slice_index_or}
use Rattle.ps_model.specs.declared.limits.TheConstants.{SIDE_LIMIT}
use Rattle.ps_model.specs.board.Grid.{Grid}
use Rattle.ps_board.specs.ColumnSets.{column_at, set_columns}
use Rattle.ps_program.specs.declared.cells.CompiledCell.{CompiledCell}
use Rattle.ps_program.specs.declared.rows.Axis.{Axis}
use Rattle.ps_program.specs.declared.rows.Axis.TheVariants.{Down, Right}
use Rattle.ps_places.specs.Lines.{part_fits}
use Rattle.ps_places.specs.Starts.{begins_down}

-- a part begins, its first cell in a column of a row of the board
abbrev pub begins_at : Grid → Option (List ℕ) → Axis → List CompiledCell → ℕ → ℕ → Bool
begins_at g table Down part row x = begins_down g table part row x
begins_at g table Right part row x = part_fits g table Right row part x

-- the columns that are kept of a row, and whether one of them is that of a place
abbrev pub columns_on : List (List Bool) → ℕ → List Bool
columns_on starts row = slice_index_or starts row []

abbrev pub is_start : List Bool → List (List Bool) → ℕ → ℕ → Bool
is_start rows starts row x = column_at rows row && column_at (columns_on starts row) x

-- the part begins on a row in the columns that are kept, if it is one of these rows, and then there is one; else
-- nowhere
pub record IsRowFound (g : Grid) (table : Option (List ℕ)) (axis : Axis) (part : List CompiledCell) (rows : List Bool)
    (starts : List (List Bool)) (row : ℕ) : Type 0 where
  pub at : (x : ℕ) → x < SIDE_LIMIT → is_start rows starts row x ≡ begins_at g table axis part row x
  pub some : column_at rows row ≡ true → 0 < length (set_columns (columns_on starts row))

-- so for each row of the grid, and no other row is found
pub record AreStarts (g : Grid) (table : Option (List ℕ)) (axis : Axis) (part : List CompiledCell) (rows : List Bool)
    (starts : List (List Bool)) : Type 0 where
  pub each : (row : ℕ) → row < g.height → IsRowFound g table axis part rows starts row
  pub below : (row : ℕ) → column_at rows row ≡ true → row < g.height
