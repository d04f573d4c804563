-- Where a part of a row of a rule begins, found for many rows of the board together.
use Rattle.std.specs.Prelude.{◌≡◌, ℕ, ◌+◌, ◌-◌, ◌<◌, ◌≤◌, Bool, true, false, Option, List, [], length, slice_index_or}
use Rattle.ps_model.specs.declared.limits.TheConstants.{SIDE_LIMIT}
use Rattle.ps_model.specs.board.Grid.{Grid}
use Rattle.ps_board.specs.ColumnSets.{both_columns, column_at, columns_behind, set_columns}
use Rattle.ps_program.specs.declared.cells.CompiledCell.{CompiledCell}
use Rattle.ps_program.specs.declared.rows.Axis.{Axis}
use Rattle.ps_program.specs.declared.rows.Axis.TheVariants.{Down, Right}
use Rattle.ps_places.specs.PartStarts.{AreStarts, begins_at, columns_on}
use Rattle.ps_places.specs.Starts.{AreWhere}

-- of sets of columns those are kept that are in others too, moved so many columns to the left
abbrev pub AreBothBehind : List (List Bool) → List (List Bool) → ℕ → List (List Bool) → Type 0
AreBothBehind old others steps new = (k : ℕ) → k < length old →
    slice_index_or new k [] ≡ both_columns (slice_index_or old k []) (columns_behind (slice_index_or others k []) steps)

-- a set of columns for each of some rows, from the first one on: those in which the part begins
abbrev pub BeginOnRows : Grid → Option (List ℕ) → Axis → List CompiledCell → ℕ → List (List Bool) → Type 0
BeginOnRows g table axis part first starts = (k : ℕ) → k < length starts →
    AreWhere (begins_at g table axis part (first + k)) (slice_index_or starts k [])

-- so for the rows from the first one to the end, where each row has its own place
abbrev pub BeginBetween : Grid → Option (List ℕ) → Axis → List CompiledCell → ℕ → ℕ → List (List Bool) → Type 0
BeginBetween g table axis part first end starts = (row : ℕ) → first ≤ row → row < end →
    AreWhere (begins_at g table axis part row) (columns_on starts row)

-- how many rows, from the first of a board so high, have room for a part of so many cells
abbrev pub rows_with_room : Axis → ℕ → ℕ → ℕ
rows_with_room Down height cells = height + 1 - cells
rows_with_room Right height cells = height

-- all numbers of a set are below one
abbrev pub AreRowsBelow : List Bool → ℕ → Type 0
AreRowsBelow rows end = (row : ℕ) → column_at rows row ≡ true → row < end

-- all of them lie from one number to another
abbrev pub AreRowsBetween : List Bool → ℕ → ℕ → Type 0
AreRowsBetween rows first end = (row : ℕ) → column_at rows row ≡ true → (first ≤ row) × (row < end)

-- no row from one number to another has a column
abbrev pub AreEmptyBetween : ℕ → ℕ → List (List Bool) → Type 0
AreEmptyBetween first end starts = (row : ℕ) → first ≤ row → row < end → set_columns (columns_on starts row) ≡ []

-- those of some rows whose sets have a column
pub record AreRowsBegun (rows : List Bool) (starts : List (List Bool)) (begun : List Bool) : Type 0 where
  pub inside : (row : ℕ) → column_at begun row ≡ true → column_at rows row ≡ true
  pub some : (row : ℕ) → column_at begun row ≡ true → 0 < length (set_columns (columns_on starts row))
  pub none : (row : ℕ) → row < SIDE_LIMIT → column_at rows row ≡ true → column_at begun row ≡ false →
      set_columns (columns_on starts row) ≡ []

-- whether one of some rows has a set with a column: the rows that have are none, or else some
pub record HaveBegun (rows : List Bool) (starts : List (List Bool)) (some : Bool) : Type 0 where
  pub begun : List Bool
  pub are : AreRowsBegun rows starts begun
  pub one : some ≡ true → 0 < length (set_columns begun)
  pub none : some ≡ false → set_columns begun ≡ []

-- whether a part begins somewhere: the rows on which it begins are none, or else some
pub record BeginsSomewhere (g : Grid) (table : Option (List ℕ)) (axis : Axis) (part : List CompiledCell) (some : Bool) :
    Type 0 where
  pub rows : List Bool
  pub starts : List (List Bool)
  pub are : AreStarts g table axis part rows starts
  pub one : some ≡ true → 0 < length (set_columns rows)
  pub none : some ≡ false → set_columns rows ≡ []
