-- Rules of one row of two parts of which one cell alone is written: the cells of the board that are, as they are
-- found row by row.
use Rattle.std.specs.Prelude.{◌≡◌, ℕ, ◌+◌, ◌-◌, ◌/◌, ◌%◌, ◌<◌, nat_le, Bool, true, ◌&&◌, List}
use Rattle.ps_board.specs.ColumnSets.{column_at, columns_ahead}
use Rattle.ps_match.specs.Together.{is_on_row}
use Rattle.ps_program.specs.declared.rows.Axis.{Axis}
use Rattle.ps_program.specs.declared.rows.Axis.TheVariants.{Down, Right}
use Rattle.ps_places.specs.PartTargets.{is_kept, position_of}

-- the row of the board so many steps from one along an axis
abbrev pub row_behind : Axis → ℕ → ℕ → ℕ
row_behind Down row steps = row + steps
row_behind Right row steps = row

-- the cells so many steps from those of some columns of a row of the board
abbrev pub is_behind : Axis → ℕ → ℕ → ℕ → List Bool → ℕ → Bool
is_behind Down height steps row columns n = is_on_row height (row + steps) columns n
is_behind Right height steps row columns n = is_on_row height row (columns_ahead columns steps) n

-- the row and the column so many steps before a cell
abbrev pub start_row : Axis → ℕ → ℕ → ℕ → ℕ
start_row Down height steps n = n % height - steps
start_row Right height steps n = n % height

abbrev pub start_column : Axis → ℕ → ℕ → ℕ → ℕ
start_column Down height steps n = n / height
start_column Right height steps n = n / height - steps

-- the cell lies so many steps from a column that is kept
abbrev pub is_written : Axis → ℕ → ℕ → List Bool → List (List Bool) → ℕ → Bool
is_written axis height steps rows starts n =
    nat_le steps (position_of axis height n) && is_kept rows starts (start_row axis height steps n)
    (start_column axis height steps n)

-- the rows so many steps from these are of a board so high
pub record AreWithin (axis : Axis) (height steps : ℕ) (rows : List Bool) : Type 0 where
  pub at : (row : ℕ) → column_at rows row ≡ true → row_behind axis row steps < height
