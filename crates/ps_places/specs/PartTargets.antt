-- Rows of two parts: the positions at which one of the parts begins on a line of the board and has a partner, that
-- is, the other part begins on the same line where both have room.
use Rattle.std.specs.Prelude.{◌≡◌, ◌≢◌, ℕ, ◌+◌, ◌-◌, ◌/◌, ◌%◌, ◌<◌, nat_le, nat_lt, Bool, true, false, ◌&&◌, Option}
use Rattle.std.specs.Prelude.{List, [], length, slice_index_or}
use Rattle.std.specs.List.{list_any, range_with_len}
use Rattle.ps_model.specs.declared.limits.TheConstants.{SIDE_LIMIT}
use Rattle.ps_model.specs.board.Grid.{Grid}
use Rattle.ps_board.specs.ColumnSets.{column_at, set_columns}
use Rattle.ps_program.specs.declared.cells.CompiledCell.{CompiledCell}
use Rattle.ps_program.specs.declared.rows.Axis.{Axis}
use Rattle.ps_program.specs.declared.rows.Axis.TheVariants.{Down, Right}
use Rattle.ps_places.specs.FoundStarts.{begins_on}

-- the part that is spoken of, the first of the two or the second, and the other one
abbrev pub own_part : Bool → List CompiledCell → List CompiledCell → List CompiledCell
own_part true first second = first
own_part false first second = second

abbrev pub other_part : Bool → List CompiledCell → List CompiledCell → List CompiledCell
other_part true first second = second
other_part false first second = first

-- the second part lies behind the first one, which is so long
abbrev pub is_apart : Bool → ℕ → ℕ → ℕ → Bool
is_apart true size own other = nat_le (own + size) other
is_apart false size own other = nat_le (other + size) own

-- the other part begins somewhere on the line, apart from this one
abbrev pub has_partner : Grid → Option (List ℕ) → Axis → Bool → List CompiledCell → List CompiledCell → ℕ → ℕ → Bool
has_partner g table axis leads first second line own =
    list_any (λ other. is_apart leads (length first) own other && begins_on g table axis line
    (other_part leads first second) other)
    (range_with_len 0 SIDE_LIMIT)

-- the part begins at a position of a line and has a partner
abbrev pub is_target : Grid → Option (List ℕ) → Axis → Bool → List CompiledCell → List CompiledCell → ℕ → ℕ → Bool
is_target g table axis leads first second line position =
    begins_on g table axis line (own_part leads first second) position && has_partner g table axis leads first second
    line position

-- the line of a cell, and its position there
abbrev pub line_of : Axis → ℕ → ℕ → ℕ
line_of Down height n = n / height
line_of Right height n = n % height

abbrev pub position_of : Axis → ℕ → ℕ → ℕ
position_of Down height n = n % height
position_of Right height n = n / height

-- the cell lies so many steps behind the beginning of such a part
abbrev pub is_reached : Grid → Option (List ℕ) → Axis → Bool → List CompiledCell → List CompiledCell → ℕ → ℕ → Bool
is_reached g table axis leads first second steps n =
    nat_le steps (position_of axis g.height n)
    && is_target g table axis leads first second (line_of axis g.height n) (position_of axis g.height n - steps)

-- the number of such a cell in the whole row
abbrev pub number_in_row : Bool → ℕ → ℕ → ℕ
number_in_row true size steps = steps
number_in_row false size steps = size + steps

-- rows of the board ---------------------------------------------------------------------------------------------------

-- the part begins in a column of a row of the board, and has a partner
abbrev pub target_at : Grid → Option (List ℕ) → Axis → Bool → List CompiledCell → List CompiledCell → ℕ → ℕ → Bool
target_at g table Down leads first second row x = nat_lt x g.width && is_target g table Down leads first second x row
target_at g table Right leads first second row x = is_target g table Right leads first second row x

-- a column is one of those that are kept of a row
abbrev pub is_kept : List Bool → List (List Bool) → ℕ → ℕ → Bool
is_kept rows starts row x = column_at rows row && column_at (slice_index_or starts row []) x

-- the rows of which columns are kept are of a board so high, and of each some are
pub record AreKept (height : ℕ) (rows : List Bool) (starts : List (List Bool)) : Type 0 where
  pub below : (row : ℕ) → column_at rows row ≡ true → row < height
  pub some : (row : ℕ) → column_at rows row ≡ true → 0 < length (set_columns (slice_index_or starts row []))

-- columns are kept of one more row, if there are some
pub record IsRowKept (rows : List Bool) (old : List (List Bool)) (row : ℕ) (columns more : List Bool) (new : List
    (List Bool)) : Type 0 where
  pub here : (x : ℕ) → x < SIDE_LIMIT → is_kept more new row x ≡ column_at columns x
  pub others : (other x : ℕ) → other < SIDE_LIMIT → other ≢ row → is_kept more new other x ≡ is_kept rows old other x
  pub kept : (height : ℕ) → row < height → AreKept height rows old → AreKept height more new

-- the targets on a row are those that are kept
pub record IsRowOfTargets (g : Grid) (table : Option (List ℕ)) (axis : Axis) (leads : Bool)
    (first second : List CompiledCell)
    (rows : List Bool) (starts : List (List Bool)) (row : ℕ) : Type 0 where
  pub at : (x : ℕ) → x < SIDE_LIMIT → is_kept rows starts row x ≡ target_at g table axis leads first second row x

-- so for each row of the board
pub record AreTargets (g : Grid) (table : Option (List ℕ)) (axis : Axis) (leads : Bool)
    (first second : List CompiledCell)
    (rows : List Bool) (starts : List (List Bool)) : Type 0 where
  pub each : (row : ℕ) → row < g.height → IsRowOfTargets g table axis leads first second rows starts row
  pub kept : AreKept g.height rows starts

-- sets of columns -----------------------------------------------------------------------------------------------------

-- a set of columns, of the part that is spoken of or of the other one
abbrev pub own_set : Bool → List Bool → List Bool → List Bool
own_set true fronts backs = fronts
own_set false fronts backs = backs

abbrev pub other_set : Bool → List Bool → List Bool → List Bool
other_set true fronts backs = backs
other_set false fronts backs = fronts

-- a column of the one set with one of the other apart from it
abbrev pub is_paired : Bool → ℕ → List Bool → List Bool → ℕ → Bool
is_paired leads size fronts backs x =
    column_at (own_set leads fronts backs) x
    && list_any (λ other. is_apart leads size x other && column_at (other_set leads fronts backs) other)
    (range_with_len 0 SIDE_LIMIT)

-- one of a set lies less than so many columns to the right, or at the column itself
abbrev pub is_within : List Bool → ℕ → Bool
is_within set x = nat_lt x SIDE_LIMIT && column_at set x

pub record IsReach (set reach : List Bool) (steps : ℕ) : Type 0 where
  pub at : (x : ℕ) → column_at reach x ≡ list_any (is_within set) (range_with_len x steps)
