-- The player is never out of sight: the first cell of a frame that shows the player is in the part that is shown.
use Rattle.std.specs.Prelude.{◌≡◌, ℕ, ◌+◌, ◌<◌, ◌≤◌, Some, List, length}
use Rattle.ps_view.specs.declared.corners.Cell.{Cell}
use Rattle.ps_view.specs.declared.corners.Corner.{Corner}
use Rattle.ps_view.specs.Players.{first_player}
use Rattle.ps_view.specs.Corners.{corner_following, room_across, row_in, shown_in}
use Rattle.ps_view.specs.Views.{View, corner_drawn, rows_left}

-- where so much room shows a part of a list of so many items, from a place on, an item is in it
abbrev pub IsShown : ℕ → ℕ → ℕ → ℕ → Type 0
IsShown room count place item = room < count → (place ≤ item) × (item < place + shown_in room)

-- a cell of a frame is in the part at a corner, of so many rows of so many columns
pub record IsInPart (rows columns : ℕ) (corner : Corner) (frame : List (List ℕ)) (cell : Cell) : Type 0 where
  pub is_row : cell.row < length frame
  pub is_column : cell.column < length (row_in frame cell.row)
  pub row_shown : IsShown rows (length frame) corner.top cell.row
  pub column_shown : IsShown (room_across columns frame) (length (row_in frame cell.row)) corner.left cell.column

-- so it is with the cell that is followed, in whatever frame, wherever the part was before, and whatever the size, as
-- long as there is room for a row and a column
abbrev pub PlayersAreInSight : Type 0
PlayersAreInSight = (players : List ℕ) (rows columns : ℕ) (before : Corner) (frame : List (List ℕ))
    (changed cell : Cell) → 1 ≤ rows → 1 ≤ room_across columns frame → first_player players frame ≡ Some cell →
    IsInPart rows columns (corner_following players rows columns before frame changed) frame cell

-- so it is on each screen that is drawn, whatever is told last, as long as a row and a column are left to the frame
abbrev pub PlayersAreDrawn : Type 0
PlayersAreDrawn = (view : View) (cell : Cell) → 1 ≤ rows_left view → 1 ≤ room_across view.size.columns view.frame →
    first_player view.game.players view.frame ≡ Some cell →
    IsInPart (rows_left view) view.size.columns (corner_drawn view (rows_left view)) view.frame cell
