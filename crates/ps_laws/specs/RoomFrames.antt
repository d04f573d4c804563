-- Frames of rooms: the whole board among them, that a room which is seen shows where the Player is, and which rooms a
-- session shows.
use Rattle.std.specs.Prelude.{◌≡◌, ℕ, ◌+◌, ◌*◌, ◌/◌, ◌%◌, ◌<◌, ◌≤◌, Some, None}
use Rattle.ps_model.specs.declared.rooms.RoomSize.{RoomSize}
use Rattle.ps_model.specs.declared.rooms.Room.{Room}
use Rattle.ps_model.specs.declared.rooms.Window.{Window}
use Rattle.ps_model.specs.names.Names.{Names}
use Rattle.ps_model.specs.board.Grid.{Grid}
use Rattle.ps_model.specs.board.Turns.{Script}
use Rattle.ps_model.specs.session.Frames.{frame}
use Rattle.ps_model.specs.session.RoomSizes.{IsRoomSize}
use Rattle.ps_model.specs.session.Rooms.{first_player_cell, room_after, room_seen, room_window, room_frame, whole_board}
use Rattle.ps_model.specs.session.Rooms.{window_frame}
use Rattle.ps_model.specs.session.Sessions.{Play, seen, shown}

-- the whole board -----------------------------------------------------------------------------------------------------

-- the part of a board that is all of it has the board's frame
abbrev pub WholeBoardsHaveFrames : Type 0
WholeBoardsHaveFrames = (names : Names) (g : Grid) → window_frame names g (whole_board g) ≡ frame names g

-- without a size of rooms every frame is that of the whole board
abbrev pub FramesWithoutRooms : Type 0
FramesWithoutRooms = (names : Names) (g : Grid) (last : Room) → room_frame None names g last ≡ frame names g

-- and so it is where no side of the board is longer than a room, and the last frame showed the first room
abbrev pub FramesOfLargeRooms : Type 0
FramesOfLargeRooms =
    (names : Names) (size : RoomSize) (g : Grid) → 0 < g.height → g.width ≤ size.width → g.height ≤ size.height →
    room_frame (Some size) names g (record { x = 0; y = 0 }) ≡ frame names g

-- rooms that are seen -------------------------------------------------------------------------------------------------

-- the cell in a column and a row is in a part of a board
pub record IsIn (window : Window) (column row : ℕ) : Type 0 where
  pub right : window.first_column ≤ column
  pub left : column < window.first_column + window.columns
  pub below : window.first_row ≤ row
  pub above : row < window.first_row + window.rows

-- the first cell in which an object of Player stands is in the room that is seen
abbrev pub SeenRoomsShowPlayers : Type 0
SeenRoomsShowPlayers =
    (names : Names) (size : RoomSize) (g : Grid) (last : Room) (cell : ℕ) → 0 < g.height → IsRoomSize size →
    first_player_cell names g ≡ Some cell →
    IsIn (room_window size (room_seen names size g last) g) (cell / g.height) (cell % g.height)

-- sessions ------------------------------------------------------------------------------------------------------------

-- a game without rooms shows the whole board of a level, and leaves the level's room as it is
abbrev pub SessionsWithoutRooms : Type 0
SessionsWithoutRooms =
    (script : Script) (play : Play) → script.options.flickscreen ≡ None →
    (shown script play ≡ frame script.names play.board) × (seen script play ≡ play)

-- a board that is shown once more is shown in the same room
abbrev pub SeenRoomsStay : Type 0
SeenRoomsStay = (script : Script) (play : Play) → seen script (seen script play) ≡ seen script play
