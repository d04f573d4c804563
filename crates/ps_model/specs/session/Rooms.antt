-- Rooms: where a game asks for it by `flickscreen`, a frame shows one room of the board. It is that of the first cell
-- in which an object of Player stands. Rooms lie side by side from the upper left corner, each of one size; at the
-- right and the lower edge a room ends with the board.
use Rattle.std.specs.Prelude.{ℕ, ◌+◌, ◌-◌, ◌*◌, ◌/◌, ◌%◌, min, Option, Some, None, unwrap_or, option_map}
use Rattle.std.specs.Prelude.{List, ◌++◌, find, codes, encode_utf8}
use Rattle.std.specs.List.{flat_map, range_with_len}
use Rattle.ps_model.specs.declared.rooms.RoomSize.{RoomSize}
use Rattle.ps_model.specs.declared.rooms.Room.{Room}
use Rattle.ps_model.specs.declared.rooms.Window.{Window}
use Rattle.ps_model.specs.names.Names.{Names}
use Rattle.ps_model.specs.board.Grid.{Grid, cell_at, cell_count}
use Rattle.ps_model.specs.board.Turns.{has_player}
use Rattle.ps_model.specs.session.Frames.{frame, shown_character}

-- the room that is seen -----------------------------------------------------------------------------------------------

-- the room of the cell in a column and a row
abbrev pub room_at : RoomSize → ℕ → ℕ → Room
room_at size column row = record { x = column / size.width; y = row / size.height }

-- the room of a cell, by its number, on a board of that height
abbrev pub room_of_cell : RoomSize → ℕ → ℕ → Room
room_of_cell size height cell = room_at size (cell / height) (cell % height)

-- the first of the cells in which an object of Player stands
abbrev pub first_player_cell : Names → Grid → Option ℕ
first_player_cell names g = find (λ cell. has_player names (cell_at g cell)) (range_with_len 0 (cell_count g))

-- the room of that cell; without such a cell, the room of the last frame
abbrev pub room_seen : Names → RoomSize → Grid → Room → Room
room_seen names size g last = unwrap_or (option_map (room_of_cell size g.height) (first_player_cell names g)) last

-- the room of the last frame once this grid is shown; a game without a size of rooms has no other
abbrev pub room_after : Option RoomSize → Names → Grid → Room → Room
room_after None names g last = last
room_after (Some size) names g last = room_seen names size g last

-- the frame of a room -------------------------------------------------------------------------------------------------

-- a side of a board in parts of a size: where the part of a number begins, which is no further than where the side ends
abbrev pub part_start : ℕ → ℕ → ℕ → ℕ
part_start side size number = min side (number * size)

-- and how long it is, as far as the side goes
abbrev pub part_length : ℕ → ℕ → ℕ → ℕ
part_length side size number = min size (side - part_start side size number)

-- the part of a board that is a room
abbrev pub room_window : RoomSize → Room → Grid → Window
room_window size room g = record {
  first_column = part_start g.width size.width room.x;
  columns = part_length g.width size.width room.x;
  first_row = part_start g.height size.height room.y;
  rows = part_length g.height size.height room.y;
}

-- the whole board
abbrev pub whole_board : Grid → Window
whole_board g = record { first_column = 0; columns = g.width; first_row = 0; rows = g.height }

-- a row of the frame of a part of the board
abbrev pub window_row : Names → Grid → Window → ℕ → List ℕ
window_row names g window row =
    flat_map (λ column. encode_utf8 (shown_character names (cell_at g (column * g.height + row))))
    (range_with_len window.first_column window.columns) ++ codes "\n"

-- the frame of a part of the board: its rows from the top, then an empty line
abbrev pub window_frame : Names → Grid → Window → List ℕ
window_frame names g window = flat_map (window_row names g window) (range_with_len window.first_row window.rows) ++
    codes "\n"

-- the frame that shows a room of the board; without a size of rooms, the whole board
abbrev pub frame_in : Option RoomSize → Names → Grid → Room → List ℕ
frame_in None names g room = frame names g
frame_in (Some size) names g room = window_frame names g (room_window size room g)

-- the frame of a grid, where the last frame showed a room
abbrev pub room_frame : Option RoomSize → Names → Grid → Room → List ℕ
room_frame size names g last = frame_in size names g (room_after size names g last)
