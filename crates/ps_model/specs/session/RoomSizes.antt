-- What holds of the size of a game's rooms: each of its sides is from 1 to the limit of a board's sides.
use Rattle.std.specs.Prelude.{◌≤◌, IfSome}
use Rattle.ps_model.specs.declared.limits.TheConstants.{SIDE_LIMIT}
use Rattle.ps_model.specs.declared.options.Options.{Options}
use Rattle.ps_model.specs.declared.rooms.RoomSize.{RoomSize}

-- a room has a column and a row, and no more of each than a board may have
pub record IsRoomSize (size : RoomSize) : Type 0 where
  pub some_column : 1 ≤ size.width
  pub columns : size.width ≤ SIDE_LIMIT
  pub some_row : 1 ≤ size.height
  pub rows : size.height ≤ SIDE_LIMIT

-- if the options ask for rooms, then for such ones
abbrev pub HasRoomSize : Options → Type 0
HasRoomSize options = IfSome options.flickscreen IsRoomSize
