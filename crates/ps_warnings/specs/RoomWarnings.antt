-- Rooms that change nothing, as no level is larger than one of them. That is told at the line that says how large they
-- are.
use Rattle.std.specs.Prelude.{ℕ, nat_lt, Bool, false, ◌||◌, not, if◌then◌else◌, Option, Some, None, List, [], ◌∷◌}
use Rattle.std.specs.Prelude.{find, option_map}
use Rattle.std.specs.List.{list_any}
use Rattle.ps_model.specs.declared.rooms.RoomSize.{RoomSize}
use Rattle.ps_model.specs.text.Lines.{Line}
use Rattle.ps_model.specs.text.Preludes.{asks_for_rooms}
use Rattle.ps_model.specs.board.Levels.{Level}
use Rattle.ps_model.specs.session.LevelLines.{Entry, MessageEntry, LevelEntry}
use Rattle.ps_warnings.specs.declared.kinds.Warning.{Warning}
use Rattle.ps_warnings.specs.declared.kinds.WarningKind.TheVariants.{IdleRooms}

-- a level has more columns or more rows than a room
abbrev pub is_larger : RoomSize → Level → Bool
is_larger size level = nat_lt size.width level.width || nat_lt size.height level.height

-- an entry is a level that has
abbrev pub is_larger_entry : RoomSize → Entry → Bool
is_larger_entry size (MessageEntry text) = false
is_larger_entry size (LevelEntry level) = is_larger size level

-- a game has rooms, and none of its entries is larger than one
abbrev pub are_rooms_idle : Option RoomSize → List Entry → Bool
are_rooms_idle None entries = false
are_rooms_idle (Some size) entries = not (list_any (is_larger_entry size) entries)

-- the first line of the prelude that asks for rooms, if one does
abbrev pub line_of_rooms : List Line → Option ℕ
line_of_rooms prelude = option_map (λ line. line.number) (find asks_for_rooms prelude)

-- a warning at a line, if there is one
abbrev pub warned_of_rooms : Option ℕ → List Warning
warned_of_rooms None = []
warned_of_rooms (Some line) = record { line = line; kind = IdleRooms } ∷ []

-- a game of these rooms, entries and lines of the prelude
abbrev pub room_warnings : Option RoomSize → List Entry → List Line → List Warning
room_warnings size entries prelude =
    if are_rooms_idle size entries then warned_of_rooms (line_of_rooms prelude) else []
