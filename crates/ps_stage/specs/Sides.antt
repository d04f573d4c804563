-- The longer sides of levels, and for which of them boards of a kind are.
use Rattle.std.specs.Prelude.{ℕ, nat_eq, nat_lt, nat_le, max, Bool, ◌&&◌, ◌||◌, Option, Some, None, List, slice_get}
use Rattle.ps_model.specs.board.Levels.{Level}
use Rattle.ps_model.specs.session.LevelLines.{Entry, LevelEntry, MessageEntry}
use Rattle.ps_stage.specs.declared.sides.BoardSides.{BoardSides}

-- the longer side of a level; of an entry, where a message has none; and of the entry at a place, if one is there
abbrev pub longer_side : Level → ℕ
longer_side level = max level.width level.height

abbrev pub side_of : Entry → ℕ
side_of (MessageEntry text) = 0
side_of (LevelEntry level) = longer_side level

abbrev pub side_of_found : Option Entry → ℕ
side_of_found None = 0
side_of_found (Some entry) = side_of entry

abbrev pub side_at : List Entry → ℕ → ℕ
side_at entries place = side_of_found (slice_get entries place)

-- an entry with that longer side is played on such boards: it is no level, or neither for smaller ones nor for larger
-- ones
abbrev pub has_side : BoardSides → ℕ → Bool
has_side sides side = nat_eq side 0 || (nat_lt sides.above side && nat_le side sides.most)
