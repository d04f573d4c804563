-- What the prelude of a game says: its title, which options are set, and the size of its rooms. A line of the prelude
-- is known by its first word; what no line here names is read past.
use Rattle.std.specs.Prelude.{ℕ, Bool, ◌&&◌, Option, unwrap_or, option_map, option_and_then, List, [], find}
use Rattle.std.specs.Prelude.{slice_index_or, codes}
use Rattle.std.specs.List.{list_any}
use Rattle.std.specs.Option.{is_none}
use Rattle.std.specs.Str.{bytes_eq}
use Rattle.ps_model.specs.declared.options.Options.{Options}
use Rattle.ps_model.specs.declared.rooms.RoomSize.{RoomSize}
use Rattle.ps_model.specs.text.Lines.{Line, words_of_line, first_word, taken_bytes}
use Rattle.ps_model.specs.text.WrittenSizes.{size_of_word}

-- the first word of a line is this one, letters folded
abbrev pub begins_with : List ℕ → Line → Bool
begins_with word line = bytes_eq (first_word line) word

-- a line of the prelude begins with the word
abbrev pub is_set : List Line → List ℕ → Bool
is_set prelude word = list_any (begins_with word) prelude

-- the line asks for rooms
abbrev pub asks_for_rooms : Line → Bool
asks_for_rooms line = begins_with (codes "flickscreen") line

-- the size that a line writes as its second word
abbrev pub size_of_line : Line → Option RoomSize
size_of_line line = size_of_word (slice_index_or (words_of_line line) 1 [])

-- the line asks for rooms, but writes no size, which is refused
abbrev pub is_bad_flickscreen : Line → Bool
is_bad_flickscreen line = asks_for_rooms line && is_none (size_of_line line)

-- the size of rooms: the one of the first line of the prelude that asks for them; without such a line there is none
abbrev pub rooms_of : List Line → Option RoomSize
rooms_of prelude = option_and_then size_of_line (find asks_for_rooms prelude)

-- the options that the lines of the prelude set
abbrev pub options_of : List Line → Options
options_of prelude = record {
  no_action = is_set prelude (codes "noaction");
  no_undo = is_set prelude (codes "noundo");
  no_restart = is_set prelude (codes "norestart");
  require_player_movement = is_set prelude (codes "require_player_movement");
  run_rules_on_level_start = is_set prelude (codes "run_rules_on_level_start");
  flickscreen = rooms_of prelude;
}

-- the title: the text of the first line of the prelude that begins with `title`, empty or not; without such a line it
-- is empty
abbrev pub title_of : List Line → List ℕ
title_of prelude = unwrap_or (option_map taken_bytes (find (begins_with (codes "title")) prelude)) []

-- the line asks for real time, which is refused
abbrev pub asks_for_real_time : Line → Bool
asks_for_real_time line = begins_with (codes "realtime_interval") line
