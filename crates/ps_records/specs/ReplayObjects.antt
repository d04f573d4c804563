-- How a replay is told as JSON. The members of an object are in the order of their names.
use Rattle.std.specs.Prelude.{ℕ, Bool, Option, Some, None, List, ◌++◌, codes, map}
use Rattle.ps_model.specs.declared.play.Ending.{Ending}
use Rattle.ps_model.specs.declared.play.Ending.TheVariants.{TheEnd, Quit, EndOfKeys}
use Rattle.ps_records.specs.Replays.{is_won, level_of}
use Rattle.ps_records.specs.declared.replays.Replay.{Replay}
use Rattle.serde_json.specs.Data.{Data, null, boolean, number, unsigned, string, array, object, member, no_members}
use Rattle.serde_json.specs.View.{items_of}
use Rattle.serde_json.specs.Written.{compact_text}

-- how a run ends
abbrev pub ending_name : Ending → List ℕ
ending_name TheEnd = codes "end"
ending_name Quit = codes "quit"
ending_name EndOfKeys = codes "keys"

-- how many of something there are
abbrev pub count_told : ℕ → Data
count_told count = number (unsigned count)

-- the number of a level, if there is one
abbrev pub level_told : Option ℕ → Data
level_told None = null
level_told (Some level) = number (unsigned level)

-- the object with these parts
abbrev pub object_with : List ℕ → List ℕ → List ℕ → ℕ → Data → List Data → Bool → Data
object_with ending file game left level levels won =
    object (member (codes "ending") (string ending)
    (member (codes "file") (string file)
    (member (codes "game") (string game)
    (member (codes "left") (number (unsigned left))
    (member (codes "level") level
    (member (codes "levels") (array (items_of levels))
    (member (codes "won") (boolean won) no_members)))))))

-- the object on a replay, of the game and of the keys that files of these names have
unfoldable pub replay_data : List ℕ → List ℕ → Replay → Data
replay_data game file replay =
    object_with (ending_name replay.ending) file game replay.left (level_told (level_of replay))
    (map count_told replay.won.items) (is_won replay)

-- an object as a line
abbrev pub data_line : Data → List ℕ
data_line told = compact_text told ++ codes "\n"

-- the line on a replay
abbrev pub object_line : List ℕ → List ℕ → Replay → List ℕ
object_line game file replay = data_line (replay_data game file replay)
