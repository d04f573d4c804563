-- No object on a replay has a number with a point: so its text is the compact one.
use Rattle.std.proofs.Common.{◌≡◌, ◌∙◌, ℕ, List, [], ◌∷◌, Bool, false, Option, Some, None, map, refl, ap}
use Rattle.ps_records.specs.ReplayObjects.{count_told, data_line, ending_name, level_told, object_line, object_with}
use Rattle.ps_records.specs.ReplayObjects.{replay_data}
use Rattle.ps_records.specs.Replays.{is_won, level_of}
use Rattle.ps_records.specs.declared.replays.Replay.{Replay}
use Rattle.serde_json.specs.Data.{Data}
use Rattle.serde_json.specs.View.{items_of}
use Rattle.serde_json.specs.Written.{has_float, items_have_float}

level_plain : (level : Option ℕ) → has_float (level_told level) ≡ false
level_plain None = refl
level_plain (Some level) = refl

counts_plain : (counts : List ℕ) → items_have_float (items_of (map count_told counts)) ≡ false
counts_plain [] = refl
counts_plain (count ∷ counts) = counts_plain counts

object_plain : (ending file game : List ℕ) (left : ℕ) (level : Data) (levels : List Data) (won : Bool) →
    has_float level ≡ false → items_have_float (items_of levels) ≡ false →
    has_float (object_with ending file game left level levels won) ≡ false
object_plain ending file game left level levels won flat none = rw (flat, none) refl

data_plain : (game file : List ℕ) (replay : Replay) → has_float (replay_data game file replay) ≡ false
unfolding replay_data
data_plain game file replay =
    object_plain (ending_name replay.ending) file game replay.left (level_told (level_of replay))
    (map count_told replay.won.items) (is_won replay) (level_plain (level_of replay)) (counts_plain replay.won.items)

-- what is made of these parts is the object on the replay
pub object_made : (game file : List ℕ) (replay : Replay) (counts : List Data) (won : List ℕ) (told : Data) →
    told ≡ object_with (ending_name replay.ending) file game replay.left (level_told (level_of replay)) counts
    (is_won replay) → counts ≡ map count_told won → won ≡ replay.won.items → told ≡ replay_data game file replay
unfolding replay_data
object_made game file replay counts won told is are same =
    let parts : List Data → Data = λ own. object_with (ending_name replay.ending) file game replay.left
    (level_told (level_of replay)) own (is_won replay) in
    is ∙ ap parts (are ∙ ap (map count_told) same)

-- its line
pub line_made : (game file : List ℕ) (replay : Replay) (told : Data) (line : List ℕ) →
    told ≡ replay_data game file replay → (has_float told ≡ false → line ≡ data_line told) →
    line ≡ object_line game file replay
line_made game file replay told line is written =
    written (ap has_float is ∙ data_plain game file replay) ∙ ap data_line is
