-- The turns of a rule: readings of which the members aren't chosen yet.
use Rattle.std.specs.Prelude.{ℕ, Bool, if◌then◌else◌, List, [], map}
use Rattle.ps_model.specs.declared.pieces.ObjectId.{ObjectId}
use Rattle.ps_model.specs.declared.pieces.Direction.{Direction}
use Rattle.ps_model.specs.declared.pieces.Motion.{Motion}
use Rattle.ps_model.specs.rules.SourceRules.{SourceRule}
use Rattle.ps_model.specs.meaning.Readings.{Reading, one_of_each, all_move_choices}

-- a turn, by its direction and its moves
abbrev pub turn : Direction → List (ℕ × Motion) → Reading
turn direction moves = record { direction = direction; moves = moves; members = [] }

-- the turns in a direction
abbrev pub turns_in : SourceRule → Direction → List Reading
turns_in rule direction = map (turn direction) (one_of_each (all_move_choices rule direction))

-- a turn with its members chosen, as a reading
abbrev pub with_members : Reading → List (ℕ × ObjectId) → Reading
with_members reading members = record { direction = reading.direction; moves = reading.moves; members = members }

-- the readings of a turn, by all choices of members
abbrev pub readings_of_turn : List (List (ℕ × ObjectId)) → Reading → List Reading
readings_of_turn members_chosen turn = map (with_members turn) members_chosen

-- the turns that are left, if there are more
abbrev pub more_turns : Bool → List Reading → List Reading
more_turns more turns = if more then turns else []
