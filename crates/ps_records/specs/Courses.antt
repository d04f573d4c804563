-- What comes of keys that are played one after the other: which levels they win, each in how many keys, and where they
-- lead.
use Rattle.std.specs.Prelude.{ℕ, zero, suc, ◌-◌, ◌==◌, Bool, true, false, Option, Some, None, is_some, List, []}
use Rattle.std.specs.Prelude.{◌∷◌, ◌++◌, length, take}
use Rattle.ps_model.specs.declared.play.Ending.{Ending}
use Rattle.ps_model.specs.declared.play.Ending.TheVariants.{TheEnd, Quit, EndOfKeys}
use Rattle.ps_model.specs.declared.play.Key.{Key}
use Rattle.ps_model.specs.board.Turns.{Script}
use Rattle.ps_model.specs.game.Outputs.{ending_of, opening_step}
use Rattle.ps_model.specs.session.Sessions.{Session, Playing, Waiting, AtMessage, Ended}
use Rattle.ps_laws.specs.Fronts.{session_after}
use Rattle.ps_records.specs.declared.courses.Place.{Place}

-- places --------------------------------------------------------------------------------------------------------------

-- the level where a session is, by its place among the entries
abbrev pub level_in : Session → Option ℕ
level_in (Playing play) = Some play.entry
level_in (Waiting play pending) = Some play.entry
level_in (AtMessage entry) = None
level_in (Ended ending) = None

-- where a session is
abbrev pub place_of : Session → Place
place_of session = record { level = level_in session; ending = ending_of session }

-- it is in that level
abbrev pub is_at_level : Option ℕ → ℕ → Bool
is_at_level None level = false
is_at_level (Some other) level = other == level

abbrev pub is_at : Place → ℕ → Bool
is_at place level = is_at_level place.level level

-- a key that led from one place to another left the player in a level; one that ended the game was pressed in a level
abbrev pub is_in_level : Place → Place → Bool
is_in_level before after = elim (is_some after.ending) [ true ↦ is_some before.level | false ↦ is_some after.level ]

-- where the player is after a number of the first keys
abbrev pub place_after : Script → Session → List Key → ℕ → Place
place_after script session keys count = place_of (session_after script session (take count keys))

-- courses -------------------------------------------------------------------------------------------------------------

-- what has come of the first keys: of each level that was won the number of keys that were pressed in it; how many keys
-- had been played when the player last left a level or a message, or the game; and whether they are in a level, or were
-- when the game ended
pub record Course : Type 0 where
  pub won : List ℕ
  pub since : ℕ
  pub in_level : Bool

-- before the first key, at this place
abbrev pub begun : Place → Course
begun place = record { won = []; since = 0; in_level = is_some place.level }

-- a level that is left is won in that number of keys, unless the player quit
abbrev pub won_unless_quit : Option Ending → ℕ → List ℕ
won_unless_quit (Some Quit) keys = []
won_unless_quit (Some TheEnd) keys = keys ∷ []
won_unless_quit (Some EndOfKeys) keys = keys ∷ []
won_unless_quit None keys = keys ∷ []

-- the key of that number, pressed in a level, leads to a place: it stays in the level, or leaves it
abbrev pub followed_from : Course → ℕ → ℕ → Place → Bool → Course
followed_from course number level after in_level = elim (is_at after level) [
  | true ↦ record { won = course.won; since = course.since; in_level = in_level }
  | false ↦ record {
    won = course.won ++ won_unless_quit after.ending (number - course.since);
    since = number;
    in_level = in_level;
  }
]

-- it leads on from a place that isn't the end, in a level or in none
abbrev pub followed_on : Course → ℕ → Option ℕ → Place → Bool → Course
followed_on course number None after in_level =
    record { won = course.won; since = number; in_level = in_level }
followed_on course number (Some level) after in_level = followed_from course number level after in_level

-- it leads from one place to another; after the end it isn't played
abbrev pub followed : Course → ℕ → Place → Place → Course
followed course number before after = elim (is_some before.ending) [
  | true ↦ course
  | false ↦ followed_on course number before.level after (is_in_level before after)
]

-- what has come of a number of the first keys, by the places where the player is after each number of keys
abbrev pub course_by : (ℕ → Place) → ℕ → Course
course_by places zero = begun (places zero)
course_by places (suc count) = followed (course_by places count) (suc count) (places count) (places (suc count))

-- what comes of keys from a session on
abbrev pub course_from : Script → Session → List Key → Course
course_from script session keys = course_by (place_after script session keys) (length keys)

-- what comes of keys from the start of a run on
abbrev pub course_of : Script → List Key → Course
course_of script keys = course_from script (opening_step script).session keys
