-- Where a session is, as C learns it: its phase, its level, and what stands in the cells there.
use Rattle.std.specs.Prelude.{◌≡◌, ℕ, suc, Option, Some, None, List, [], filter, length, map, take}
use Rattle.std.specs.List.{concat}
use Rattle.ps_model.specs.declared.pieces.ObjectId.{ObjectId}
use Rattle.ps_model.specs.declared.pieces.Slot.{Slot}
use Rattle.ps_model.specs.declared.play.Ending.TheVariants.{TheEnd, Quit, EndOfKeys}
use Rattle.ps_model.specs.board.Grid.{Grid, object_in}
use Rattle.ps_model.specs.session.LevelLines.{Entry}
use Rattle.ps_model.specs.session.Sessions.{Play, Session, Playing, Waiting, AtMessage, Ended, is_level}
use Rattle.ps_session.specs.declared.phase.Phase.{Phase}
use Rattle.ps_session.specs.declared.phase.Phase.TheVariants as phase
use Rattle.lizhakoven.specs.declared.cells.TheConstants.{NOTHING}
use Rattle.lizhakoven.specs.declared.places.Place.{Place}
use Rattle.lizhakoven.specs.declared.seeing.Seen.{Seen}
use Rattle.lizhakoven.specs.Told.{IsTold}

-- phases --------------------------------------------------------------------------------------------------------------

-- the number of a phase
abbrev pub number_of_phase : Phase → ℕ
number_of_phase phase.Playing = 1
number_of_phase phase.Message = 2
number_of_phase (phase.Ended TheEnd) = 3
number_of_phase (phase.Ended Quit) = 4
number_of_phase (phase.Ended EndOfKeys) = 5

-- the number of a session's phase: in a level, at a message, after the end of the game, and after the player quit
abbrev pub phase_number : Session → ℕ
phase_number (Playing play) = 1
phase_number (Waiting play pending) = 2
phase_number (AtMessage entry) = 2
phase_number (Ended TheEnd) = 3
phase_number (Ended Quit) = 4
phase_number (Ended EndOfKeys) = 5

-- levels --------------------------------------------------------------------------------------------------------------

-- the level that is played, if the session is in one
abbrev pub level_of : Session → Option Play
level_of (Playing play) = Some play
level_of (Waiting play pending) = Some play
level_of (AtMessage entry) = None
level_of (Ended ending) = None

-- the number of the level at a place among the entries
abbrev pub number_among : List Entry → ℕ → ℕ
number_among entries place = length (filter is_level (take (suc place) entries))

-- a place in no level
abbrev pub nowhere : ℕ → Place
nowhere number = record { phase = number; width = 0; height = 0; layers = 0; level = 0 }

-- a place in a level
abbrev pub in_level : List Entry → ℕ → Play → Place
in_level entries number play = record {
  phase = number;
  width = play.board.width;
  height = play.board.height;
  layers = play.board.layers;
  level = number_among entries play.entry;
}

-- the same, where there may be no level
abbrev pub place_in : List Entry → ℕ → Option Play → Place
place_in entries number None = nowhere number
place_in entries number (Some play) = in_level entries number play

-- where a session is, in a game with these entries
abbrev pub place_of : List Entry → Session → Place
place_of entries session = place_in entries (phase_number session) (level_of session)

-- cells ---------------------------------------------------------------------------------------------------------------

-- the number of an object, if there is one
abbrev pub object_number : Option ObjectId → ℕ
object_number None = NOTHING
object_number (Some object) = object.0

-- the number of what stands in a slot
abbrev pub slot_number : Slot → ℕ
slot_number slot = object_number (object_in slot)

-- the numbers of what stands in the cells of a grid
abbrev pub cells_in : Grid → List ℕ
cells_in g = concat (map (λ cell. map slot_number cell) g.cells)

-- the same of a level, if there is one
abbrev pub cells_of_level : Option Play → List ℕ
cells_of_level None = []
cells_of_level (Some play) = cells_in play.board

-- the same of a session
abbrev pub cells_of : Session → List ℕ
cells_of session = cells_of_level (level_of session)

-- telling -------------------------------------------------------------------------------------------------------------

-- where a session is is seen, and its cells are told if there is room for them
abbrev pub IsSeen : List Entry → Session → List ℕ → List ℕ → Seen → Type 0
IsSeen entries session before after seen =
    (seen.place ≡ place_of entries session) × IsTold (cells_of session) before after seen.is_told
