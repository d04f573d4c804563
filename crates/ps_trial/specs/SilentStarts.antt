-- The start of a level and of a restart, but for what is shown: what its turns make of the level's boards, and whether a
-- message waits. Nothing is written, and no room is seen; a win is dropped, so a start always ends in the level.
use Rattle.std.specs.Prelude.{ℕ, zero, suc, Bool, true, false, ◌||◌, if◌then◌else◌, Option, Some, None, is_some}
use Rattle.ps_model.specs.declared.limits.TheConstants.{AGAIN_LIMIT}
use Rattle.ps_model.specs.board.Grid.{Grid}
use Rattle.ps_model.specs.board.Turns.{Script, Done, Outcome, Blocked, Restarted, Finished, turn}
use Rattle.ps_model.specs.session.Sessions.{Pending}
use Rattle.ps_model.specs.session.StartSteps.{start_pending}
use Rattle.ps_model.specs.session.Solving.{Spot}

-- the boards of a level: the one that is played, and the one that a restart goes back to
pub record Boards : Type 0 where
  pub board : Grid
  pub restart_board : Grid

-- the boards after a done turn; a restart goes back to its board too, where the turn sets a checkpoint
abbrev pub boards_with : Boards → Done → Boards
boards_with boards done = record {
  board = done.board;
  restart_board = if done.checkpoint then done.board else boards.restart_board;
}

-- the spot of these boards, and of what a waiting message goes on with
abbrev pub spot_with : Boards → Option Pending → Spot
spot_with boards waits = record { board = boards.board; restart_board = boards.restart_board; waits = waits }

-- what follows a turn of a start: a message waits; without one the again turns come, if the turn is to come again
abbrev pub start_told : Boards → Bool → Bool → ℕ → (Boards → Spot) → Spot
start_told boards tells again left turns = elim tells [
  | true ↦ spot_with boards (Some (start_pending again left))
  | false ↦ elim again [ true ↦ turns boards | false ↦ spot_with boards None ]
]

-- a done again turn of a start; one that left the board as it was is as if not run
abbrev pub start_counted : Boards → Done → ℕ → (Boards → Spot) → Spot
start_counted boards done left turns = elim done.changed [
  | true ↦ start_told (boards_with boards done) (is_some done.message) done.again left turns
  | false ↦ spot_with boards None
]

-- an again turn of a start by its outcome: a blocked and a restarting one end the again turns
abbrev pub start_turn_by : Boards → ℕ → (Boards → Spot) → Outcome → Spot
start_turn_by boards left turns (Blocked message) = spot_with boards None
start_turn_by boards left turns (Restarted message) = spot_with boards None
start_turn_by boards left turns (Finished done) = start_counted boards done left turns

-- the again turns of a start, within a limit
abbrev pub start_turns : Script → ℕ → Boards → Spot
start_turns script zero boards = spot_with boards None
start_turns script (suc left) boards =
    start_turn_by boards left (start_turns script left) (turn script None boards.board)

-- as many as there may be
unfoldable pub all_start_turns : Script → Boards → Spot
all_start_turns script boards = start_turns script AGAIN_LIMIT boards

-- what follows the start's own turn
abbrev pub started : Script → Boards → Bool → Bool → Spot
started script boards tells again = start_told boards tells again AGAIN_LIMIT (all_start_turns script)

-- the start by its own turn, with a message from before or without one
abbrev pub started_by : Script → Boards → Bool → Outcome → Spot
started_by script boards tells (Blocked own) = started script boards (is_some own || tells) false
started_by script boards tells (Restarted own) = started script boards (is_some own || tells) false
started_by script boards tells (Finished done) =
    started script (boards_with boards done) (is_some done.message || tells) done.again

-- the start, with a turn of its own where an option asks for it
abbrev pub start_step : Script → Boards → Bool → Spot
start_step script boards tells = elim script.options.run_rules_on_level_start [
  | true ↦ started_by script boards tells (turn script None boards.board)
  | false ↦ started script boards tells false
]

-- the boards of a level that has its restart board
abbrev pub boards_back : Boards → Boards
boards_back boards = record { board = boards.restart_board; restart_board = boards.restart_board }

-- the level has its restart board, and the start follows
abbrev pub restarted : Script → Boards → Bool → Spot
restarted script boards tells = start_step script (boards_back boards) tells
