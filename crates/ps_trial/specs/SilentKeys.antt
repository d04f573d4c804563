-- What an input does in a level, but for what is shown: the spot that it leads to, or none where it leads past the level.
use Rattle.std.specs.Prelude.{ℕ, zero, suc, Bool, true, false, ◌||◌, Option, Some, None, is_some}
use Rattle.ps_model.specs.declared.limits.TheConstants.{AGAIN_LIMIT}
use Rattle.ps_model.specs.declared.play.Input.{Input}
use Rattle.ps_model.specs.declared.play.Input.TheVariants.{Up, Down, Left, Right, Action}
use Rattle.ps_model.specs.board.Turns.{Script, Done, Outcome, Blocked, Restarted, Finished, turn}
use Rattle.ps_model.specs.session.Sessions.{Pending, Nothing, LevelDone, KeyAgain, StartAgain}
use Rattle.ps_model.specs.session.KeySteps.{key_pending}
use Rattle.ps_model.specs.session.Solving.{Spot}
use Rattle.ps_trial.specs.SilentStarts.{Boards, boards_with, spot_with, start_turns, restarted}

-- what follows a turn of a key: a message waits; without one the level is done on a win; otherwise the again turns come,
-- if the turn is to come again
abbrev pub key_told : Boards → Done → ℕ → (Boards → Option Spot) → Option Spot
key_told boards done left turns = elim (is_some done.message) [
  | true ↦ Some (spot_with boards (Some (key_pending done.win done.again left)))
  | false ↦ elim done.win [
    | true ↦ None
    | false ↦ elim done.again [ true ↦ turns boards | false ↦ Some (spot_with boards None) ]
  ]
]

-- a done again turn of a key; one that neither changed the board nor won is as if not run
abbrev pub key_counted : Boards → Done → ℕ → (Boards → Option Spot) → Option Spot
key_counted boards done left turns = elim (done.changed || done.win) [
  | true ↦ key_told (boards_with boards done) done left turns
  | false ↦ Some (spot_with boards None)
]

-- an again turn of a key by its outcome: a blocked one ends the again turns, and so does a restart
abbrev pub key_turn_by : Script → Boards → ℕ → (Boards → Option Spot) → Outcome → Option Spot
key_turn_by script boards left turns (Blocked message) = Some (spot_with boards None)
key_turn_by script boards left turns (Restarted message) = Some (restarted script boards (is_some message))
key_turn_by script boards left turns (Finished done) = key_counted boards done left turns

-- the again turns of a key, within a limit
abbrev pub key_turns : Script → ℕ → Boards → Option Spot
key_turns script zero boards = Some (spot_with boards None)
key_turns script (suc left) boards =
    key_turn_by script boards left (key_turns script left) (turn script None boards.board)

-- as many as there may be
unfoldable pub all_key_turns : Script → Boards → Option Spot
all_key_turns script boards = key_turns script AGAIN_LIMIT boards

-- a blocked turn: its message waits, with nothing to go on with
abbrev pub blocked : Boards → Bool → Spot
blocked boards true = spot_with boards (Some Nothing)
blocked boards false = spot_with boards None

-- what comes of a key's own turn
abbrev pub turn_taken : Script → Boards → Outcome → Option Spot
turn_taken script boards (Blocked message) = Some (blocked boards (is_some message))
turn_taken script boards (Restarted message) = Some (restarted script boards (is_some message))
turn_taken script boards (Finished done) = key_told (boards_with boards done) done AGAIN_LIMIT (all_key_turns script)

-- a turn with an input
abbrev pub input_taken : Script → Boards → Input → Option Spot
input_taken script boards input = turn_taken script boards (turn script (Some input) boards.board)

-- a key that an option has ignored, or what it comes to
abbrev pub unless_ignored : Bool → Boards → Option Spot → Option Spot
unless_ignored true boards came = Some (spot_with boards None)
unless_ignored false boards came = came

-- an input in a level; an option has `x` ignored
abbrev pub in_level : Script → Boards → Input → Option Spot
in_level script boards Up = input_taken script boards Up
in_level script boards Down = input_taken script boards Down
in_level script boards Left = input_taken script boards Left
in_level script boards Right = input_taken script boards Right
in_level script boards Action =
    unless_ignored script.options.no_action boards (input_taken script boards Action)

-- the level goes on after a message
abbrev pub gone_on : Script → Boards → Pending → Option Spot
gone_on script boards Nothing = Some (spot_with boards None)
gone_on script boards LevelDone = None
gone_on script boards (KeyAgain left) = key_turns script left boards
gone_on script boards (StartAgain left) = Some (start_turns script left boards)

-- an input while a message waits: `x` dismisses it
abbrev pub at_message : Script → Boards → Pending → Input → Option Spot
at_message script boards pending Action = gone_on script boards pending
at_message script boards pending other = Some (spot_with boards (Some pending))

-- an input in a level in which a message waits, or none
abbrev pub next_by : Script → Boards → Option Pending → Input → Option Spot
next_by script boards None input = in_level script boards input
next_by script boards (Some pending) input = at_message script boards pending input
