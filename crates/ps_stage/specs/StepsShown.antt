-- What steps of the code tell, as steps of the definitions.
use Rattle.std.specs.Prelude.{◌≡◌, ℕ, ⊤, Bool, true, false, ◌||◌, Option, Some, None, List}
use Rattle.ps_model.specs.board.Grid.{Grid}
use Rattle.ps_model.specs.session.Sessions as model
use Rattle.ps_model.specs.board.Turns.{Script}
use Rattle.ps_model.specs.session.Sessions.{Play, Step, after, quietly, seen, shown}
use Rattle.ps_model.specs.session.StartSteps.{enter, start_told}
use Rattle.ps_turn.specs.declared.outcomes.Turned.{Turned}
use Rattle.ps_turn.specs.declared.outcomes.Turned.TheVariants.{Blocked, Restarted, Done}
use Rattle.ps_turn.specs.declared.outcomes.DoneTurn.{DoneTurn}
use Rattle.ps_stage.specs.declared.levels.Counting.{Counting}
use Rattle.ps_stage.specs.declared.levels.Counting.TheVariants.{Always, IfChanged, IfChangedOrWon}
use Rattle.ps_stage.specs.Standings.{Standing, with_done}
use Rattle.ps_stage.specs.declared.stops.Stop.{Stop}
use Rattle.ps_stage.specs.declared.stops.Stop.TheVariants.{Memory, Elsewhere}
use Rattle.ps_stage.specs.declared.locations.Pending.{Pending}
use Rattle.ps_stage.specs.declared.locations.Pending.TheVariants.{Nothing, LevelDone, KeyAgain, StartAgain}
use Rattle.std.specs.declared.ops.ControlFlow.{ControlFlow}
use Rattle.std.specs.declared.ops.ControlFlow.TheVariants.{Break, Continue}

-- whether a done turn counts
abbrev pub counts : Counting → DoneTurn → Bool
counts Always done = true
counts IfChanged done = done.changed
counts IfChangedOrWon done = done.changed || done.win

-- the level behind a turn that came to this grid, where only some done turns count
abbrev pub taken : Counting → Turned DoneTurn → Standing → Grid → Standing
taken counting (Blocked message) level g = level
taken counting (Restarted message) level g = level
taken counting (Done done) level g = elim (counts counting done) [ true ↦ with_done level done g | false ↦ level ]

-- the board behind that turn
abbrev pub board_taken : Counting → Turned DoneTurn → Grid → Grid → Grid
board_taken counting (Blocked message) board g = board
board_taken counting (Restarted message) board g = board
board_taken counting (Done done) board g = elim (counts counting done) [ true ↦ g | false ↦ board ]

-- a session that was come to, and the text on the way
abbrev pub came : model.Session → List ℕ → Step
came session text = record { session = session; text = text }

-- what a message goes on with
abbrev pub pending_shown : Pending → model.Pending
pending_shown Nothing = model.Nothing
pending_shown LevelDone = model.LevelDone
pending_shown (KeyAgain left) = model.KeyAgain left
pending_shown (StartAgain left) = model.StartAgain left

-- a level in which a message waits, or none
abbrev pub stands : Option Pending → Play → model.Session
stands None play = model.Playing play
stands (Some pending) play = model.Waiting play (pending_shown pending)

-- a step that stops there, or goes on with again turns
abbrev pub told_step : ControlFlow (Option Pending) ⊤ → Play → List ℕ → (Play → Step) → Step
told_step (Break pending) play text again_turns = came (stands pending play) text
told_step (Continue on) play text again_turns = after text (again_turns play)

-- the start behind a done turn, of which this level came: a frame, of the room that is seen, and what follows, if the
-- turn changed the board
abbrev pub start_shown : Script → Play → DoneTurn → ℕ → (Play → Step) → Step
start_shown script play done left again_turns = elim done.changed [
  | false ↦ quietly (model.Playing play)
  | true ↦ let next : Play = seen script play in
      after (shown script next) (start_told next done.message done.again left again_turns)
]

-- the start behind an again turn, of which this level came: one that isn't done is as if not run
abbrev pub start_outcome_shown : Script → Play → Turned DoneTurn → ℕ → (Play → Step) → Step
start_outcome_shown script play (Blocked message) left again_turns = quietly (model.Playing play)
start_outcome_shown script play (Restarted message) left again_turns = quietly (model.Playing play)
start_outcome_shown script play (Done done) left again_turns = start_shown script play done left again_turns

-- the message of a turn
abbrev pub message_of : Turned DoneTurn → Option (List ℕ)
message_of (Blocked message) = message
message_of (Restarted message) = message
message_of (Done done) = done.message

-- the turn is done, and to come again
abbrev pub is_again : Turned DoneTurn → Bool
is_again (Blocked message) = false
is_again (Restarted message) = false
is_again (Done done) = done.again

-- a step that stopped with a text: where memory was wanting nothing is said; else what is left of it is that an entry
-- begins
abbrev pub IsStopped : Script → Stop → Step → List ℕ → Type 0
IsStopped script Memory step text = ⊤
IsStopped script (Elsewhere entry) step text = step ≡ after text (enter script entry)
