-- What turns of a key tell, as steps and outcomes of the definitions.
use Rattle.std.specs.Prelude.{ℕ, Bool, List, ◌≡◌, ⊤, true, false}
use Rattle.ps_model.specs.board.Turns as model
use Rattle.ps_model.specs.board.Turns.{Script}
use Rattle.ps_model.specs.session.Sessions.{Play, Step, Playing, after, quietly, seen, shown}
use Rattle.ps_model.specs.session.StartSteps.{level_done, restarted}
use Rattle.ps_model.specs.session.KeySteps.{key_told}
use Rattle.ps_turn.specs.States.{done_shown}
use Rattle.ps_turn.specs.declared.outcomes.Turned.{Turned}
use Rattle.ps_turn.specs.declared.outcomes.Turned.TheVariants as outcomes
use Rattle.ps_stage.specs.declared.levels.Counting.TheVariants.{IfChangedOrWon}
use Rattle.ps_stage.specs.Standings.{Standing, with_done}
use Rattle.ps_stage.specs.StepsShown.{came, counts, stands}
use Rattle.ps_stage.specs.declared.locations.KeyEnd.{KeyEnd}
use Rattle.ps_stage.specs.declared.locations.KeyEnd.TheVariants.{Stops, Won, Restarts}
use Rattle.std.specs.declared.ops.ControlFlow.{ControlFlow}
use Rattle.std.specs.declared.ops.ControlFlow.TheVariants.{Break, Continue}
use Rattle.ps_turn.specs.declared.outcomes.DoneTurn.{DoneTurn}
use Rattle.ps_stage.specs.declared.levels.AfterTurn.{AfterTurn}

-- a done turn of a key, of which this level came: its frame, of the room that is seen, and what follows
abbrev pub key_shown : Script → Play → model.Done → ℕ → (Play → Step) → Step
key_shown script play done left again_turns =
    let next : Play = seen script play in after (shown script next) (key_told script next done left again_turns)

-- an again turn of a key, of which this level came: one that doesn't count is as if not run
abbrev pub key_outcome_shown : Script → Play → Turned DoneTurn → ℕ → (Play → Step) → Step
key_outcome_shown script play (outcomes.Blocked message) left again_turns = quietly (Playing play)
key_outcome_shown script play (outcomes.Restarted message) left again_turns = restarted script play message
key_outcome_shown script play (outcomes.Done done) left again_turns = elim (counts IfChangedOrWon done) [
  | true ↦ key_shown script play (done_shown done play.board) left again_turns
  | false ↦ quietly (Playing play)
]

-- how the turns of a key end: the level stands, is done, or restarts
abbrev pub key_end_step : Script → KeyEnd → Play → List ℕ → Step
key_end_step script (Stops pending) play text = came (stands pending play) text
key_end_step script Won play text = after text (level_done script play)
key_end_step script (Restarts message) play text = after text (restarted script play message)

-- a turn of a key behind which they end, or go on with again turns
abbrev pub key_told_step : Script → ControlFlow KeyEnd ⊤ → Play → List ℕ → (Play → Step) → Step
key_told_step script (Break end) play text again_turns = key_end_step script end play text
key_told_step script (Continue on) play text again_turns = after text (again_turns play)

-- the outcome of a turn that was tried on a level
abbrev pub tried_outcome : Turned (AfterTurn Standing (List Bool)) → model.Outcome
tried_outcome (outcomes.Blocked message) = model.Blocked message
tried_outcome (outcomes.Restarted message) = model.Restarted message
tried_outcome (outcomes.Done next) = model.Finished (done_shown next.done next.level.board)

-- the level behind a done turn is the one before with the turn's board
abbrev pub IsNext : Standing → Turned (AfterTurn Standing (List Bool)) → Type 0
IsNext level (outcomes.Blocked message) = ⊤
IsNext level (outcomes.Restarted message) = ⊤
IsNext level (outcomes.Done next) = next.level ≡ with_done level next.done next.level.board

-- again turns come behind a turn of a key
abbrev pub is_going_on : ControlFlow KeyEnd ⊤ → Bool
is_going_on (Break end) = false
is_going_on (Continue on) = true
