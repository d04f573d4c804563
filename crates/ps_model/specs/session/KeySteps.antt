-- What each key does. A direction or `x` makes a turn, with its frame, its message, and then the end of the level or
-- again turns; `z` goes back to the latest board of the history, `r` restarts, `q` quits. While a message waits, `x`
-- dismisses it, and all keys but `q` are ignored.
use Rattle.std.specs.Prelude.{ℕ, zero, suc, Bool, true, false, ◌||◌, Option, Some, None, List, ◌-◌, length, take}
use Rattle.std.specs.Prelude.{slice_get, codes}
use Rattle.ps_model.specs.declared.play.Ending.TheVariants.{Quit as Quits}
use Rattle.ps_model.specs.declared.play.Input.{Input}
use Rattle.ps_model.specs.declared.play.Input.TheVariants.{Up, Down, Left, Right, Action}
use Rattle.ps_model.specs.declared.play.Key.{Key}
use Rattle.ps_model.specs.declared.play.Key.TheVariants.{Move, Undo, Restart, Quit}
use Rattle.ps_model.specs.declared.limits.TheConstants.{AGAIN_LIMIT}
use Rattle.ps_model.specs.board.Grid.{Grid}
use Rattle.ps_model.specs.board.Turns.{Script, Done, Outcome, Blocked, Restarted, Finished, turn}
use Rattle.ps_model.specs.session.Sessions.{Play, Pending, Nothing, LevelDone, KeyAgain, StartAgain, Session, Playing}
use Rattle.ps_model.specs.session.Sessions.{Waiting, AtMessage, Ended, Step, quietly, after, waiting, seen, shown}
use Rattle.ps_model.specs.session.Sessions.{with_board_in_history, with_turn}
use Rattle.ps_model.specs.session.StartSteps.{start_turns, enter, level_done, restarted}

-- turns ---------------------------------------------------------------------------------------------------------------

-- what a turn of a key leaves to come: on a win the end of the level, otherwise its again turns, if it is to come again
abbrev pub key_pending : Bool → Bool → ℕ → Pending
key_pending true again left = LevelDone
key_pending false true left = KeyAgain left
key_pending false false left = Nothing

-- a turn of a key after its frame: a message waits; without one the level ends on a win; otherwise the again turns
-- come, within their limit, if the turn is to come again
abbrev pub key_told : Script → Play → Done → ℕ → (Play → Step) → Step
key_told script next done left again_turns = elim done.message [
  | Some text ↦ waiting next text (key_pending done.win done.again left)
  | None ↦ elim done.win [
    | true ↦ level_done script next
    | false ↦ elim done.again [ true ↦ again_turns next | false ↦ quietly (Playing next) ]
  ]
]

-- an again turn that changed the board or won, by the frame that shows it and what follows; one that didn't is as if
-- not run
abbrev pub key_counted : Script → Play → Done → ℕ → (Play → Step) → Step
key_counted script play done left again_turns = elim (done.changed || done.win) [
  | false ↦ quietly (Playing play)
  | true ↦ let next : Play = seen script (with_turn play done) in
      after (shown script next) (key_told script next done left again_turns)
]

-- an again turn of a key by its outcome: a blocked one doesn't count, nor does one that neither changed the board nor
-- won; one that doesn't count is as if not run, and ends the again turns. A restart ends them too
abbrev pub key_turn_by : Script → Play → ℕ → (Play → Step) → Outcome → Step
key_turn_by script play left again_turns (Blocked message) = quietly (Playing play)
key_turn_by script play left again_turns (Restarted message) = restarted script play message
key_turn_by script play left again_turns (Finished done) = key_counted script play done left again_turns

-- the again turns of a key, within a limit: turns without input
abbrev pub key_turns : Script → ℕ → Play → Step
key_turns script zero play = quietly (Playing play)
key_turns script (suc left) play = key_turn_by script play left (key_turns script left) (turn script None play.board)

-- the again turns of a key, as many as there may be
unfoldable pub all_key_turns : Script → Play → Step
all_key_turns script play = key_turns script AGAIN_LIMIT play

-- a level whose turn was blocked: a message waits with nothing to go on with
abbrev pub blocked : Play → Option (List ℕ) → Step
blocked play None = quietly (Playing play)
blocked play (Some text) = waiting play text Nothing

-- the board before a turn enters the history, if the turn changed it
abbrev pub with_board_in_history_if : Bool → Play → Play
with_board_in_history_if true play = with_board_in_history play
with_board_in_history_if false play = play

-- a done turn of a key, in a level whose history is already as it will be: the new board, its frame, and what follows
abbrev pub key_done : Script → Play → Done → Step
key_done script play done =
    let next : Play = seen script (with_turn play done) in
    after (shown script next) (key_told script next done AGAIN_LIMIT (all_key_turns script))

-- what comes of a key's own turn; a blocked one leaves board and room, and shows them once more
abbrev pub turn_taken : Script → Play → Outcome → Step
turn_taken script play (Blocked message) = after (shown script play) (blocked play message)
turn_taken script play (Restarted message) = restarted script (with_board_in_history play) message
turn_taken script play (Finished done) = key_done script (with_board_in_history_if done.changed play) done

-- keys ----------------------------------------------------------------------------------------------------------------

-- a turn with an input
abbrev pub input_taken : Script → Play → Input → Step
input_taken script play input = turn_taken script play (turn script (Some input) play.board)

-- the level back at the latest board of its history, with the room that is seen there. That board leaves the history;
-- where there is none, the level is as it is
abbrev pub back_at : Script → Play → Option Grid → Play
back_at script play None = play
back_at script play (Some latest) = seen script (record {
  entry = play.entry;
  board = latest;
  history = take (length play.history - 1) play.history;
  restart_board = play.restart_board;
  room = play.room;
})

-- the level back at the latest board; a frame shows it, also where it is as it was
abbrev pub undone : Script → Play → Step
undone script play = let back : Play = back_at script play (slice_get play.history (length play.history - 1)) in
    record { session = Playing back; text = shown script back }

-- quitting ends the run
abbrev pub quit : Step
quit = record { session = Ended Quits; text = codes "* quit\n" }

-- a key that an option has ignored, or what it does
abbrev pub unless_ignored : Bool → Play → (Play → Step) → Step
unless_ignored true play key = quietly (Playing play)
unless_ignored false play key = key play

-- a key in a level; options have `x`, `z` or `r` ignored
abbrev pub key_in_level : Script → Play → Key → Step
key_in_level script play (Move Up) = input_taken script play Up
key_in_level script play (Move Down) = input_taken script play Down
key_in_level script play (Move Left) = input_taken script play Left
key_in_level script play (Move Right) = input_taken script play Right
key_in_level script play (Move Action) = unless_ignored script.options.no_action play (λ here.
    input_taken script here Action)
key_in_level script play Undo = unless_ignored script.options.no_undo play (λ here. undone script here)
key_in_level script play Restart =
    unless_ignored script.options.no_restart play (λ here. restarted script (with_board_in_history here) None)
key_in_level script play Quit = quit

-- a level goes on after a message
abbrev pub gone_on : Script → Play → Pending → Step
gone_on script play Nothing = quietly (Playing play)
gone_on script play LevelDone = level_done script play
gone_on script play (KeyAgain left) = key_turns script left play
gone_on script play (StartAgain left) = start_turns script left play

-- a key while the message of a level waits
abbrev pub key_at_level_message : Script → Play → Pending → Key → Step
key_at_level_message script play pending (Move Action) = gone_on script play pending
key_at_level_message script play pending Quit = quit
key_at_level_message script play pending other = quietly (Waiting play pending)

-- a key while a message entry waits
abbrev pub key_at_entry : Script → ℕ → Key → Step
key_at_entry script entry (Move Action) = enter script (suc entry)
key_at_entry script entry Quit = quit
key_at_entry script entry other = quietly (AtMessage entry)

-- what a key does in a session; after the end, nothing
abbrev pub key_step : Script → Session → Key → Step
key_step script (Playing play) key = key_in_level script play key
key_step script (Waiting play pending) key = key_at_level_message script play pending key
key_step script (AtMessage entry) key = key_at_entry script entry key
key_step script (Ended ending) key = quietly (Ended ending)
