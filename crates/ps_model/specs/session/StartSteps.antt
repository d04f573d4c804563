-- The start of a level, at which its first frame is written, and of each restart. Where an option asks for it a turn
-- without input comes first. Then a message may wait, and again turns may follow. A win at the start is dropped.
use Rattle.std.specs.Prelude.{ℕ, zero, suc, Bool, true, false, Option, Some, None, List, [], slice_get, codes}
use Rattle.std.specs.Option.{option_or}
use Rattle.ps_model.specs.declared.play.Ending.TheVariants.{TheEnd}
use Rattle.ps_model.specs.declared.limits.TheConstants.{AGAIN_LIMIT}
use Rattle.ps_model.specs.declared.rooms.Room.{Room}
use Rattle.ps_model.specs.board.Grid.{Grid}
use Rattle.ps_model.specs.board.Levels.{Level, loaded}
use Rattle.ps_model.specs.session.LevelLines.{Entry, MessageEntry, LevelEntry}
use Rattle.ps_model.specs.board.Turns.{Script, Done, Outcome, Blocked, Restarted, Finished, turn}
use Rattle.ps_model.specs.session.Sessions.{Play, Pending, Nothing, StartAgain, Playing, AtMessage, Ended, Step}
use Rattle.ps_model.specs.session.Sessions.{quietly, after, waiting, message_line, seen, shown, level_line}
use Rattle.ps_model.specs.session.Sessions.{done_line, with_board, with_turn}

-- what the turn of a start leaves to come: its again turns, if it is to come again
abbrev pub start_pending : Bool → ℕ → Pending
start_pending false left = Nothing
start_pending true left = StartAgain left

-- a start after a frame: a message waits; without one the again turns come, within their limit, if the turn is to
-- come again
abbrev pub start_told : Play → Option (List ℕ) → Bool → ℕ → (Play → Step) → Step
start_told play (Some text) again left again_turns = waiting play text (start_pending again left)
start_told play None false left again_turns = quietly (Playing play)
start_told play None true left again_turns = again_turns play

-- a turn of a start that changed the board, by the frame that shows it and what follows; one that didn't is as if not
-- run
abbrev pub start_counted : Script → Play → Done → ℕ → (Play → Step) → Step
start_counted script play done left again_turns = elim done.changed [
  | false ↦ quietly (Playing play)
  | true ↦ let next : Play = seen script (with_turn play done) in
      after (shown script next) (start_told next done.message done.again left again_turns)
]

-- an again turn of a start by its outcome: a blocked and a restarting one don't count, nor does one that left the board
-- as it was; one that doesn't count is as if not run, and ends the again turns
abbrev pub start_turn_by : Script → Play → ℕ → (Play → Step) → Outcome → Step
start_turn_by script play left again_turns (Blocked message) = quietly (Playing play)
start_turn_by script play left again_turns (Restarted message) = quietly (Playing play)
start_turn_by script play left again_turns (Finished done) = start_counted script play done left again_turns

-- the again turns of a start, within a limit: turns without input
abbrev pub start_turns : Script → ℕ → Play → Step
start_turns script zero play = quietly (Playing play)
start_turns script (suc left) play =
    start_turn_by script play left (start_turns script left) (turn script None play.board)

-- the again turns of a start, as many as there may be
unfoldable pub all_start_turns : Script → Play → Step
all_start_turns script play = start_turns script AGAIN_LIMIT play

-- a level from its first frame on, with a message or without one, and with again turns or without
abbrev pub started : Script → Play → Option (List ℕ) → Bool → Step
started script play message again =
    let next : Play = seen script play in after (shown script next)
    (start_told next message again AGAIN_LIMIT (all_start_turns script))

-- the start by its own turn: a blocked or restarting one leaves the board; its message comes before one from before
abbrev pub started_by : Script → Play → Option (List ℕ) → Outcome → Step
started_by script play message (Blocked own) = started script play (option_or own message) false
started_by script play message (Restarted own) = started script play (option_or own message) false
started_by script play message (Finished done) =
    started script (with_turn play done) (option_or done.message message) done.again

-- the start step, with a message from before or without one
abbrev pub start_step : Script → Play → Option (List ℕ) → Step
start_step script play message = elim script.options.run_rules_on_level_start [
  | true ↦ started_by script play message (turn script None play.board)
  | false ↦ started script play message false
]

-- the room before the first frame of a level
abbrev pub first_room : Room
first_room = record { x = 0; y = 0 }

-- a level at its start: as it is loaded, and without a history
abbrev pub fresh : Script → ℕ → Level → Play
fresh script entry level =
    let board : Grid = loaded script.names level in
    record { entry = entry; board = board; history = []; restart_board = board; room = first_room }

-- an entry begins: a message waits, a level starts; after the last entry is the end
abbrev pub entered : Script → ℕ → Option Entry → Step
entered script entry None = record { session = Ended TheEnd; text = codes "* the end\n" }
entered script entry (Some (MessageEntry text)) = record { session = AtMessage entry; text = message_line text }
entered script entry (Some (LevelEntry level)) =
    after (level_line script entry) (start_step script (fresh script entry level) None)

-- the entry at a place begins
abbrev pub enter : Script → ℕ → Step
enter script entry = entered script entry (slice_get script.entries entry)

-- a level is done, and the next entry begins
abbrev pub level_done : Script → Play → Step
level_done script play = after (done_line script play.entry) (enter script (suc play.entry))

-- a level restarts: it has the restart board, and the start step follows
abbrev pub restarted : Script → Play → Option (List ℕ) → Step
restarted script play message = start_step script (with_board play play.restart_board) message
