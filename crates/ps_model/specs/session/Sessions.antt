-- A session: where a player is in a game. Each key gives a new session and a text that is written. What a session is,
-- and the lines and boards that its steps speak of, stand here; the start of a level and the keys have files of their
-- own.
use Rattle.std.specs.Prelude.{ℕ, suc, ◌-◌, Bool, true, false, if◌then◌else◌, List, [], ◌∷◌, ◌++◌, length, take, drop}
use Rattle.std.specs.Prelude.{filter, codes}
use Rattle.ps_model.specs.declared.play.Ending.{Ending}
use Rattle.ps_model.specs.declared.limits.TheConstants.{HISTORY_LIMIT}
use Rattle.std.specs.Fmt.{decimal}
use Rattle.ps_model.specs.board.Grid.{Grid}
use Rattle.ps_model.specs.session.LevelLines.{Entry, MessageEntry, LevelEntry}
use Rattle.ps_model.specs.declared.rooms.Room.{Room}
use Rattle.ps_model.specs.session.Frames.{written_line}
use Rattle.ps_model.specs.session.Rooms.{room_after, frame_in}
use Rattle.ps_model.specs.board.Turns.{Script, Done}

-- a level that is played: its place among the entries; its board; the boards that undo goes back to, the latest last;
-- the board that a restart goes back to; and the room that the last frame showed
pub record Play : Type 0 where
  pub entry : ℕ
  pub board : Grid
  pub history : List Grid
  pub restart_board : Grid
  pub room : Room

-- what a level's message goes on with once it is dismissed: nothing; the end of the level; or a number of
-- further again turns, those of a key or those of the start of a level
pub data Pending : Type 0 where
  Nothing : Pending
  LevelDone : Pending
  KeyAgain : ℕ → Pending
  StartAgain : ℕ → Pending

-- a session: in a level; in a level whose message waits; at a message entry, by its place among the entries; or at the
-- end
pub data Session : Type 0 where
  Playing : Play → Session
  Waiting : Play → Pending → Session
  AtMessage : ℕ → Session
  Ended : Ending → Session

-- a session, and the text that is written on the way to it
pub record Step : Type 0 where
  pub session : Session
  pub text : List ℕ

-- a step without a text
abbrev pub quietly : Session → Step
quietly session = record { session = session; text = [] }

-- a step after a text
abbrev pub after : List ℕ → Step → Step
after text step = record { session = step.session; text = text ++ step.text }

-- what is written -----------------------------------------------------------------------------------------------------

-- the line of a message
abbrev pub message_line : List ℕ → List ℕ
message_line text = written_line (codes "! ") text

-- the level with the room that its board's next frame shows
abbrev pub seen : Script → Play → Play
seen script play = record {
  entry = play.entry;
  board = play.board;
  history = play.history;
  restart_board = play.restart_board;
  room = room_after script.options.flickscreen script.names play.board play.room;
}

-- the frame of a level that is played: of the room that is seen, where the game has rooms
abbrev pub shown : Script → Play → List ℕ
shown script play = frame_in script.options.flickscreen script.names play.board play.room

-- the entry is a level
abbrev pub is_level : Entry → Bool
is_level (MessageEntry text) = false
is_level (LevelEntry level) = true

-- the number of the level at that place among the entries: levels alone are counted, from 1
abbrev pub level_number : Script → ℕ → ℕ
level_number script entry = length (filter is_level (take (suc entry) script.entries))

-- the line that opens a level
abbrev pub level_line : Script → ℕ → List ℕ
level_line script entry = written_line (codes "# level ") (decimal (level_number script entry))

-- the line that closes a level
abbrev pub done_line : Script → ℕ → List ℕ
done_line script entry = written_line (codes "* level ") (decimal (level_number script entry) ++ codes " done")

-- boards --------------------------------------------------------------------------------------------------------------

-- the last boards of a list, as many as are kept
abbrev pub kept : List Grid → List Grid
kept boards = drop (length boards - HISTORY_LIMIT) boards

-- the board enters the history
abbrev pub with_board_in_history : Play → Play
with_board_in_history play = record {
  entry = play.entry;
  board = play.board;
  history = kept (play.history ++ play.board ∷ []);
  restart_board = play.restart_board;
  room = play.room;
}

-- the level with that board
abbrev pub with_board : Play → Grid → Play
with_board play board = record {
  entry = play.entry;
  board = board;
  history = play.history;
  restart_board = play.restart_board;
  room = play.room;
}

-- the level with the board of a done turn; a restart goes back to it too, where the turn sets a checkpoint
abbrev pub with_turn : Play → Done → Play
with_turn play done = record {
  entry = play.entry;
  board = done.board;
  history = play.history;
  restart_board = if done.checkpoint then done.board else play.restart_board;
  room = play.room;
}

-- a level whose message waits
abbrev pub waiting : Play → List ℕ → Pending → Step
waiting play text pending = record { session = Waiting play pending; text = message_line text }
