-- A session at rest, as contracts see it: where it is, and the names of the game that it is of. It may lack the boards
-- that undo goes back to.
use Rattle.std.specs.Prelude.{List, [], Option, Some, None}
use Rattle.ps_board.specs.Histories.{BoardShown}
use Rattle.ps_model.specs.names.Names.{Names}
use Rattle.ps_model.specs.session.Sessions.{Play, Session, Playing, Waiting, AtMessage, Ended}

pub record RestedSession : Type 0 where
  pub names : Names
  pub session : Session

-- the boards of a history, if there is one
abbrev pub boards_if : {H : Type 0} → (H → List BoardShown) → Option H → List BoardShown
boards_if boards None = []
boards_if boards (Some history) = boards history

-- the level with nothing to undo
abbrev pub play_without_history : Play → Play
play_without_history play = record {
  entry = play.entry;
  board = play.board;
  history = [];
  restart_board = play.restart_board;
  room = play.room;
}

-- the session, with nothing to undo
abbrev pub without_history : Session → Session
without_history (Playing play) = Playing (play_without_history play)
without_history (Waiting play pending) = Waiting (play_without_history play) pending
without_history (AtMessage entry) = AtMessage entry
without_history (Ended ending) = Ended ending
