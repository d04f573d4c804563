-- The boards of a session: that of the level that is played, those that undo goes back to, and the one that a restart
-- goes back to. In a run of a game all of them are grids of the game, with sides within the limits.
use Rattle.std.specs.Prelude.{◌≡◌, ℕ, ◌<◌, ◌≤◌, Some, List, All, ⊤}
use Rattle.ps_model.specs.declared.play.Key.{Key}
use Rattle.ps_model.specs.declared.limits.TheConstants.{SIDE_LIMIT}
use Rattle.ps_model.specs.names.Names.{Names}
use Rattle.ps_model.specs.board.Grid.{Grid}
use Rattle.ps_model.specs.board.GameGrids.{IsGridOf}
use Rattle.ps_model.specs.board.Turns.{script_of, Outcome, Blocked, Restarted, Finished}
use Rattle.ps_model.specs.session.Sessions.{Play, Session, Playing, Waiting, AtMessage, Ended}
use Rattle.ps_model.specs.session.KeySteps.{key_step}
use Rattle.ps_model.specs.game.Games.{Game, game}
use Rattle.ps_model.specs.game.Outputs.{opening_step}
use Rattle.ps_laws.specs.Fronts.{session_of}

-- boards --------------------------------------------------------------------------------------------------------------

-- all boards of a level that is played are such grids
pub record AreBoards (IsSuch : Grid → Type 0) (play : Play) : Type 0 where
  pub board : IsSuch play.board
  pub history : All IsSuch play.history
  pub restart_board : IsSuch play.restart_board

-- all boards of a session are, be it in a level or not
abbrev pub AreBoardsIn : (Grid → Type 0) → Session → Type 0
AreBoardsIn IsSuch (Playing play) = AreBoards IsSuch play
AreBoardsIn IsSuch (Waiting play pending) = AreBoards IsSuch play
AreBoardsIn IsSuch (AtMessage entry) = ⊤
AreBoardsIn IsSuch (Ended ending) = ⊤

-- the board that an outcome has, if it has one, is such a grid
abbrev pub HasBoard : (Grid → Type 0) → Outcome → Type 0
HasBoard IsSuch (Blocked message) = ⊤
HasBoard IsSuch (Restarted message) = ⊤
HasBoard IsSuch (Finished done) = IsSuch done.board

-- a grid of the game whose sides are within the limits
pub record IsBoardOf (names : Names) (g : Grid) : Type 0 where
  pub grid : IsGridOf names g
  pub columns : g.width ≤ SIDE_LIMIT
  pub some_row : 0 < g.height
  pub rows : g.height ≤ SIDE_LIMIT

-- laws ----------------------------------------------------------------------------------------------------------------

-- all boards of the opening of a game are grids of the game, with sides within the limits
abbrev pub OpeningsHaveBoards : Type 0
OpeningsHaveBoards =
    (text : List ℕ) (read : Game) → game text ≡ Some read →
    AreBoardsIn (IsBoardOf read.names) (opening_step (script_of read)).session

-- each key keeps that so
abbrev pub KeysKeepBoards : Type 0
KeysKeepBoards =
    (text : List ℕ) (read : Game) → game text ≡ Some read → (session : Session) (key : Key) →
    AreBoardsIn (IsBoardOf read.names) session →
    AreBoardsIn (IsBoardOf read.names) (key_step (script_of read) session key).session

-- and so it is after whatever bytes
abbrev pub SessionsHaveBoards : Type 0
SessionsHaveBoards =
    (text : List ℕ) (read : Game) → game text ≡ Some read → (bytes : List ℕ) →
    AreBoardsIn (IsBoardOf read.names) (session_of (script_of read) bytes)
