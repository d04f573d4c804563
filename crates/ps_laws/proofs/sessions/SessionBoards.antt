-- All boards of a run of a game are grids of the game, with sides within the limits.
use Rattle.std.proofs.Common.{◌≡◌, ℕ, Option, Some, List, get_or, refl}
use Rattle.ps_model.specs.declared.play.Input.{Input}
use Rattle.ps_model.specs.names.Names.{Names}
use Rattle.ps_model.specs.board.Grid.{Grid}
use Rattle.ps_model.specs.board.Turns.{Script, script_of, Outcome, Blocked, Restarted, Finished, turn}
use Rattle.ps_model.specs.session.LevelLines.{Entry, MessageEntry, LevelEntry}
use Rattle.ps_model.specs.session.GameLevels.{IsEntryWithinLimits}
use Rattle.ps_model.specs.game.Games.{Game, game}
use Rattle.ps_laws.specs.KeptGrids.{IsOutcomeOf}
use Rattle.ps_laws.specs.SameSides.{HasSides}
use Rattle.ps_laws.specs.GamesOfTexts.{LoadsAsGrid}
use Rattle.ps_laws.specs.SessionBoards.{HasBoard, IsBoardOf, OpeningsHaveBoards, KeysKeepBoards, SessionsHaveBoards}
use Rattle.ps_laws.proofs.texts.GamesOfTexts.{game-levels, game-turns}
use Rattle.ps_laws.proofs.texts.LevelLimits.{game-levels-within}
use Rattle.ps_laws.proofs.sessions.EqualSteps.{LoadsAs, EqualTurns}
use Rattle.ps_laws.proofs.sessions.EqualKeys.{key_step-equal}
use Rattle.ps_laws.proofs.sessions.EqualRuns.{opening_step-equal, session_of-boards}

outcome-board : (names : Names) (g : Grid) (outcome : Outcome) → IsBoardOf names g → IsOutcomeOf names outcome →
    HasSides g outcome → HasBoard (IsBoardOf names) outcome
outcome-board names g (Blocked message) h shape sides = tt
outcome-board names g (Restarted message) h shape sides = tt
outcome-board names g (Finished done) h shape sides = record {
  grid = shape;
  columns = rw sides.width h.columns;
  some_row = rw sides.height h.some_row;
  rows = rw sides.height h.rows;
}

entry-board : (names : Names) (entry : Entry) → LoadsAsGrid names entry → IsEntryWithinLimits entry →
    LoadsAs (IsBoardOf names) names entry
entry-board names (MessageEntry text) h within = tt
entry-board names (LevelEntry level) h within =
    record { grid = h; columns = within.columns; some_row = within.some_row; rows = within.rows }

-- a game's turns are its own, and make boards of boards
own_turns : (text : List ℕ) (read : Game) → game text ≡ Some read →
    EqualTurns (IsBoardOf read.names) (script_of read) (script_of read)
own_turns text read e =
    let kept : (input : Option Input) (g : Grid) → IsBoardOf read.names g →
    HasBoard (IsBoardOf read.names) (turn (script_of read) input g) =
    λ input g h. let made = game-turns text read e input g h.grid in
    outcome-board read.names g (turn (script_of read) input g) h made.0 made.1 in
    record {
      turns = λ input g h. record { equal = refl; board = kept input g h };
      levels = λ k d within. entry-board read.names (get_or read.entries k d) (game-levels text read e k d within)
          (game-levels-within text read e k d within);
    }

pub openings_have_boards : OpeningsHaveBoards
openings_have_boards text read e =
    let own : Script = script_of read in (opening_step-equal (IsBoardOf read.names) own own.plain own.late
    (own_turns text read e)).boards

pub keys_keep_boards : KeysKeepBoards
keys_keep_boards text read e session key boards =
    let own : Script = script_of read in (key_step-equal (IsBoardOf read.names) own own.plain own.late
    (own_turns text read e) session key boards).boards

pub sessions_have_boards : SessionsHaveBoards
sessions_have_boards text read e bytes = let own : Script = script_of read in
    session_of-boards (IsBoardOf read.names) own own.plain own.late (own_turns text read e) bytes
