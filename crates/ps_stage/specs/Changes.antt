-- What a key comes to in a level, as a step of the definitions.
use Rattle.std.specs.Prelude.{◌≡◌, ℕ, Bool, IfErr, IfOk, List, Result}
use Rattle.ps_model.specs.board.Grid.{Grid}
use Rattle.ps_model.specs.board.Turns.{Script}
use Rattle.ps_model.specs.session.Sessions.{Play, Step}
use Rattle.ps_board.specs.declared.board.Board.{Ghosts as Board}
use Rattle.ps_turn.specs.declared.rules.Rules.{Ghosts as Rules}
use Rattle.ps_turn.specs.declared.rules.TurnRules.{TurnRules}
use Rattle.ps_stage.specs.Locations.{change_shown, GoesOnBasis}
use Rattle.ps_stage.specs.Meanings.{script_by}
use Rattle.ps_stage.specs.OwnBoards.{ChangeFits, IsForOthers}
use Rattle.ps_stage.specs.Standings.{SessionParts, Standing, basis_of, play_of}
use Rattle.ps_stage.specs.StepsShown.{IsStopped, came}
use Rattle.ps_stage.specs.Touched.{GoesFrom}
use Rattle.ps_stage.specs.declared.locations.Change.{Change}
use Rattle.ps_stage.specs.declared.locations.Location.TheVariants.{Playing}
use Rattle.ps_stage.specs.declared.stops.Stop.{Stop}

-- in a game that is played on some boards by some rules, a step from a level, whatever its history, comes to this
-- change with the text that was made; or it stops on the way
pub record ComesTo {B Words R : Type 0} (boards : Board B Words) (kind : Rules R B Words) (game : SessionParts)
    (rules : TurnRules R) (level : Standing) (step : Script → Play → Step)
    (result : Result (Change Standing (List Bool)) Stop) (text : List ℕ) : Type 0 where
  pub came : IfOk result (λ change. (history : List Grid) →
      step (script_by boards kind game rules) (play_of history level)
      ≡ came (change_shown history (Playing level) change) text)
  pub stopped : IfErr result (λ stop. (history : List Grid) →
      IsStopped (script_by boards kind game rules) stop
      (step (script_by boards kind game rules) (play_of history level)) text)
  -- the level that it goes to rests on what the game gives, and the boards are for it; where it stops they aren't
  pub basis : IfOk result (GoesOnBasis (basis_of boards.table_for game.names))
  pub fits : IfOk result (ChangeFits game level.entry)
  pub elsewhere : IfErr result (IsForOthers game)
  -- rows that come with it are such that the boards show the same outside of them
  pub touched : IfOk result (GoesFrom level.board)
