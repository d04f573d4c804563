-- What an answer claims about a level of a text's game.
use Rattle.std.specs.Prelude.{◌≡◌, ℕ, ◌≤◌, ◌<◌, List, Option, Some}
use Rattle.ps_model.specs.board.Turns.{Script}
use Rattle.ps_model.specs.game.Games.{Game, game}
use Rattle.ps_model.specs.game.LevelRuns.{level_count, script_from_level}
use Rattle.ps_model.specs.game.Outputs.{opening_step}
use Rattle.ps_answers.specs.SolvedLevels.{IsSolved}
use Rattle.ps_answers.specs.declared.solved.Solved.{Solved}

-- the text's game has the level of that number, and the answer is true of it from where a run begins at it
pub record IsSolvedLevel (text : List ℕ) (level limit : ℕ) (solved : Solved) : Type 0 where
  pub script : Script
  pub is : script_from_level text level ≡ Some script
  pub true_of_it : IsSolved script script.first_entry (opening_step script).session limit solved

-- the text has a game with that number of levels
pub record HasLevels (text : List ℕ) (levels : ℕ) : Type 0 where
  pub read : Game
  pub is : game text ≡ Some read
  pub counted : level_count read.entries ≡ levels

-- the text has a game with the level of that number: from 1 on, levels are counted
pub record HasLevelOf (text : List ℕ) (level : ℕ) : Type 0 where
  pub levels : ℕ
  pub has : HasLevels text levels
  pub first : 1 ≤ level
  pub last : level ≤ levels

-- the level of a number is asked about, and the text's game, with that many levels, lacks it
pub record LacksLevel (text : List ℕ) (asked : Option ℕ) (level levels : ℕ) : Type 0 where
  pub is : asked ≡ Some level
  pub has : HasLevels text levels
  pub beyond : 1 ≤ level → levels < level

-- the same, whatever the numbers are
pub record LacksAsked (text : List ℕ) (asked : Option ℕ) : Type 0 where
  pub level : ℕ
  pub levels : ℕ
  pub lacks : LacksLevel text asked level levels
