-- A text whose game was read, as contracts see it.
use Rattle.std.specs.Prelude.{◌≡◌, ℕ, List, Some}
use Rattle.ps_model.specs.game.Games.{Game, game}
use Rattle.ps_stage.specs.Playable.{ArePlayable}

-- a text, and a game
pub record ReadText : Type 0 where
  pub text : List ℕ
  pub read : Game

-- the game is that of the text, and its levels can be played
pub record IsGameOf (text : List ℕ) (read : Game) : Type 0 where
  pub is : game text ≡ Some read
  pub playable : ArePlayable read.names read.entries
