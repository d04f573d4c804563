-- A game, as C holds it: its text, and what was read from it.
use Rattle.std.specs.Prelude.{ℕ, List}
use Rattle.ps_model.specs.game.Games.{Game}
use Rattle.ps_describe.specs.Descriptions.{name_of_object, object_of}
use Rattle.ps_facts.specs.Declarations.{declared}

pub record OpenGame : Type 0 where
  pub text : List ℕ
  pub read : Game

-- what the object of a number is called: the first name that the text declares for it alone, as it is written there
abbrev pub object_name : OpenGame → ℕ → List ℕ
object_name held object = name_of_object held.read.names (declared held.text) (object_of object)
