-- What an answer claims about the level to which the keys of a run lead.
use Rattle.std.specs.Prelude.{◌≡◌, ⊤, ℕ, Option, Some, None, List}
use Rattle.ps_model.specs.board.Turns.{Script}
use Rattle.ps_model.specs.game.Headline.{script_of_text}
use Rattle.ps_model.specs.game.LevelRuns.{script_from_level}
use Rattle.ps_model.specs.session.Sessions.{Session, level_number}
use Rattle.ps_laws.specs.Fronts.{session_of}
use Rattle.ps_answers.specs.SolvedLevels.{IsIn, IsNowhere, IsSolved}
use Rattle.ps_answers.specs.SolvedTexts.{HasLevelOf}
use Rattle.ps_answers.specs.declared.solved.Solved.{Solved}
use Rattle.ps_answers.specs.declared.solved.SolvedAfter.{SolvedAfter}
use Rattle.ps_answers.specs.declared.solved.SolvedAfter.TheVariants.{Level, NoLevel}

-- runs ----------------------------------------------------------------------------------------------------------------

-- a text's game as a run plays it: from its start, or from the level of a number, if the game has that level
abbrev pub script_from : List ℕ → Option ℕ → Option Script
script_from text None = script_of_text text
script_from text (Some level) = script_from_level text level

-- a run of the text's game can begin there: at its start, or at a level that it has
abbrev pub HasStart : List ℕ → Option ℕ → Type 0
HasStart text None = ⊤
HasStart text (Some level) = HasLevelOf text level

-- answers -------------------------------------------------------------------------------------------------------------

-- a session is in the level of that number, and the answer is true of the level from there
pub record IsSolvedThere (script : Script) (session : Session) (limit level : ℕ) (solved : Solved) : Type 0 where
  pub entry : ℕ
  pub at : IsIn entry session
  pub numbered : level ≡ level_number script entry
  pub true_of_it : IsSolved script entry session limit solved

-- what is said of a session: it is in the level of that number, of which the answer is true; or it is in no level
abbrev pub IsTrueThere : Script → Session → ℕ → SolvedAfter → Type 0
IsTrueThere script session limit (Level level solved) = IsSolvedThere script session limit level solved
IsTrueThere script session limit NoLevel = IsNowhere session

-- a run of the text's game begins there, and has these bytes of keys: what is said of where they lead is true
pub record IsSolvedAfterKeys (text : List ℕ) (start : Option ℕ) (keys : List ℕ) (limit : ℕ) (found : SolvedAfter) :
    Type 0 where
  pub script : Script
  pub is : script_from text start ≡ Some script
  pub true_there : IsTrueThere script (session_of script keys) limit found
