-- The line on the level to which the keys of a run lead.
use Rattle.std.specs.Prelude.{◌≡◌, ℕ, Bool, Option, List}
use Rattle.ps_answers.specs.SolvedAfterKeys.{IsSolvedAfterKeys}
use Rattle.ps_answers.specs.SolvedLevels.{is_won}
use Rattle.ps_answers.specs.SolvedTexts.{LacksLevel}
use Rattle.ps_answers.specs.TellsLevels.{Telling, Tells}
use Rattle.ps_answers.specs.declared.solved.Solved.{Solved}
use Rattle.ps_answers.specs.declared.solved.SolvedAfter.TheVariants as found
use Rattle.ps_answers.specs.declared.tellers.ToldAfter.{ToldAfter}
use Rattle.ps_answers.specs.declared.tellers.ToldAfter.TheVariants.{Line, NoLevel, NoSuchLevel}

module _ (text : List ℕ) (start : Option ℕ) (keys : List ℕ) (tell : Telling) (limit : ℕ) where
  -- the line on that level: its answer is right, it is told in this way, and the level can be won from there or not
  pub record IsLineAfterKeys (won : Bool) (line : List ℕ) : Type 0 where
    pub level : ℕ
    pub solved : Solved
    pub right : IsSolvedAfterKeys text start keys limit (found.Level level solved)
    pub answers : won ≡ is_won solved
    pub is : line ≡ tell level solved

  -- a writer has taken that line; or nothing, as the keys lead to no level, or the game lacks the level at which the run
  -- is to begin
  abbrev pub TellsAfterKeys : ToldAfter → Option (List ℕ) → Option (List ℕ) → Type 0
  TellsAfterKeys (Line won) before after = Tells (IsLineAfterKeys won) before after
  TellsAfterKeys NoLevel before after = IsSolvedAfterKeys text start keys limit found.NoLevel × (after ≡ before)
  TellsAfterKeys (NoSuchLevel level levels) before after = LacksLevel text start level levels × (after ≡ before)
