-- Runs that begin at a level or at the start, and traced runs: a tracer tells of each key before it is played. A traced
-- run is right as any run is, and so is what it writes. It reads by a reader above the one that is lent, which has the
-- same bytes to give. Not said: what is left in the one that is lent.
use Rattle.std.specs.Prelude.{◌≡◌, ℕ, Option, Some, None, List}
use Rattle.ps_model.specs.game.Tellings.{ReaderState, WriterState}
use Rattle.ps_model.specs.game.Headline.{RunsRightly}
use Rattle.ps_model.specs.game.LevelRuns.{LevelAnswer, LacksLevel, Plays, RunsRightlyFromLevel}

-- a run is right that begins at that level; without one, at the start, where no level can be lacking
abbrev pub RunsFrom : List ℕ → Option ℕ → ReaderState → ReaderState → WriterState → WriterState → LevelAnswer → Type 0
RunsFrom text None before after first last (Plays answer) = RunsRightly text before after first last answer
RunsFrom text None before after first last (LacksLevel levels) = ⊥
RunsFrom text (Some level) before after first last answer =
    RunsRightlyFromLevel text level before after first last answer

-- a traced run is right
pub record RunsTraced (text : List ℕ) (level : Option ℕ) (reader : ReaderState) (before after : WriterState)
    (answer : LevelAnswer) : Type 0 where
  pub first : ReaderState
  pub last : ReaderState
  pub same : first.remaining ≡ reader.remaining
  pub rightly : RunsFrom text level first last before after answer
