-- What a run answers is so on the source of its rules.
use Rattle.std.specs.Prelude.{List, Option, Some, Result, ℕ}
use Rattle.ps_model.specs.declared.play.Ending.{Ending}
use Rattle.ps_model.specs.board.Turns.{Script}
use Rattle.ps_model.specs.game.Headline.{Answer}
use Rattle.ps_model.specs.game.LevelRuns.{AnswersIn}
use Rattle.ps_model.specs.game.Tellings.{ReaderState, WriterState, Told, Tells}
use Rattle.ps_laws.specs.AlikeScripts.{SameRuns}
use Rattle.ps_devices.specs.Answers.{answer_of}
use Rattle.ps_devices.specs.declared.players.RunFault.{RunFault}
use Rattle.ps_run.specs.Runs.{IsSo}

-- a run on a text, of whose game it plays this script, if there is one, is right by what its devices told
pub record RunsRightlyIn (found : Option Script) (text : List ℕ) (had has : ReaderState) (before now : WriterState)
    (answer : Answer) : Type 0 where
  pub told : Told
  pub tells : Tells had has before now told
  pub answers : AnswersIn found text told answer

-- what is so of a run by other rules, which has the runs of a script, is what a run of that script may answer
abbrev pub AnswersCarryOver : Type 0
AnswersCarryOver =
    (text : List ℕ) (source script : Script) → SameRuns script source →
    (told : Told) (answer : Result Ending RunFault) → IsSo script told answer →
    AnswersIn (Some source) text told (answer_of answer)
