-- What a run of the program is: the status that it ends with, by the words of a command line, and by what standard input
-- has left and the screen has taken, before it and after it.
--
-- Words that aren't there or aren't right end the program before it asks for anything. An accepted line asks for a
-- task. The task is done, and the status is 0. Or something stops it that may stop such a task, and the status is 1, or
-- 2 for a code that no fault has. Help and the version are shown on the screen, and nothing else is that no task tells.
-- What stands on standard error isn't said here.
use Rattle.std.specs.Prelude.{◌≡◌, ◌⊎◌, ℕ, Bool, true, false, ⊤, Option, Some, None, List, Result, Ok, Err}
use Rattle.std.specs.Prelude.{OnOk, IfErr, String, is_none, map, string_bytes}
use Rattle.std.specs.Global.{Global, Vec}
use Rattle.clap.specs.Words.{Text}
use Rattle.ps_model.specs.game.Tellings.{ReaderState, WriterState}
use Rattle.ps_devices.specs.Devices.{Grows}
use Rattle.ps_devices.specs.declared.players.RunFault.TheVariants as fault
use Rattle.ps_report.specs.declared.details.Detail.TheVariants as detail
use Rattle.ps_view.specs.declared.sizes.Size.{Size}
use Rattle.ps_command.specs.AskedFor.{IsAsked}
use Rattle.ps_command.specs.CommandLines.{matched}
use Rattle.ps_command.specs.Given.{texts_of}
use Rattle.ps_command.specs.LinesAtFault.{IsFaultOfLine}
use Rattle.ps_command.specs.Replayed.{TellsOfUnwon, TellsOfWon}
use Rattle.ps_command.specs.Reported.{IsReportOfFile, IsReportOfGame, TellsReportRead}
use Rattle.ps_command.specs.Searched.{AreLinesToldOf, AreWonLines, question_of}
use Rattle.ps_command.specs.SearchedAfter.{IsLineOnUnwon, IsLineOnWon, IsSilentOnRead, LacksStart, LeadNowhere}
use Rattle.ps_command.specs.SearchedAfter.{TellsOfRead}
use Rattle.ps_command.specs.Statuses.{IsStatusOf, IsStatusOfLine}
use Rattle.ps_command.specs.Stops.{StopsTask}
use Rattle.ps_command.specs.Told.{PlaysToAnEnd, TellsInOrder, TellsOfDescribed, TellsOfFiles, TellsOfGame, TellsOfGames}
use Rattle.ps_command.specs.Told.{TellsOfRefused, TellsOfUndescribed, TellsSomeLine, TracesToAnEnd}
use Rattle.ps_command.specs.Viewings.{PlaysInView, ShowsOutput}
use Rattle.ps_command.specs.declared.command.Asked.{Asked}
use Rattle.ps_command.specs.declared.command.Asked.TheVariants as asked
use Rattle.ps_command.specs.declared.command.Play.{Play}
use Rattle.ps_command.specs.declared.stops.Stop.{Stop}
use Rattle.ps_command.specs.declared.stops.Stop.TheVariants as stop
use Rattle.ps_command.specs.declared.words.NoWords.{NoWords}
use Rattle.ps_command.specs.declared.words.NoWords.TheVariants as words

-- how a task ends, or the program: well, or for a reason
abbrev pub End : Type 0
End = Result (Unit {0}) Stop

-- tasks that are done -------------------------------------------------------------------------------------------------

-- a game was played to an end, on the screen as it is or in a view of that size
abbrev pub PlaysIn : Option Size → Play → ReaderState → ReaderState → WriterState → WriterState → Type 0
PlaysIn None play had left before after = PlaysToAnEnd play had left before after
PlaysIn (Some size) play had left before after = PlaysInView play size had before.contents after.contents

-- with a trace it is always on the screen as it is
abbrev pub PlaysAs : Bool → Play → ReaderState → ReaderState → WriterState → WriterState → Type 0
PlaysAs true play had left before after = TracesToAnEnd play had before after
PlaysAs false play had left before after = PlaysIn play.size play had left before after

-- what a task comes to that is done: a game is played to an end, an output shown, a text or each of several is told and
-- all is well with it, each level can be won, each stream of keys wins, or it is told what a fault is
abbrev pub Does : Asked → ReaderState → ReaderState → WriterState → WriterState → Type 0
Does (asked.Play play) had left before after = PlaysAs play.is_traced play had left before after
Does (asked.Show show) had left before after = ShowsOutput show.game.now show.output.now show.size (is_none show.sizes)
    had.remaining left.remaining before.contents after.contents
Does (asked.Check file) had left before after =
    TellsOfGame file.now had.remaining left.remaining before.contents after.contents
Does (asked.CheckWhy file) had left before after =
    TellsOfGame file.now had.remaining left.remaining before.contents after.contents
Does (asked.CheckAll files) had left before after =
    TellsOfGames (texts_of files.items) before.contents after.contents
Does (asked.CheckAllWhy files) had left before after =
    TellsOfGames (texts_of files.items) before.contents after.contents
Does (asked.Report file how) had left before after =
    TellsReportRead how file.now true had.remaining left.remaining before.contents after.contents
Does (asked.Reports files how) had left before after =
    TellsInOrder (IsReportOfGame how) (texts_of files.items) before.contents after.contents
Does (asked.Description _) had left before after = TellsOfDescribed before.contents after.contents
Does (asked.Explanation _) had left before after = TellsSomeLine before.contents after.contents
Does (asked.Solve solve) had left before after =
    TellsInOrder (AreWonLines (question_of solve)) (texts_of solve.paths.items) before.contents after.contents
Does (asked.SolveAfter solve) had left before after =
    TellsOfRead solve IsLineOnWon had.remaining left.remaining before.contents after.contents
Does (asked.Replay replay) had left before after = TellsOfWon replay had.remaining before.contents after.contents

-- tasks that are stopped ----------------------------------------------------------------------------------------------

-- what a task has told that ends as not accepted: a text is no game, not all is well with a report, not all levels are
-- known to be won, not all streams of keys win. A game that is played, an output and an explanation never end so, by
-- what may stop them
abbrev pub Denies : Asked → ReaderState → ReaderState → WriterState → WriterState → Type 0
Denies (asked.Play _) had left before after = ⊤
Denies (asked.Show _) had left before after = ⊤
Denies (asked.Explanation _) had left before after = ⊤
Denies (asked.Check file) had left before after =
    TellsOfRefused detail.Line file.now had.remaining left.remaining before.contents after.contents
Denies (asked.CheckWhy file) had left before after =
    TellsOfRefused detail.Why file.now had.remaining left.remaining before.contents after.contents
Denies (asked.CheckAll files) had left before after =
    TellsOfFiles detail.Line (texts_of files.items) before.contents after.contents
Denies (asked.CheckAllWhy files) had left before after =
    TellsOfFiles detail.Why (texts_of files.items) before.contents after.contents
Denies (asked.Report file how) had left before after =
    TellsReportRead how file.now false had.remaining left.remaining before.contents after.contents
Denies (asked.Reports files how) had left before after =
    TellsInOrder (IsReportOfFile how) (texts_of files.items) before.contents after.contents
Denies (asked.Description file) had left before after =
    TellsOfUndescribed file.now had.remaining left.remaining before.contents after.contents
Denies (asked.Solve solve) had left before after =
    TellsInOrder (AreLinesToldOf (question_of solve)) (texts_of solve.paths.items) before.contents after.contents
Denies (asked.SolveAfter solve) had left before after =
    TellsOfRead solve IsLineOnUnwon had.remaining left.remaining before.contents after.contents
Denies (asked.Replay replay) had left before after = TellsOfUnwon replay had.remaining before.contents after.contents

-- a search after keys that lead to no level told nothing, and so it is of some text and some keys. Nothing else ends so
abbrev pub FindsNoLevel : Asked → ReaderState → ReaderState → WriterState → WriterState → Type 0
FindsNoLevel (asked.SolveAfter solve) had left before after =
    IsSilentOnRead solve LeadNowhere had.remaining left.remaining before.contents after.contents
FindsNoLevel _ had left before after = ⊤

-- a search after keys that were to begin at a level which some text's game lacks told nothing
abbrev pub LacksLevelOf : ℕ → ℕ → Asked → ReaderState → ReaderState → WriterState → WriterState → Type 0
LacksLevelOf level levels (asked.SolveAfter solve) had left before after =
    IsSilentOnRead solve (LacksStart level levels) had.remaining left.remaining before.contents after.contents
LacksLevelOf level levels _ had left before after = ⊤

-- how a task ends: it is done, or stopped by what may stop it, with what was told until then
pub record EndsTask (task : Asked) (end : End) (had left : ReaderState) (before after : WriterState) : Type 0 where
  pub done : OnOk end (Does task had left before after)
  pub stopped : IfErr end (StopsTask task after.has_failed)
  pub denied : end ≡ Err stop.NotAccepted → Denies task had left before after
  pub nowhere : end ≡ Err stop.NoLevelThere → FindsNoLevel task had left before after
  pub lacking : (level levels : ℕ) → end ≡ Err (stop.NoSuchLevel level levels) →
      LacksLevelOf level levels task had left before after

-- command lines -------------------------------------------------------------------------------------------------------

-- the devices are as they were
abbrev pub IsUntouched : ReaderState → ReaderState → WriterState → WriterState → Type 0
IsUntouched had left before after = (left ≡ had) × (after ≡ before)

-- a line with these words isn't right, and nothing was read or written
pub record EndsLine (words : List Text) (end : End) (had left : ReaderState) (before after : WriterState) : Type 0 where
  pub why : Stop
  pub is : end ≡ Err why
  pub fault : IsFaultOfLine (matched words) why
  pub untouched : IsUntouched had left before after

-- a line with these words asks for a task, which ends so
pub record EndsAsked (words : List Text) (end : End) (had left : ReaderState) (before after : WriterState) : Type 0
  where
    pub task : Asked
    pub asked : IsAsked (matched words) task
    pub ends : EndsTask task end had left before after

-- the one or the other
abbrev pub EndsGiven : List Text → End → ReaderState → ReaderState → WriterState → WriterState → Type 0
EndsGiven words end had left before after =
    EndsLine words end had left before after ⊎ EndsAsked words end had left before after

-- what stops the program where it has no words
abbrev pub stop_of_words : NoWords → Stop
stop_of_words (words.NotText word) = stop.NotText word
stop_of_words words.Memory = stop.Run fault.Memory

-- how words end that are there or aren't, before it is told what stopped them
abbrev pub EndsWords : Result (Vec (String Global)) NoWords → End → ReaderState → ReaderState → WriterState → WriterState →
    Type 0
EndsWords (Err none) end had left before after =
    (end ≡ Err (stop_of_words none)) × IsUntouched had left before after
EndsWords (Ok words) end had left before after = EndsGiven (map string_bytes words.items) end had left before after

-- what is told in the end ---------------------------------------------------------------------------------------------

-- help or the version is shown where the status is 0; the screen is as it was where it is 2
abbrev pub ShowsHelp : ℕ → WriterState → WriterState → Type 0
ShowsHelp status before after =
    (status ≡ 0 → (text : List ℕ) × Grows before.contents after.contents text) × (status ≡ 2 → after ≡ before)

-- what the status is, and what becomes of the screen, where this stopped the program
abbrev pub TellsStop : Stop → ℕ → WriterState → WriterState → Type 0
TellsStop (stop.CommandLine error) status before after =
    IsStatusOfLine error status × ShowsHelp status before after
TellsStop why status before after = IsStatusOf why status × (after ≡ before)

-- and where nothing did
abbrev pub TellsEnd : End → ℕ → WriterState → WriterState → Type 0
TellsEnd (Ok _) status before after = (status ≡ 0) × (after ≡ before)
TellsEnd (Err why) status before after = TellsStop why status before after

-- all of it -----------------------------------------------------------------------------------------------------------

pub record IsRunOfProgram (words : Result (Vec (String Global)) NoWords) (status : ℕ) (had left : ReaderState)
    (before after : WriterState) : Type 0 where
  pub end : End
  pub between : WriterState
  pub ended : EndsWords words end had left before between
  pub told : TellsEnd end status between after
