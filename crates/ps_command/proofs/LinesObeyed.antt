-- What becomes of the words of a command line.
use Rattle.std.proofs.Common.{◌≡◌, ℕ, List, inl, inr, refl}
use Rattle.std.specs.Prelude.{Err, IfErr, OnOk}
use Rattle.clap.specs.Words.{Text}
use Rattle.ps_model.specs.game.Tellings.{ReaderState, WriterState}
use Rattle.ps_command.specs.AskedFor.{IsAsked}
use Rattle.ps_command.specs.CommandLines.{matched}
use Rattle.ps_command.specs.LinesAtFault.{IsFaultOfLine}
use Rattle.ps_command.specs.ProgramRuns.{Denies, Does, End, EndsGiven, FindsNoLevel, LacksLevelOf}
use Rattle.ps_command.specs.Stops.{StopsTask}
use Rattle.ps_command.specs.declared.command.Asked.{Asked}
use Rattle.ps_command.specs.declared.stops.Stop.{Stop}
use Rattle.ps_command.specs.declared.stops.Stop.TheVariants as stop

-- they aren't right
pub line_refused : (words : List Text) (why : Stop) (had : ReaderState) (before : WriterState) →
    IsFaultOfLine (matched words) why → EndsGiven words (Err why) had had before before
line_refused words why had before fault =
    inl (record { why = why; is = refl; fault = fault; untouched = (refl, refl) })

-- they ask for a task
pub line_obeyed : (words : List Text) (task : Asked) (end : End) (had left : ReaderState) (before after : WriterState) →
    IsAsked (matched words) task → OnOk end (Does task had left before after) →
    IfErr end (StopsTask task after.has_failed) →
    (end ≡ Err stop.NotAccepted → Denies task had left before after) →
    (end ≡ Err stop.NoLevelThere → FindsNoLevel task had left before after) →
    ((level levels : ℕ) → end ≡ Err (stop.NoSuchLevel level levels) →
    LacksLevelOf level levels task had left before after) → EndsGiven words end had left before after
line_obeyed words task end had left before after asked done stopped denied nowhere lacking =
    inr (record {
      task = task;
      asked = asked;
      ends = record { done = done; stopped = stopped; denied = denied; nowhere = nowhere; lacking = lacking };
    })
