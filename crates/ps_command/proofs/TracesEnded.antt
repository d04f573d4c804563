-- A game that was traced was played to an end, with some keys.
use Rattle.std.proofs.Common.{◌≡◌, ℕ, List, Option, Some, None, Err, refl, inl, inr, ap}
use Rattle.std.specs.Prelude.{unwrap_or}
use Rattle.ps_model.specs.declared.play.Ending.{Ending}
use Rattle.ps_model.specs.game.Headline.{Ends}
use Rattle.ps_model.specs.game.LevelRuns.{Plays}
use Rattle.ps_model.specs.game.Tellings.{ReaderState, WriterState}
use Rattle.ps_tracers.specs.TracedRuns.{RunsTraced}
use Rattle.ps_devices.specs.Answers.{level_answer_of}
use Rattle.ps_devices.specs.declared.players.LevelFault.{LevelFault}
use Rattle.ps_devices.specs.declared.players.LevelFault.TheVariants as level
use Rattle.ps_devices.specs.declared.players.RunFault.TheVariants as fault
use Rattle.ps_command.specs.Statuses.{stop_of_level}
use Rattle.ps_command.specs.Stops.{StopsPlay}
use Rattle.ps_command.specs.Told.{EndsRightly}

pub traced_to_end : (text : List ℕ) (level : Option ℕ) (keys : ReaderState) (before after : WriterState)
    (ending : Ending) → RunsTraced text level keys before after (Plays (Ends ending)) →
    EndsRightly level text before after
traced_to_end text None keys before after ending run =
    record { ending = ending; keys = run.first; left = run.last; rightly = run.rightly }
traced_to_end text (Some level) keys before after ending run =
    record { ending = ending; keys = run.first; left = run.last; rightly = run.rightly }

-- what stopped one that was traced
pub trace_stopped : (text : List ℕ) (level : Option ℕ) (number : ℕ) (keys : ReaderState) (before after : WriterState)
    (found : LevelFault) → unwrap_or level 0 ≡ number → RunsTraced text level keys before after
    (level_answer_of (Err found)) → StopsPlay level (stop_of_level number found)
trace_stopped text None number keys before after (level.NoSuchLevel levels) is run = absurd run.rightly
trace_stopped text None number keys before after (level.Run (fault.Refused refused)) is run =
    inr (inr (inl (record { text = text; found = refused; first = run.rightly.answers.is_first; is = refl })))
trace_stopped text None number keys before after (level.Run fault.Memory) is run = inl (inl (inr refl))
trace_stopped text None number keys before after (level.Run fault.Read) is run = inl (inr refl)
trace_stopped text None number keys before after (level.Run fault.Write) is run = inr (inl refl)
trace_stopped text (Some given) number keys before after (level.NoSuchLevel levels) is run =
    inr (inr (inr (record { number = number; levels = levels; asked = ap Some is; is = refl })))
trace_stopped text (Some given) number keys before after (level.Run (fault.Refused refused)) is run =
    inr (inr (inl (record { text = text; found = refused; first = run.rightly.answers.is_first; is = refl })))
trace_stopped text (Some given) number keys before after (level.Run fault.Memory) is run = inl (inl (inr refl))
trace_stopped text (Some given) number keys before after (level.Run fault.Read) is run = inl (inr refl)
trace_stopped text (Some given) number keys before after (level.Run fault.Write) is run = inr (inl refl)
