-- From how a run came to its answer to what may be said of it on a text.
use Rattle.std.proofs.Common.{◌≡◌, ◌≤◌, ℕ, false, List, [], Option, Some, None, inl, inr, refl}
use Rattle.std.proofs.Common.{◌∙◌, ◌<◌, ap, append-nil, arith, Result, Ok, Err}
use Rattle.std.specs.Prelude.{All, option_and_then, option_map}
use Rattle.ps_model.specs.declared.faults.Fault.{Fault}
use Rattle.ps_model.specs.declared.play.Ending.{Ending}
use Rattle.ps_model.specs.declared.refusal.Refusal.{Refusal}
use Rattle.ps_model.specs.declared.refusal.Refusal.TheVariants.{Refused, Memory}
use Rattle.ps_model.specs.board.Turns.{Script, script_at}
use Rattle.ps_model.specs.names.Names.{object_count}
use Rattle.ps_model.specs.text.Faults.{first_fault}
use Rattle.ps_model.specs.game.Games.{Game, faults, game}
use Rattle.ps_model.specs.game.Headline.{Answer, Refuses, WantsMemory, RunsRightly, script_of_text}
use Rattle.ps_model.specs.game.LevelRuns.{LacksLevel, LacksThatLevel, Plays, RunsRightlyFromLevel, level_entry}
use Rattle.ps_model.specs.game.LevelRuns.{script_at_level, script_from_level}
use Rattle.ps_model.specs.game.Tellings.{ReaderState, WriterState, Unasked, Tells}
use Rattle.ps_laws.specs.AlikeScripts.{SameRuns}
use Rattle.ps_laws.proofs.sessions.LevelNumbers.{answers_from_start}
use Rattle.ps_laws.proofs.texts.BoundedNames.{game-bounded}
use Rattle.ps_laws.proofs.texts.ObjectsThere.{game-has}
use Rattle.ps_levels.specs.Sized.{IsSizedEntry}
use Rattle.ps_stage.specs.Playable.{ArePlayable}
use Rattle.ps_devices.specs.Devices.{Grows, Loses}
use Rattle.ps_devices.specs.declared.players.RunFault.{RunFault}
use Rattle.ps_devices.specs.declared.players.RunFault.TheVariants as fault
use Rattle.ps_devices.specs.Answers.{answer_of}
use Rattle.ps_devices.proofs.Unmoved.{nothing_given, nothing_taken}
use Rattle.ps_run.specs.Answering.{RunsRightlyIn}
use Rattle.ps_run.specs.Faults.{fault_of}
use Rattle.ps_run.specs.Played.{HasCounted}
use Rattle.ps_run.specs.Runs.{ComesOrStops}
use Rattle.ps_run.proofs.Answering.{answers_carry_over}
use Rattle.ps_run.proofs.Telling.{told_of, tells_of}

-- a writer that wasn't called has counted nothing
uncalled : (before : WriterState) → HasCounted before before [] 0
uncalled before = record {
  more = omega arith;
  shorts = omega arith;
  called = λ some. let none : 1 ≤ 0 = some in absurd (omega (arith, none));
  few = omega arith;
}

-- devices that weren't called tell so
untouched : (had : ReaderState) (before : WriterState) → had.has_failed ≡ false → before.has_failed ≡ false →
    Tells had had before before (told_of before before Unasked had.remaining [] false)
untouched had before heard well =
    tells_of had had before before Unasked [] false heard heard (nothing_given had.remaining) refl refl (omega arith)
    refl well well (nothing_taken before.contents) (omega arith) refl 0 (uncalled before)

-- memory was refused before anything was asked for and anything written
pub wants_memory : (found : Option Script) (text : List ℕ) (had : ReaderState) (before : WriterState) →
    had.has_failed ≡ false → before.has_failed ≡ false → RunsRightlyIn found text had had before before WantsMemory
wants_memory found text had before heard well = record {
  told = told_of before before Unasked had.remaining [] false;
  tells = untouched had before heard well;
  answers = inl (record { asked_nothing = refl; wrote_nothing = refl; writer_is_well = refl });
}

-- the text was refused
pub refuses : (found : Option Script) (text : List ℕ) (refused : Fault) (had : ReaderState) (before : WriterState) →
    had.has_failed ≡ false → before.has_failed ≡ false → first_fault (faults text) ≡ Some refused →
    RunsRightlyIn found text had had before before (Refuses refused)
refuses found text refused had before heard well is = record {
  told = told_of before before Unasked had.remaining [] false;
  tells = untouched had before heard well;
  answers = record { is_first = is; asked_nothing = refl; wrote_nothing = refl; writer_is_well = refl };
}

-- reading the text stopped: it was refused, or memory was
pub stops_reading :
    (found : Option Script) (text : List ℕ) (refusal : Refusal) (broken : RunFault) (had : ReaderState)
    (before : WriterState) → broken ≡ fault_of refusal → had.has_failed ≡ false → before.has_failed ≡ false →
    ((told : Fault) → refusal ≡ Refused told → first_fault (faults text) ≡ Some told) →
    RunsRightlyIn found text had had before before (answer_of (Err broken))
stops_reading found text (Refused refused) broken had before is heard well first =
    rw is (refuses found text refused had before heard well (first refused refl))
stops_reading found text Memory broken had before is heard well first =
    rw is (wants_memory found text had before heard well)

-- a run by rules that have the runs of a script
pub comes_rightly :
    (text : List ℕ) (source script : Script) (had has : ReaderState) (before now : WriterState)
    (answer : Result Ending RunFault) → SameRuns script source →
    had.has_failed ≡ false → before.has_failed ≡ false → ComesOrStops script had has before now answer →
    RunsRightlyIn (Some source) text had has before now (answer_of answer)
comes_rightly text source script had has before now answer same heard well (inl (wants, reader, writer)) =
    rw (wants, reader, writer) (wants_memory (Some source) text had before heard well)
comes_rightly text source script had has before now answer same heard well (inr comes) = record {
  told = comes.told;
  tells = comes.tells;
  answers = answers_carry_over text source script same comes.told answer comes.is_so;
}

-- the script that is played is the one that was found
pub found_rightly :
    (found : Option Script) (script : Script) (text : List ℕ) (had has : ReaderState) (before now : WriterState)
    (answer : Answer) → found ≡ Some script → RunsRightlyIn (Some script) text had has before now answer →
    RunsRightlyIn found text had has before now answer
found_rightly found script text had has before now answer is right = rw is right

-- so a run of the text's game from its start is right
pub runs_rightly :
    (text : List ℕ) (had has : ReaderState) (before now : WriterState) (answer : Answer) →
    RunsRightlyIn (script_of_text text) text had has before now answer → RunsRightly text had has before now answer
runs_rightly text had has before now answer right = record {
  told = right.told;
  tells = right.tells;
  answers = answers_from_start text right.told answer right.answers;
}

-- and one from a level
pub runs_rightly_from_level :
    (text : List ℕ) (level : ℕ) (had has : ReaderState) (before now : WriterState) (answer : Answer) →
    RunsRightlyIn (script_from_level text level) text had has before now answer →
    RunsRightlyFromLevel text level had has before now (Plays answer)
runs_rightly_from_level text level had has before now answer right =
    record { told = right.told; tells = right.tells; answers = right.answers }

-- the game lacks the level
pub lacks_level :
    (text : List ℕ) (level count : ℕ) (had : ReaderState) (before : WriterState) → had.has_failed ≡ false →
    before.has_failed ≡ false → LacksThatLevel text level count →
    RunsRightlyFromLevel text level had had before before (LacksLevel count)
lacks_level text level count had before heard well lacks = record {
  told = told_of before before Unasked had.remaining [] false;
  tells = untouched had before heard well;
  answers = record { lacks = lacks; asked_nothing = refl; wrote_nothing = refl; writer_is_well = refl };
}

-- the script of a level that was found
pub script_found : (text : List ℕ) (level entry : ℕ) (read : Game) → game text ≡ Some read →
    level_entry read.entries level ≡ Some entry → script_from_level text level ≡ Some (script_at read entry)
script_found text level entry read is found =
    ap (option_and_then (script_at_level level)) is ∙ ap (option_map (script_at read)) found

-- a game that was read can be played
pub game_playable : (text : List ℕ) (read : Game) → game text ≡ Some read → All (IsSizedEntry read.names) read.entries →
    ArePlayable read.names read.entries
game_playable text read is sized =
    let some : 0 < object_count read.names = (game-has text read is).0 in
    record { bounded = game-bounded text read is; some_object = omega (arith, some); sized = sized }
