-- A replay by compiled programs tells what is so of the game as its text means it.
use Rattle.std.proofs.Common.{◌≡◌, ◌∙◌, ◌-◌, ℕ, List, Option, Some, None, length, refl, sym, ap}
use Rattle.ps_model.specs.declared.play.Ending.{Ending}
use Rattle.ps_model.specs.declared.play.Key.{Key}
use Rattle.ps_model.specs.board.Turns.{Script, script_at}
use Rattle.ps_model.specs.game.Games.{Game, game}
use Rattle.ps_model.specs.game.Outputs.{Output, ending_of, opening_step, output}
use Rattle.ps_model.specs.meaning.Compiled as model
use Rattle.ps_model.specs.session.Keys.{keys_of}
use Rattle.ps_model.specs.session.Sessions.{Session}
use Rattle.ps_laws.specs.AlikeScripts.{SameRuns}
use Rattle.ps_laws.specs.Fronts.{session_of}
use Rattle.ps_laws.proofs.keys.Fronts.{closing, output-is}
use Rattle.ps_program.specs.ProgramShown.{sections_shown}
use Rattle.ps_program.specs.declared.program.CompiledSection.{CompiledSection}
use Rattle.ps_records.specs.Courses.{Course, course_of}
use Rattle.ps_records.specs.Replays.{IsReplayIn}
use Rattle.ps_records.specs.declared.replays.Replay.{Replay}
use Rattle.ps_rulebook.specs.PlayedGames.{AreCompiled, parts_at}
use Rattle.ps_run.specs.GamesInPlay.{script_on}
use Rattle.ps_run.proofs.PlayedKeys.{played, same_played}
use Rattle.ps_run.proofs.Sources.{runs_as_written}
use Rattle.ps_stage.specs.Standings.{SessionParts}
use Rattle.ps_replay.specs.Played.{IsReplayOfKeys, ending_or}
use Rattle.ps_replay.proofs.Courses.{course_alike}

-- an ending is told as it is
closed : (found : Option Ending) → (closing found).ending ≡ ending_or found
closed None = refl
closed (Some ending) = refl

-- how the output ends
output_ending : (script : Script) (bytes : List ℕ) →
    (output script bytes).ending ≡ ending_or (ending_of (session_of script bytes))
output_ending script bytes =
    ap (λ (o : Output). o.ending) (output-is script bytes) ∙ closed (ending_of (session_of script bytes))

pub replayed_as_written :
    (text : List ℕ) (read : Game) (bytes : List ℕ) (keys : List Key) (parts : SessionParts)
    (plain late : List CompiledSection) (plain_made late_made : List model.CompiledSection) (replay : Replay) →
    game text ≡ Some read → AreCompiled read.names read.rules plain_made late_made →
    sections_shown plain ≡ plain_made → sections_shown late ≡ late_made → parts ≡ parts_at read 0 →
    keys ≡ keys_of bytes →
    IsReplayOfKeys (script_on parts plain late) (opening_step (script_on parts plain late)).session keys replay →
    IsReplayIn (script_at read 0) bytes replay
replayed_as_written text read bytes keys parts plain late plain_made late_made replay is made p l own k told =
    let script : Script = script_on parts plain late in
    let source : Script = script_at read 0 in
    let runs : SameRuns script source =
    runs_as_written text read 0 parts plain late plain_made late_made script is made p l own refl in
    let course : course_of script keys ≡ course_of source keys = course_alike script source runs keys in
    record {
      ending = told.ending
          ∙ ap (λ (s : Session). ending_or (ending_of s)) (same_played script source runs keys)
          ∙ ap (λ (ks : List Key). ending_or (ending_of (played source ks))) k
          ∙ sym (output_ending source bytes);
      won = told.won
          ∙ ap (λ (c : Course). c.won) course
          ∙ ap (λ (ks : List Key). (course_of source ks).won) k;
      in_level = told.in_level
          ∙ ap (λ (c : Course). c.in_level) course
          ∙ ap (λ (ks : List Key). (course_of source ks).in_level) k;
      left = told.left
          ∙ ap (λ (c : Course). length keys - c.since) course
          ∙ ap (λ (ks : List Key). length ks - (course_of source ks).since) k;
    }
