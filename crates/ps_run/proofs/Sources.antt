-- Games that are played by compiled programs, and the games that their texts mean.
use Rattle.std.proofs.Common.{◌≡◌, ◌∙◌, ℕ, List, Some, refl, sym, ap, subst}
use Rattle.ps_model.specs.board.Turns.{Script, script_at}
use Rattle.ps_model.specs.game.Games.{Game, game}
use Rattle.ps_model.specs.meaning.Compiled as model
use Rattle.ps_laws.specs.AlikeScripts.{SameRuns}
use Rattle.ps_program.specs.ProgramShown.{sections_shown}
use Rattle.ps_program.specs.declared.program.CompiledSection.{CompiledSection}
use Rattle.ps_rulebook.specs.PlayedGames.{AreCompiled, parts_at}
use Rattle.ps_rulebook.proofs.PlayedGames.{games-play_as_written}
use Rattle.ps_rulebook.proofs.RowRooms.{rows_give_room}
use Rattle.ps_run.specs.GameScripts.{script_shown}
use Rattle.ps_run.specs.GamesInPlay.{script_on}
use Rattle.ps_run.specs.declared.game_script.GameScript.{GameScript}
use Rattle.ps_run.proofs.Scripts.{own_table, script_is}
use Rattle.ps_stage.specs.Standings.{SessionParts}

-- a game in play by its compiled programs has the runs of the game as it is written
pub runs_as_written :
    (text : List ℕ) (read : Game) (entry : ℕ) (parts : SessionParts) (plain late : List CompiledSection)
    (plain_made late_made : List model.CompiledSection) (script : Script) → game text ≡ Some read →
    AreCompiled read.names read.rules plain_made late_made → sections_shown plain ≡ plain_made →
    sections_shown late ≡ late_made → parts ≡ parts_at read entry → script ≡ script_on parts plain late →
    SameRuns script (script_at read entry)
runs_as_written text read entry parts plain late plain_made late_made script is made p l own plays =
    let plain_is : AreCompiled read.names read.rules (sections_shown plain) late_made =
    subst (λ (s : List model.CompiledSection). AreCompiled read.names read.rules s late_made) (sym p) made in
    let both : AreCompiled read.names read.rules (sections_shown plain) (sections_shown late) =
    subst (λ (s : List model.CompiledSection). AreCompiled read.names read.rules (sections_shown plain) s) (sym l)
    plain_is in
    let same : script ≡ script_on (parts_at read entry) plain late =
    plays ∙ ap (λ (s : SessionParts). script_on s plain late) own in
    subst (λ (s : Script). SameRuns s (script_at read entry)) (sym (same ∙ script_is (parts_at read entry) plain late))
    (games-play_as_written text read is entry plain late both own_table rows_give_room)

-- a game that is played by its compiled programs has the runs of the game as it is written
pub plays_as_written :
    (text : List ℕ) (read : Game) (entry : ℕ) (script : GameScript) (plain late : List model.CompiledSection) →
    game text ≡ Some read → AreCompiled read.names read.rules plain late → sections_shown script.plain.now ≡ plain →
    sections_shown script.late.now ≡ late → script.game ≡ parts_at read entry →
    SameRuns (script_shown script) (script_at read entry)
plays_as_written text read entry script plain late is made p l own =
    runs_as_written text read entry script.game script.plain.now script.late.now plain late (script_shown script) is
    made p l own refl
