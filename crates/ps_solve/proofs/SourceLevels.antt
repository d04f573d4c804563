-- What an answer says of a game in play is true of the game as its text means it.
use Rattle.std.proofs.Common.{◌≡◌, ◌∙◌, ◌≢◌, ℕ, List, Option, Some, Err, sym, ap, subst}
use Rattle.ps_model.specs.declared.play.Key.{Key}
use Rattle.ps_model.specs.board.Turns.{Script, script_at}
use Rattle.ps_model.specs.game.Games.{Game, game}
use Rattle.ps_model.specs.meaning.Compiled as model
use Rattle.ps_model.specs.names.Names.{Names}
use Rattle.ps_model.specs.session.Sessions.{Session}
use Rattle.ps_model.specs.session.Solving.{session_after_inputs}
use Rattle.ps_laws.specs.AlikeScripts.{SameRuns}
use Rattle.ps_program.specs.ProgramShown.{sections_shown}
use Rattle.ps_program.specs.declared.program.CompiledSection.{CompiledSection}
use Rattle.ps_rulebook.specs.PlayedGames.{AreCompiled, meant_of, parts_at}
use Rattle.ps_run.specs.GamesInPlay.{GameInPlay, script_in, script_on}
use Rattle.ps_run.specs.SizedPlays.{play_in}
use Rattle.ps_run.specs.declared.sized_play.SizedPlay.{SizedPlay}
use Rattle.ps_stage.specs.Standings.{SessionParts, script_for}
use Rattle.ps_trial.specs.Scripts.{PlaysAs}
use Rattle.ps_run.proofs.Scripts.{own_table}
use Rattle.ps_run.proofs.Sources.{runs_as_written}
use Rattle.ps_solve.specs.declared.solved.NotSearched.{NotSearched}
use Rattle.ps_solve.specs.declared.solved.NotSearched.TheVariants.{NoLevel}
use Rattle.ps_solve.specs.declared.solved.NotSearched.TheVariants as not_searched
use Rattle.ps_solve.specs.declared.solved.SolvedHere.{SolvedHere}
use Rattle.ps_solve.specs.SolvedLevels.{IsSolvedAfter, IsSolvedAt, IsSolvedHere, IsIn}
use Rattle.ps_solve.proofs.AlikeLevels.{here_alike, in_one_level}
use Rattle.ps_run.proofs.PlayedKeys.{played}
use Rattle.ps_solve.proofs.PlayedKeys.{same_inputs}

-- what is found from a session that keys lead to is so of the source, where scripts have the same runs
pub found_after : (script source : Script) (session : Session) (keys : List Key) (limit : ℕ) (found : Option SolvedHere) →
    SameRuns script source → session ≡ played script keys → IsSolvedHere script session limit found →
    IsSolvedHere source (played source keys) limit found
found_after script source session keys limit found runs came is =
    here_alike script source session (played source keys)
    (λ inputs. ap (λ (s : Session). session_after_inputs script s inputs) came
    ∙ same_inputs script source runs keys inputs) limit found is

-- the same of a game in play by programs that the game's rules compile to
pub played_as_written :
    (text : List ℕ) (read : Game) (entry : ℕ) (keys : List Key) (limit : ℕ) (parts : SessionParts)
    (plain late : List CompiledSection) (plain_made late_made : List model.CompiledSection) (play : GameInPlay)
    (found : Option SolvedHere) → game text ≡ Some read → AreCompiled read.names read.rules plain_made late_made →
    sections_shown plain ≡ plain_made → sections_shown late ≡ late_made → parts ≡ parts_at read entry →
    script_in play ≡ script_on parts plain late → play.session ≡ played (script_in play) keys →
    IsSolvedHere (script_in play) play.session limit found →
    IsSolvedHere (script_at read entry) (played (script_at read entry) keys) limit found
played_as_written text read entry keys limit parts plain late plain_made late_made play found is made p l own plays came
    solved =
    found_after (script_in play) (script_at read entry) play.session keys limit found
    (runs_as_written text read entry parts plain late plain_made late_made (script_in play) is made p l own plays) came
    solved

-- where there is no answer about any level, there is none about that of an entry
pub nothing_at : (script : Script) (session : Session) (limit entry : ℕ) (fault : NotSearched) →
    IsSolvedAfter script session limit (Err fault) → IsSolvedAt script entry session limit (Err fault)
nothing_at script session limit entry NoLevel nowhere = nowhere entry
nothing_at script session limit entry not_searched.Memory told = tt

-- the level of an entry is another one than that of the session
pub other_level : (script : Script) (session : Session) (limit entry other : ℕ) → entry ≢ other → IsIn other session →
    IsSolvedAt script entry session limit (Err NoLevel)
other_level script session limit entry other differ at = in_one_level entry other session differ at

-- a game in play is played by the same sections, wherever its session keeps it
pub plays_there : (play row : GameInPlay) (game : SessionParts) (plain late : List CompiledSection) →
    script_in row ≡ script_in play → game ≡ row.game → plain ≡ play.plain → late ≡ play.late →
    PlaysAs (script_in play) (script_for own_table game (meant_of plain) (meant_of late))
unfolding script_on
plays_there play row game plain late same own p l =
    let names : play.game.names ≡ game.names = sym (ap (λ (s : Script). s.names) same) ∙ sym (ap (λ (g : SessionParts). g.names) own) in
    record {
      options = sym (ap (λ (s : Script). s.options) same) ∙ sym (ap (λ (g : SessionParts). g.options) own);
      names = names;
      plain = ap (λ (n : Names). meant_of play.plain (own_table n.layers)) names
          ∙ ap (λ (s : List CompiledSection). meant_of s (own_table game.names.layers)) (sym p);
      late = ap (λ (n : Names). meant_of play.late (own_table n.layers)) names
          ∙ ap (λ (s : List CompiledSection). meant_of s (own_table game.names.layers)) (sym l);
      wins = sym (ap (λ (s : Script). s.wins) same) ∙ sym (ap (λ (g : SessionParts). g.wins) own);
    }

-- what is found in the session of a game in play is so of the game in play
pub found_there :
    (play row : GameInPlay) (sized : SizedPlay) (game : SessionParts) (session : Session)
    (plain late : List CompiledSection) (limit : ℕ) (found : Option SolvedHere) → play_in sized ≡ row →
    script_in (play_in sized) ≡ script_in play → (play_in sized).session ≡ play.session → game ≡ row.game →
    session ≡ row.session → plain ≡ play.plain → late ≡ play.late →
    ((script : Script) → PlaysAs script (script_for own_table game (meant_of plain) (meant_of late)) →
    IsSolvedHere script session limit found) →
    IsSolvedHere (script_in play) play.session limit found
found_there play row sized game session plain late limit found is same there own at p l told =
    let script : script_in row ≡ script_in play = ap (λ (r : GameInPlay). script_in r) (sym is) ∙ same in
    let here : session ≡ play.session = at ∙ ap (λ (r : GameInPlay). r.session) (sym is) ∙ there in
    subst (λ (s : Session). IsSolvedHere (script_in play) s limit found) here
    (told (script_in play) (plays_there play row game plain late script own p l))
