-- Take scripts that are the same but for their rules, and whose programs run alike on grids of the game. They have
-- equal turns on these, and so the same steps and runs.
use Rattle.std.proofs.Common.{◌≡◌, Option, None, List, not, refl, ◌∙◌, ap, subst}
use Rattle.std.specs.Prelude.{All, if◌then◌else◌}
use Rattle.std.proofs.lemmas.List.Elements.{All-weaker}
use Rattle.ps_model.specs.declared.play.Input.{Input}
use Rattle.ps_model.specs.names.Names.{Names}
use Rattle.ps_model.specs.board.Grid.{Grid}
use Rattle.ps_model.specs.board.GameGrids.{IsGridOf}
use Rattle.ps_model.specs.rules.SourceRules.{no_commands}
use Rattle.ps_model.specs.board.Attempts.{State}
use Rattle.ps_model.specs.board.Programs.{Section, program_run}
use Rattle.ps_model.specs.board.Turns.{Script, script_at, Outcome, Blocked, Restarted, Finished, prepared, moved}
use Rattle.ps_model.specs.board.Turns.{played, same_cells, is_held, done_with, outcome_of, turn}
use Rattle.ps_model.specs.session.LevelLines.{Entry, MessageEntry, LevelEntry}
use Rattle.ps_model.specs.session.KeySteps.{key_step}
use Rattle.ps_model.specs.game.Outputs.{opening_step}
use Rattle.ps_laws.specs.EqualMeanings.{EqualStates}
use Rattle.ps_laws.specs.GamesOfTexts.{LoadsAsGrid}
use Rattle.ps_laws.specs.SessionBoards.{HasBoard}
use Rattle.ps_laws.specs.AlikeScripts.{RunAlike, AlikeScripts, EqualOutcomes, EqualSteps, SameRuns, AlikeTurns}
use Rattle.ps_laws.specs.AlikeScripts.{AlikeOpenings, AlikeKeys, AlikeRuns, AlikeGames, AlikeProgramsOfGames, script_by}
use Rattle.ps_laws.proofs.common.Everywhere.{either_one}
use Rattle.ps_laws.proofs.grids.KeptSlides.{slid-keeps}
use Rattle.ps_laws.proofs.grids.KeptTurns.{prepared-keeps}
use Rattle.ps_laws.proofs.texts.GamesOfTexts.{game-levels}
use Rattle.ps_laws.proofs.sessions.EqualSteps.{with_rules, LoadsAs, EqualTurns}
use Rattle.ps_laws.proofs.sessions.EqualKeys.{key_step-equal}
use Rattle.ps_laws.proofs.sessions.EqualRuns.{opening_step-equal, runs-equal}

-- turns ---------------------------------------------------------------------------------------------------------------

-- the outcome of a last state whose grid is one of the game
outcome_of-board : (script : Script) (input : Option Input) (g : Grid) (last : State) →
    IsGridOf script.names last.grid → HasBoard (IsGridOf script.names) (outcome_of script input g last)
outcome_of-board script input g last h =
    let has : Outcome → Type 0 = HasBoard (IsGridOf script.names) in
    let done : Outcome = Finished (done_with script last (not (same_cells g.cells last.grid.cells))) in
    let restarted : Outcome = if last.queue.restart then Restarted last.queue.message else done in
    let stopped : Outcome = if last.queue.cancel then Blocked last.queue.message else restarted in
    either_one has (is_held script input g last.grid) (Blocked None) stopped tt
    (either_one has last.queue.cancel (Blocked last.queue.message) restarted tt
    (either_one has last.queue.restart (Restarted last.queue.message) done tt h))

-- the last states of a turn
played-equal : (a : Script) (plain late : List Section) → RunAlike a.names a.plain plain →
    RunAlike a.names a.late late → (input : Option Input) (g : Grid) → IsGridOf a.names g →
    EqualStates a.names (played a input g) (played (with_rules a plain late) input g)
played-equal a plain late plain_too late_too input g h =
    let start : State = record { grid = prepared a.names input g; queue = no_commands } in
    let before : State = program_run a.plain start in
    let first = plain_too start (prepared-keeps a.names input g h) in
    let last = late_too (moved before) (slid-keeps a.names before.grid first.grid) in
    record { equal = last.equal ∙ ap (λ (state : State). program_run late (moved state)) first.equal; grid = last.grid }

turn-equal : (a : Script) (plain late : List Section) → RunAlike a.names a.plain plain → RunAlike a.names a.late late →
    (input : Option Input) (g : Grid) → IsGridOf a.names g →
    EqualOutcomes (IsGridOf a.names) (turn a input g) (turn (with_rules a plain late) input g)
unfolding turn
turn-equal a plain late plain_too late_too input g h =
    let last = played-equal a plain late plain_too late_too input g h in
    record {
      equal = ap (outcome_of a input g) last.equal;
      board =
          outcome_of-board a input g (played a input g) last.grid;
    }

-- scripts -------------------------------------------------------------------------------------------------------------

-- a script that is alike with another is that one with its own rules
same_script : (a b : Script) → AlikeScripts a b → with_rules a b.plain b.late ≡ b
same_script a b h = rw (h.title, h.options, h.names, h.entries, h.first_entry, h.wins) refl

loads_as : (names : Names) (entry : Entry) → LoadsAsGrid names entry → LoadsAs (IsGridOf names) names entry
loads_as names (MessageEntry text) h = tt
loads_as names (LevelEntry level) h = h

turns-alike : (a b : Script) → AlikeScripts a b → All (LoadsAsGrid a.names) a.entries →
    EqualTurns (IsGridOf a.names) a (with_rules a b.plain b.late)
turns-alike a b h levels = record {
  turns = turn-equal a b.plain b.late h.plain h.late;
  levels = All-weaker (LoadsAsGrid a.names) (LoadsAs (IsGridOf a.names) a.names) (loads_as a.names) a.entries levels;
}

pub alike_turns : AlikeTurns
alike_turns a b h input g shape =
    subst (λ (script : Script). EqualOutcomes (IsGridOf a.names) (turn a input g) (turn script input g))
    (same_script a b h)
    (turn-equal a b.plain b.late h.plain h.late input g shape)

pub alike_openings : AlikeOpenings
alike_openings a b h levels =
    subst (λ (script : Script). EqualSteps (IsGridOf a.names) (opening_step a) (opening_step script))
    (same_script a b h)
    (opening_step-equal (IsGridOf a.names) a b.plain b.late (turns-alike a b h levels))

pub alike_keys : AlikeKeys
alike_keys a b h levels session key boards =
    subst (λ (script : Script). EqualSteps (IsGridOf a.names) (key_step a session key) (key_step script session key))
    (same_script a b h)
    (key_step-equal (IsGridOf a.names) a b.plain b.late (turns-alike a b h levels) session key boards)

pub alike_runs : AlikeRuns
alike_runs a b h levels =
    subst (λ (script : Script). SameRuns a script) (same_script a b h)
    (runs-equal (IsGridOf a.names) a b.plain b.late (turns-alike a b h levels))

pub alike_games : AlikeGames
alike_games text read e entry script h = alike_runs script (script_at read entry) h
    (rw (h.names, h.entries) (game-levels text read e))

pub alike_programs_of_games : AlikeProgramsOfGames
alike_programs_of_games text read e entry plain late plain_too late_too =
    alike_games text read e entry (script_by read entry plain late)
    (record {
      title = refl;
      options = refl;
      names = refl;
      entries = refl;
      first_entry = refl;
      wins = refl;
      plain = plain_too;
      late =
          late_too;
    })
