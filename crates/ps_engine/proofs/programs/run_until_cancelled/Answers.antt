use Rattle.std.proofs.Common.{◌≡◌, ◌∙◌, ℕ, List, Option, length, refl, sym, ap, subst, rules}
use Rattle.std.proofs.lemmas.Result.{IfOk-from_err, on_ok_weaker}
use Rattle.ps_laws.specs.CancelledRuns.{HasRun}
use Rattle.ps_model.specs.declared.rules.Extent.TheVariants.{UntilCancelled}
use Rattle.ps_model.specs.board.Grid.{Grid}
use Rattle.ps_model.specs.rules.SourceRules.{Commands}
use Rattle.ps_model.specs.board.Attempts.{State}
use Rattle.ps_model.specs.board.Programs.{Section, program_run}
use Rattle.ps_program.specs.declared.program.CompiledSection.{CompiledSection}
use Rattle.ps_engine.specs.Scratch.{SectionsHaveScratch}
use Rattle.ps_engine.specs.RulesInRoom.{sections_meaning}
use Rattle.ps_engine.specs.QuietGroups.{QuietGroupsShown}
use Rattle.ps_engine.specs.Runs.{state_of_run}
use Rattle.ps_engine.proofs.AsTheyAre.{program_as_it_is}
use Rattle.ps_engine.proofs.programs.run_until_cancelled.Goals as goal

-- what was played on is what is given back
given_back : (given after before : State) (table : Option (List ℕ))
    (sections own : List CompiledSection) → given ≡ after → sections ≡ own →
    HasRun UntilCancelled (program_run (sections_meaning table sections) before) after →
    HasRun UntilCancelled (program_run (sections_meaning table own) before) given
given_back given after before table sections own back same ran =
    subst (HasRun UntilCancelled (program_run (sections_meaning table own) before)) (sym back)
    (subst (λ (all : List CompiledSection). HasRun UntilCancelled (program_run (sections_meaning table all) before) after) same ran)

same_state : (grid other : Grid) (queue commands : Commands) → grid ≡ other → queue ≡ commands →
    (let s : State = record { grid = grid; queue = queue } in s)
    ≡ (let s : State = record { grid = other; queue = commands } in s)
same_state grid other queue commands grids queues = rw (grids, queues) refl

pub play_unless_quiet-requires-clause-scratch : goal.play_unless_quiet-requires-clause-scratch
play_unless_quiet-requires-clause-scratch g c =
    subst (SectionsHaveScratch (length c.args.scratch.now)) (sym c.in_ok-seeks_quiet.ensures.sections) c.requires

pub play_unless_quiet-requires-clause-kept : goal.play_unless_quiet-requires-clause-kept
play_unless_quiet-requires-clause-kept g c = c.in_ok-seeks_quiet.ensures.kept c.if-seeks_quiet.true

pub play_sections-requires : goal.play_sections-requires
play_sections-requires g c =
    subst (SectionsHaveScratch (length c.args.scratch.now))
    (sym (c.sections-sections.ensures ∙ c.in_ok-seeks_quiet.ensures.sections)) c.requires

pub returns-in_err-seeks_quiet-clause-run : goal.returns-in_err-seeks_quiet-clause-run
returns-in_err-seeks_quiet-clause-run g c = IfOk-from_err c.from_residual.result _ c.from_residual.ensures.0

pub returns-in_err-seeks_quiet-clause-sections : goal.returns-in_err-seeks_quiet-clause-sections
returns-in_err-seeks_quiet-clause-sections g c = c.in_err-seeks_quiet.ensures.sections

pub returns-then-seeks_quiet-clause-run : goal.returns-then-seeks_quiet-clause-run
returns-then-seeks_quiet-clause-run g c =
    on_ok_weaker c.play_unless_quiet.result
    (λ ran. given_back _ (state_of_run g.B.Board c.play_unless_quiet.new.run)
    (record { grid = g.B.Board.grid c.args.board.now; queue = c.args.queue.now })
    (g.B.Board.table c.args.board.now) _ c.args.program.now.sections
    (same_state _ _ _ _ (search rules) (search rules)) c.in_ok-seeks_quiet.ensures.sections ran)
    c.play_unless_quiet.ensures.run

pub returns-then-seeks_quiet-clause-sections : goal.returns-then-seeks_quiet-clause-sections
returns-then-seeks_quiet-clause-sections g c =
    ap (λ (w : QuietGroupsShown). w.sections) c.play_unless_quiet.ensures.program ∙ c.in_ok-seeks_quiet.ensures.sections

pub returns-clause-run : goal.returns-clause-run
returns-clause-run g c =
    on_ok_weaker c.play_sections.result
    (λ ran. given_back _ (state_of_run g.B.Board c.play_sections.new.run)
    (record { grid = g.B.Board.grid c.args.board.now; queue = c.args.queue.now })
    (g.B.Board.table c.args.board.now) _ c.args.program.now.sections
    (same_state _ _ _ _ (search rules) (search rules)) (c.sections-sections.ensures ∙ c.in_ok-seeks_quiet.ensures.sections) ran)
    c.play_sections.ensures.run

pub returns-clause-sections : goal.returns-clause-sections
returns-clause-sections g c = c.in_ok-seeks_quiet.ensures.sections
