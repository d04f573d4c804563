use Rattle.std.proofs.Common.{◌≡◌, ◌∙◌, ℕ, Bool, false, List, Option, ap, drop, map, refl, sym}
use Rattle.ps_model.specs.declared.limits.TheConstants.{REPEAT_LIMIT}
use Rattle.ps_model.specs.board.Attempts.{Result, State}
use Rattle.ps_model.specs.board.Programs.{Progress, section_run}
use Rattle.ps_program.specs.declared.program.CompiledSection.{CompiledSection}
use Rattle.ps_program.specs.declared.program.CompiledSection.TheVariants.{Group, Loop}
use Rattle.ps_engine.specs.RulesInRoom.{section_meaning, sections_meaning}
use Rattle.ps_engine.proofs.Sequences.{program_is, sections_end, sections_on}
use Rattle.ps_engine.specs.Runs.{state_of_run}
use Rattle.ps_engine.specs.Workspaces.{same_layers}
use Rattle.ps_engine.proofs.Ended.{ran_whole, ran_to_cancel}
use Rattle.ps_engine.proofs.programs.play_sections.Goals as goal
use Rattle.ps_engine.proofs.programs.play_sections.Goals.{in-Group+in_ok-play_group-in-Group}
use Rattle.ps_engine.proofs.programs.play_sections.Goals.{in-Loop+in_ok-left-in-Loop+else-left}

pub loop-section-init : goal.loop-section-init
loop-section-init g c =
    record {
      run = program_is (sections_meaning (g.B.Board.table c.args.run.now.board.now) c.args.sections.now) REPEAT_LIMIT
          (state_of_run g.B.Board c.args.run.now) refl;
      fixed = refl;
    }

pub loop-section-preserved : goal.loop-section-preserved
loop-section-preserved g c =
    let table : Option (List ℕ) = g.B.Board.table c.args.run.now.board.now in
    let here : Option (List ℕ) = g.B.Board.table c.loop-section.run.board.now in
    let was = c.loop-section.invariant in
    let section : CompiledSection = c.section-item.result in
    let repeats : ℕ = c.loop-section.repeats in
    let now : State = state_of_run g.B.Board c.loop-section.run in
    elim c.match-section.branch [
      | in-Group+in_ok-play_group-in-Group w ↦
          let next : State = state_of_run g.B.Board w.play_group.new.run in
          let made : (let p : Progress = record { state = next; repeats = repeats; stopped = false } in p)
          ≡ section_run (section_meaning table section) repeats now =
          ap (λ (r : Result). let p : Progress = record { state = r.state; repeats = repeats; stopped = false } in p)
          w.in_ok-play_group-in-Group.ensures.group
          ∙ ap (λ (s : CompiledSection). section_run (section_meaning here s) repeats now)
          (ap Group w.as_slice.ensures ∙ sym w.in-Group.is)
          ∙ ap (λ (t : Option (List ℕ)). section_run (section_meaning t section) repeats now) (same_layers was.fixed) in
          record {
            run = rw (w.repeats-is, w.run-is) (sections_on (section_meaning table) c.args.sections.now
                c.loop-section.section-index section repeats repeats now next c.loop-section-test.true
                c.section-item.is made ∙ was.run);
            fixed = rw w.run-is (w.play_group.ensures.fixed ∙ was.fixed);
          }
      | in-Loop+in_ok-left-in-Loop+else-left w ↦
          let left = w.in_ok-left-in-Loop.left in
          let next : State = state_of_run g.B.Board w.play_loop.new.run in
          let made : (let p : Progress = record { state = next; repeats = left.repeats; stopped = false } in p)
          ≡ section_run (section_meaning table section) repeats now =
          ap (λ (b : Bool). let p : Progress = record { state = next; repeats = left.repeats; stopped = b } in p)
          (sym w.if-left.false)
          ∙ w.in_ok-left-in-Loop.ensures.looped
          ∙ ap (λ (s : CompiledSection). section_run (section_meaning here s) repeats now)
          (ap Loop w.as_slice-in-Loop.ensures ∙ sym w.in-Loop.is)
          ∙ ap (λ (t : Option (List ℕ)). section_run (section_meaning t section) repeats now) (same_layers was.fixed) in
          record {
            run = rw (w.repeats-is, w.run-is) (sections_on (section_meaning table) c.args.sections.now
                c.loop-section.section-index section repeats left.repeats now next c.loop-section-test.true
                c.section-item.is made ∙ was.run);
            fixed = rw w.run-is (w.play_loop.ensures.fixed ∙ was.fixed);
          }
    ]

pub returns-then-ends-clause-run : goal.returns-then-ends-clause-run
returns-then-ends-clause-run g c =
    let table : Option (List ℕ) = g.B.Board.table c.args.run.now.board.now in
    ran_to_cancel c.args.extent (map (section_meaning table) (drop c.loop-section.section-index c.args.sections.now))
    c.loop-section.repeats _ (state_of_run g.B.Board c.loop-section.run) (c.ends.ensures.extent c.if-ends.true)
    (c.ends.ensures.cancelled c.if-ends.true) c.loop-section.invariant.run

pub returns-clause-run : goal.returns-clause-run
returns-clause-run g c =
    ran_whole c.args.extent _ (state_of_run g.B.Board c.loop-section.run)
    (sections_end (section_meaning (g.B.Board.table c.args.run.now.board.now)) c.args.sections.now
    c.loop-section.section-index c.loop-section.repeats (state_of_run g.B.Board c.loop-section.run)
    c.loop-section-test.false
    ∙ c.loop-section.invariant.run)
