use Rattle.std.proofs.Common.{◌≡◌, ◌∙◌, IfOk, length, sym, ap, subst, true, false}
use Rattle.std.proofs.lemmas.Result.{IfOk-from_err, IfOk-weaker}
use Rattle.std.proofs.lemmas.Bool.{false≢true}
use Rattle.ps_model.specs.board.Attempts.{State, Result}
use Rattle.ps_model.specs.board.Programs.{Progress, group, section_run}
use Rattle.ps_program.specs.declared.program.CompiledSection.{CompiledSection}
use Rattle.ps_program.specs.declared.program.CompiledSection.TheVariants.{Group, Loop}
use Rattle.ps_engine.specs.RulesInRoom.{rules_meaning, section_meaning}
use Rattle.ps_engine.specs.Scratch.{GroupsHaveScratch, HaveScratch}
use Rattle.ps_engine.proofs.Unchanged.{group_kept}
use Rattle.ps_engine.specs.Runs.{state_of_run}
use Rattle.ps_engine.proofs.programs.play_section.Goals as goal

pub returns-in_ok-changed-in-Group-clause-unchanged : goal.returns-in_ok-changed-in-Group-clause-unchanged
returns-in_ok-changed-in-Group-clause-unchanged g c = λ off.
    let before : State = state_of_run g.B.Board c.args.run.now in
    let after : State = state_of_run g.B.Board c.play_group.new.run in
    let made : (let r : Result = record { state = after; changed = c.in_ok-changed-in-Group.changed } in r) ≡ group
    (rules_meaning (g.B.Board.table c.args.run.now.board.now) c.as_slice.result.now) before =
    c.in_ok-changed-in-Group.ensures.group in
    ap (λ (r : Result). (r.state).grid) made
    ∙ group_kept (rules_meaning (g.B.Board.table c.args.run.now.board.now) c.as_slice.result.now) before
    (ap (λ (r : Result). r.changed) (sym made) ∙ off)

pub play_group-requires : goal.play_group-requires
play_group-requires g c =
    subst (HaveScratch (length c.args.run.now.scratch.now)) (sym c.as_slice.ensures)
    (c.requires.group c.in-Group.rules c.in-Group.is)

pub play_loop-requires : goal.play_loop-requires
play_loop-requires g c =
    subst (GroupsHaveScratch (length c.args.run.now.scratch.now)) (sym c.as_slice-in-Loop.ensures)
    (c.requires.groups c.in-Loop.groups c.in-Loop.is)

pub returns-in_err-changed-in-Group-clause-section : goal.returns-in_err-changed-in-Group-clause-section
returns-in_err-changed-in-Group-clause-section g c = IfOk-from_err c.from_residual.result _ c.from_residual.ensures.0

pub returns-in_err-changed-in-Group-clause-unchanged : goal.returns-in_err-changed-in-Group-clause-unchanged
returns-in_err-changed-in-Group-clause-unchanged g c = IfOk-from_err c.from_residual.result _ c.from_residual.ensures.0

pub returns-in_err-changed-in-Group-clause-fixed : goal.returns-in_err-changed-in-Group-clause-fixed
returns-in_err-changed-in-Group-clause-fixed g c = c.in_err-changed-in-Group.ensures.fixed

pub returns-in_ok-changed-in-Group-clause-fixed : goal.returns-in_ok-changed-in-Group-clause-fixed
returns-in_ok-changed-in-Group-clause-fixed g c = c.in_ok-changed-in-Group.ensures.fixed

pub returns-in-Loop-clause-fixed : goal.returns-in-Loop-clause-fixed
returns-in-Loop-clause-fixed g c = c.play_loop.ensures.fixed

pub returns-in_ok-changed-in-Group-clause-section : goal.returns-in_ok-changed-in-Group-clause-section
returns-in_ok-changed-in-Group-clause-section g c =
    let table = g.B.Board.table c.args.run.now.board.now in
    let before : State = state_of_run g.B.Board c.args.run.now in
    ap (λ (r : Result).
    let p : Progress = record { state = r.state; repeats = c.args.repeats; stopped = false } in p)
    c.in_ok-changed-in-Group.ensures.group
    ∙ ap (λ (s : CompiledSection). section_run (section_meaning table s) c.args.repeats before)
    (ap Group c.as_slice.ensures ∙ sym c.in-Group.is)

pub returns-in-Loop-clause-section : goal.returns-in-Loop-clause-section
returns-in-Loop-clause-section g c =
    let table = g.B.Board.table c.args.run.now.board.now in
    let before : State = state_of_run g.B.Board c.args.run.now in
    let after : State = state_of_run g.B.Board c.play_loop.new.run in
    subst (λ (s : CompiledSection). IfOk c.play_loop.result (λ left.
    (let p : Progress = record { state = after; repeats = left.repeats; stopped = left.stopped } in p)
    ≡ section_run (section_meaning table s) c.args.repeats before))
    (ap Loop c.as_slice-in-Loop.ensures ∙ sym c.in-Loop.is) c.play_loop.ensures.looped

pub returns-in-Loop-clause-unchanged : goal.returns-in-Loop-clause-unchanged
returns-in-Loop-clause-unchanged g c =
    IfOk-weaker c.play_loop.result (λ left. left.changed ≡ true) (λ left. left.changed ≡ false →
    g.B.Board.grid c.play_loop.new.run.board.now ≡ g.B.Board.grid c.args.run.now.board.now)
    (λ left on off. absurd (false≢true (sym off ∙ on))) c.play_loop.ensures.changed
