use Rattle.std.proofs.Common.{◌≡◌, ◌∙◌, ℕ, List, Option, ap, length, sym, subst, refl, get_or}
use Rattle.std.proofs.lemmas.Result.{IfOk-from_err}
use Rattle.ps_model.specs.board.Attempts.{State, Result}
use Rattle.ps_model.specs.board.Programs.{group}
use Rattle.ps_program.specs.declared.rules.CompiledRule.{CompiledRule}
use Rattle.ps_engine.specs.RulesInRoom.{rules_meaning}
use Rattle.ps_engine.specs.Scratch.{HaveScratch}
use Rattle.ps_engine.specs.Runs.{state_of_run}
use Rattle.ps_engine.specs.Workspaces.{same_layers, same_rows}
use Rattle.ps_engine.proofs.Sequences.{pass_end, pass_more}
use Rattle.ps_engine.proofs.rounds.pass.Goals as goal

pub loop-rules-preserved : goal.loop-rules-preserved
loop-rules-preserved g c =
    let table : Option (List ℕ) = g.B.Board.table c.args.run.now.board.now in
    let here : Option (List ℕ) = g.B.Board.table c.loop-rules.run.board.now in
    let now : State = state_of_run g.B.Board c.loop-rules.run in
    let next : State = state_of_run g.B.Board c.play_group.new.run in
    let after : Result = record { state = next; changed = c.in_ok-more.more } in
    let made : after ≡ group (rules_meaning table c.rules-item.result) now =
    c.in_ok-more.ensures.group
    ∙ ap (λ (rules : List CompiledRule). group (rules_meaning here rules) now) c.as_slice.ensures
    ∙ ap (λ (t : Option (List ℕ)). group (rules_meaning t c.rules-item.result) now)
    (same_layers c.loop-rules.invariant.fixed) in
    record {
      pass = pass_more (rules_meaning table) c.args.groups.now c.loop-rules.rules-index c.rules-item.result
          c.loop-rules.changed c.in_ok-more.more now next c.loop-rules-test.true c.rules-item.is made
          ∙ c.loop-rules.invariant.pass;
      fixed = c.play_group.ensures.fixed ∙ c.loop-rules.invariant.fixed;
    }

pub loop-rules-init : goal.loop-rules-init
loop-rules-init g c = record { pass = refl; fixed = refl }

pub play_group-requires : goal.play_group-requires
play_group-requires g c =
    let rules : List CompiledRule = c.rules-item.result in
    subst (HaveScratch (length c.loop-rules.run.scratch.now)) (sym (c.as_slice.ensures ∙ c.rules-item.is))
    (subst (λ (count : ℕ). HaveScratch count (get_or c.args.groups.now c.loop-rules.rules-index rules))
    (sym (same_rows c.loop-rules.invariant.fixed)) (c.requires c.loop-rules.rules-index rules c.loop-rules-test.true))

pub returns-in_err-more-clause-pass : goal.returns-in_err-more-clause-pass
returns-in_err-more-clause-pass g c = IfOk-from_err c.from_residual.result _ c.from_residual.ensures.0

pub returns-in_err-more-clause-fixed : goal.returns-in_err-more-clause-fixed
returns-in_err-more-clause-fixed g c = c.in_err-more.ensures.fixed ∙ c.loop-rules.invariant.fixed

pub returns-clause-fixed : goal.returns-clause-fixed
returns-clause-fixed g c = c.loop-rules.invariant.fixed

pub returns-clause-pass : goal.returns-clause-pass
returns-clause-pass g c =
    pass_end (rules_meaning (g.B.Board.table c.args.run.now.board.now)) c.args.groups.now c.loop-rules.rules-index
    c.loop-rules.changed (state_of_run g.B.Board c.loop-rules.run) c.loop-rules-test.false
    ∙ c.loop-rules.invariant.pass
