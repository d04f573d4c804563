use Rattle.std.proofs.Common.{◌≡◌, ◌∙◌, ℕ, ◌-◌, suc, Bool, true, false, List, Option, sym, ap, refl, arith, subst}
use Rattle.std.proofs.lemmas.Bool.{false≢true}
use Rattle.std.proofs.lemmas.Result.{IfOk-from_err}
use Rattle.ps_model.specs.board.Attempts.{State, Result}
use Rattle.ps_model.specs.board.Programs.{Progress, looped, pass}
use Rattle.ps_model.specs.meaning.RuleMeanings.{RuleMeaning}
use Rattle.ps_engine.specs.RulesInRoom.{groups_meaning}
use Rattle.ps_engine.specs.Scratch.{GroupsHaveScratch}
use Rattle.ps_engine.proofs.ComingBack.{IsStep, keeps_on, rest_is}
use Rattle.ps_engine.proofs.Sequences.{looped_off, looped_on, looped_stop}
use Rattle.ps_engine.specs.Runs.{state_of_run}
use Rattle.ps_engine.specs.Workspaces.{same_layers, same_rows}
use Rattle.ps_engine.proofs.programs.play_loop.Goals as goal

pub loop-again-init : goal.loop-again-init
loop-again-init g c =
    record {
      looped = refl;
      fixed = refl;
      keeps = λ on. absurd (false≢true (sym c.new-finder.ensures ∙ on));
    }

pub returns-then-not-again-clause-looped : goal.returns-then-not-again-clause-looped
returns-then-not-again-clause-looped g c =
    let table : Option (List ℕ) = g.B.Board.table c.args.run.now.board.now in
    let meant : List (List RuleMeaning) = groups_meaning table c.args.groups.now in
    let now : State = state_of_run g.B.Board c.loop-again.run in
    let next : State = state_of_run g.B.Board c.pass.new.run in
    let made : (let r : Result = record { state = next; changed = false } in r) ≡ pass meant now =
    ap (λ (b : Bool). let r : Result = record { state = next; changed = b } in r) (sym c.if-not-again.true)
    ∙ c.in_ok-again.ensures.pass
    ∙ ap (λ (t : Option (List ℕ)). pass (groups_meaning t c.args.groups.now) now) (same_layers c.loop-again.invariant.fixed) in
    looped_off meant c.loop-again.left now next made ∙ c.loop-again.invariant.looped

pub loop-again-preserved : goal.loop-again-preserved
loop-again-preserved g c =
    let table : Option (List ℕ) = g.B.Board.table c.args.run.now.board.now in
    let meant : List (List RuleMeaning) = groups_meaning table c.args.groups.now in
    let now : State = state_of_run g.B.Board c.loop-again.run in
    let next : State = state_of_run g.B.Board c.pass.new.run in
    let run : ℕ → State → Progress = looped meant in
    let made : (let r : Result = record { state = next; changed = true } in r) ≡ pass meant now =
    ap (λ (b : Bool). let r : Result = record { state = next; changed = b } in r) (sym c.if-not-again.false)
    ∙ c.in_ok-again.ensures.pass
    ∙ ap (λ (t : Option (List ℕ)). pass (groups_meaning t c.args.groups.now) now) (same_layers c.loop-again.invariant.fixed) in
    let step : IsStep run now next = λ n. sym (looped_on meant (suc n) now next n (omega arith) made) in
    let finder = c.loop-again.finder in
    let kept = c.loop-again.kept.of_passes in
    record {
      looped = rest_is run finder kept now next (c.loop-again.left - 1) c.in_ok-left.left step
          c.loop-again.invariant.keeps c.in_ok-left.ensures.rest
          ∙ looped_on meant c.loop-again.left now next (c.loop-again.left - 1) (omega arith) made
          ∙ c.loop-again.invariant.looped;
      fixed = c.pass.ensures.fixed ∙ c.loop-again.invariant.fixed;
      keeps = keeps_on run finder c.step.new.self kept c.step.new.kept now next step c.loop-again.invariant.keeps
          c.in_ok-left.ensures.goes;
    }

pub returns-in_err-again-clause-looped : goal.returns-in_err-again-clause-looped
returns-in_err-again-clause-looped g c = IfOk-from_err c.from_residual.result _ c.from_residual.ensures.0

pub returns-in_err-left-clause-looped : goal.returns-in_err-left-clause-looped
returns-in_err-left-clause-looped g c =
    IfOk-from_err c.from_residual-in_err-left.result _ c.from_residual-in_err-left.ensures.0

pub returns-in_err-again-clause-changed : goal.returns-in_err-again-clause-changed
returns-in_err-again-clause-changed g c =
    IfOk-from_err c.from_residual.result (λ left. left.changed ≡ true) c.from_residual.ensures.0

pub returns-in_err-left-clause-changed : goal.returns-in_err-left-clause-changed
returns-in_err-left-clause-changed g c =
    IfOk-from_err c.from_residual-in_err-left.result (λ left. left.changed ≡ true)
    c.from_residual-in_err-left.ensures.0

pub returns-then-not-again-clause-changed : goal.returns-then-not-again-clause-changed
returns-then-not-again-clause-changed g c = refl

pub returns-then-left-eq0-clause-changed : goal.returns-then-left-eq0-clause-changed
returns-then-left-eq0-clause-changed g c = refl

pub returns-then-left-eq0-clause-looped : goal.returns-then-left-eq0-clause-looped
returns-then-left-eq0-clause-looped g c =
    let table : Option (List ℕ) = g.B.Board.table c.args.run.now.board.now in
    let meant : List (List RuleMeaning) = groups_meaning table c.args.groups.now in
    let now : State = state_of_run g.B.Board c.loop-again.run in
    let next : State = state_of_run g.B.Board c.pass.new.run in
    let made : (let r : Result = record { state = next; changed = true } in r) ≡ pass meant now =
    ap (λ (b : Bool). let r : Result = record { state = next; changed = b } in r) (sym c.if-not-again.false)
    ∙ c.in_ok-again.ensures.pass
    ∙ ap (λ (t : Option (List ℕ)). pass (groups_meaning t c.args.groups.now) now) (same_layers c.loop-again.invariant.fixed) in
    looped_stop meant c.loop-again.left now next c.if-left-eq0.true made ∙ c.loop-again.invariant.looped

pub pass-requires : goal.pass-requires
pass-requires g c =
    subst (λ (count : ℕ). GroupsHaveScratch count c.args.groups.now) (sym (same_rows c.loop-again.invariant.fixed)) c.requires

pub returns-in_err-again-clause-fixed : goal.returns-in_err-again-clause-fixed
returns-in_err-again-clause-fixed g c = c.in_err-again.ensures.fixed ∙ c.loop-again.invariant.fixed

pub returns-in_err-left-clause-fixed : goal.returns-in_err-left-clause-fixed
returns-in_err-left-clause-fixed g c = c.in_ok-again.ensures.fixed ∙ c.loop-again.invariant.fixed

pub returns-then-left-eq0-clause-fixed : goal.returns-then-left-eq0-clause-fixed
returns-then-left-eq0-clause-fixed g c = c.in_ok-again.ensures.fixed ∙ c.loop-again.invariant.fixed

pub returns-then-not-again-clause-fixed : goal.returns-then-not-again-clause-fixed
returns-then-not-again-clause-fixed g c = c.in_ok-again.ensures.fixed ∙ c.loop-again.invariant.fixed
