use Rattle.std.proofs.Common.{◌≡◌, ◌∙◌, ℕ, ◌-◌, suc, Bool, true, false, List, Option, sym, ap, refl, arith, subst}
use Rattle.ps_model.specs.board.Attempts.{State, Result}
use Rattle.ps_model.specs.board.Programs.{round, settled}
use Rattle.ps_model.specs.meaning.RuleMeanings.{RuleMeaning}
use Rattle.ps_engine.specs.RulesInRoom.{rules_meaning}
use Rattle.ps_engine.specs.Scratch.{HaveScratch}
use Rattle.ps_engine.specs.Runs.{state_of_run}
use Rattle.ps_engine.specs.Workspaces.{same_layers, same_rows}
use Rattle.ps_engine.proofs.ComingBack.{IsStep, all_left, keeps_first, keeps_on, rest_is}
use Rattle.ps_engine.proofs.Sequences.{settled_end, settled_on, settled_off}
use Rattle.ps_engine.proofs.rounds.play_rounds.Goals as goal

pub loop-left-init : goal.loop-left-init
loop-left-init g c =
    let now : State = state_of_run g.B.Board c.args.run.now in
    let meant : List RuleMeaning = rules_meaning (g.B.Board.table c.args.run.now.board.now) c.args.rules.now in
    let run : ℕ → State → Result = λ n state. settled meant n true state in
    let finder = c.new-finder.result in
    record {
      settled = ap (λ (n : ℕ). run n now)
          (all_left finder c.args.kept.now now.grid now.queue c.args.most c.in_ok-left.left
          c.new-finder.ensures c.in_ok-left.ensures.rest);
      fixed = refl;
      keeps = keeps_first run finder c.step.new.self c.args.kept.now c.step.new.kept now c.new-finder.ensures
          c.in_ok-left.ensures.goes;
    }

pub returns-then-not-round-clause-settled : goal.returns-then-not-round-clause-settled
returns-then-not-round-clause-settled g c =
    let table : Option (List ℕ) = g.B.Board.table c.args.run.now.board.now in
    let meant : List RuleMeaning = rules_meaning table c.args.rules.now in
    let now : State = state_of_run g.B.Board c.loop-left.run in
    let next : State = state_of_run g.B.Board c.round.new.run in
    let off : c.round.result ≡ false = c.if-not-round.true in
    let made : (let r : Result = record { state = next; changed = false } in r) ≡ round meant now =
    ap (λ (b : Bool). let r : Result = record { state = next; changed = b } in r) (sym off)
    ∙ c.round.ensures.round
    ∙ ap (λ (t : Option (List ℕ)). round (rules_meaning t c.args.rules.now) now)
    (same_layers c.loop-left.invariant.fixed) in
    settled_off meant c.loop-left.left (c.loop-left.left - 1) true now next
    (omega (arith, c.loop-left-test.true)) made ∙ c.loop-left.invariant.settled

pub loop-left-preserved : goal.loop-left-preserved
loop-left-preserved g c =
    let table : Option (List ℕ) = g.B.Board.table c.args.run.now.board.now in
    let meant : List RuleMeaning = rules_meaning table c.args.rules.now in
    let now : State = state_of_run g.B.Board c.loop-left.run in
    let next : State = state_of_run g.B.Board c.round.new.run in
    let run : ℕ → State → Result = λ n state. settled meant n true state in
    let on : c.round.result ≡ true = c.if-not-round.false in
    let made : (let r : Result = record { state = next; changed = true } in r) ≡ round meant now =
    ap (λ (b : Bool). let r : Result = record { state = next; changed = b } in r) (sym on)
    ∙ c.round.ensures.round
    ∙ ap (λ (t : Option (List ℕ)). round (rules_meaning t c.args.rules.now) now)
    (same_layers c.loop-left.invariant.fixed) in
    let step : IsStep run now next = λ n. sym (settled_on meant (suc n) n true now next (omega arith) made) in
    let finder = c.loop-left.finder in
    let kept = c.loop-left.kept in
    record {
      settled = rest_is run finder kept now next (c.loop-left.left - 1) c.in_ok-left-2.left step
          c.loop-left.invariant.keeps c.in_ok-left-2.ensures.rest
          ∙ settled_on meant c.loop-left.left (c.loop-left.left - 1) true now next
          (omega (arith, c.loop-left-test.true)) made
          ∙ c.loop-left.invariant.settled;
      fixed = c.round.ensures.fixed ∙ c.loop-left.invariant.fixed;
      keeps = keeps_on run finder c.step-in-loop-left.new.self kept c.step-in-loop-left.new.kept now next step
          c.loop-left.invariant.keeps c.in_ok-left-2.ensures.goes;
    }

pub round-requires : goal.round-requires
round-requires g c =
    subst (λ (count : ℕ). HaveScratch count c.args.rules.now) (sym (same_rows c.loop-left.invariant.fixed)) c.requires

pub returns-then-not-round-clause-fixed : goal.returns-then-not-round-clause-fixed
returns-then-not-round-clause-fixed g c = c.round.ensures.fixed ∙ c.loop-left.invariant.fixed

pub returns-clause-fixed : goal.returns-clause-fixed
returns-clause-fixed g c = c.loop-left.invariant.fixed

pub returns-clause-settled : goal.returns-clause-settled
returns-clause-settled g c =
    let meant : List RuleMeaning = rules_meaning (g.B.Board.table c.args.run.now.board.now) c.args.rules.now in
    settled_end meant c.loop-left.left true (state_of_run g.B.Board c.loop-left.run)
    (omega (arith, c.loop-left-test.false))
    ∙ c.loop-left.invariant.settled
