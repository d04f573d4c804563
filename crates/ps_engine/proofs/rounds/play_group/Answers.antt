use Rattle.std.proofs.Common.{◌≡◌, ◌∙◌, ◌-◌, ◌+◌, ℕ, Bool, true, false, Option, List, drop, refl, sym, ap}
use Rattle.std.proofs.Common.{arith}
use Rattle.ps_model.specs.declared.limits.TheConstants.{ROUND_LIMIT}
use Rattle.ps_model.specs.board.Attempts.{State, Result, attempt}
use Rattle.ps_model.specs.board.Programs.{round, settled}
use Rattle.ps_model.specs.meaning.RuleMeanings.{RuleMeaning}
use Rattle.ps_program.specs.declared.rules.CompiledRule.{CompiledRule}
use Rattle.ps_engine.specs.RulesInRoom.{rule_meaning, rules_meaning}
use Rattle.ps_engine.proofs.Sequences.{group_is, round_end, round_more, settled_off, settled_on}
use Rattle.ps_engine.specs.Runs.{state_of_run}
use Rattle.ps_engine.specs.Workspaces.{same_layers}
use Rattle.ps_engine.proofs.rounds.play_group.Goals as goal

pub returns-then-attempt_asked-clause-group : goal.returns-then-attempt_asked-clause-group
returns-then-attempt_asked-clause-group g c =
    let table : Option (List ℕ) = g.B.Board.table c.args.run.now.board.now in
    let rules : List CompiledRule = c.args.rules.now in
    let meant : List RuleMeaning = rules_meaning table rules in
    let at : ℕ = c.loop-number.number in
    let rule : CompiledRule = c.index-rules-number.result in
    let before : State = state_of_run g.B.Board c.args.run.now in
    let now : State = state_of_run g.B.Board c.loop-number.run in
    let next : State = state_of_run g.B.Board c.attempt_asked.new.run in
    let same : g.B.Board.table c.attempt_asked.new.run.board.now ≡ table =
    same_layers c.attempt_asked.ensures.fixed ∙ same_layers c.loop-number.invariant.fixed in
    let made : (let r : Result = record { state = next; changed = true } in r)
    ≡ attempt (rule_meaning table rule) now =
    ap (λ (b : Bool). let r : Result = record { state = next; changed = b } in r) (sym c.if-attempt_asked.true)
    ∙ c.attempt_asked.ensures.attempt
    ∙ ap (λ (t : Option (List ℕ)). attempt (rule_meaning t rule) now) (same_layers c.loop-number.invariant.fixed) in
    let rest : State = (round (rules_meaning table (drop (at + 1) rules)) next).state in
    let first : (let r : Result = record { state = rest; changed = true } in r) ≡ round meant before =
    round_more (rule_meaning table) rules at rule false true now next c.loop-number-test.true c.index-rules-number.is
    made ∙ c.loop-number.invariant.round in
    c.in_ok-play_on.ensures.settled
    ∙ ap (λ (t : Option (List ℕ)). settled (rules_meaning t rules) (ROUND_LIMIT - 1) true
    (round (rules_meaning t (drop (at + 1) rules)) next).state) same
    ∙ settled_on meant ROUND_LIMIT (ROUND_LIMIT - 1) false before rest (omega arith) first
    ∙ group_is meant ROUND_LIMIT before refl

pub loop-number-preserved : goal.loop-number-preserved
loop-number-preserved g c =
    let table : Option (List ℕ) = g.B.Board.table c.args.run.now.board.now in
    let was = c.loop-number.invariant in
    let rules : List CompiledRule = c.args.rules.now in
    let at : ℕ = c.loop-number.number in
    let rule : CompiledRule = c.index-rules-number.result in
    let now : State = state_of_run g.B.Board c.loop-number.run in
    let next : State = state_of_run g.B.Board c.attempt_asked.new.run in
    let after : Result = record { state = next; changed = c.attempt_asked.result } in
    let made : after ≡ attempt (rule_meaning table rule) now =
    c.attempt_asked.ensures.attempt
    ∙ ap (λ (t : Option (List ℕ)). attempt (rule_meaning t rule) now) (same_layers was.fixed) in
    let off : (let r : Result = record { state = next; changed = false } in r)
    ≡ attempt (rule_meaning table rule) now =
    ap (λ (b : Bool). let r : Result = record { state = next; changed = b } in r) (sym c.if-attempt_asked.false)
    ∙ made in
    record {
      round = round_more (rule_meaning table) rules at rule false false now next c.loop-number-test.true
          c.index-rules-number.is off ∙ was.round;
      fixed = c.attempt_asked.ensures.fixed ∙ was.fixed;
    }

pub returns-clause-group : goal.returns-clause-group
returns-clause-group g c =
    let table : Option (List ℕ) = g.B.Board.table c.args.run.now.board.now in
    let meant : List RuleMeaning = rules_meaning table c.args.rules.now in
    let before : State = state_of_run g.B.Board c.args.run.now in
    let now : State = state_of_run g.B.Board c.loop-number.run in
    let made : (let r : Result = record { state = now; changed = false } in r) ≡ round meant before =
    round_end (rule_meaning table) c.args.rules.now c.loop-number.number false now
    (omega (arith, c.loop-number-test.false))
    ∙ c.loop-number.invariant.round in
    settled_off meant ROUND_LIMIT (ROUND_LIMIT - 1) false before now (omega arith) made
    ∙ group_is meant ROUND_LIMIT before refl
