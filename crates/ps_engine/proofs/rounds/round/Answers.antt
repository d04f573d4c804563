use Rattle.std.proofs.Common.{◌≡◌, ◌∙◌, ℕ, ◌+◌, ◌||◌, Bool, List, Option, map, drop, ap, subst, arith, ◌≤◌, length}
use Rattle.std.proofs.Common.{refl, sym}
use Rattle.std.proofs.Math.Bool.{or-false, or-true}
use Rattle.ps_model.specs.board.Attempts.{State, Result, attempt}
use Rattle.ps_model.specs.board.Programs.{after_change, round}
use Rattle.ps_program.specs.declared.rules.CompiledRule.{CompiledRule}
use Rattle.ps_engine.specs.Lacking.{AreIdleBetween}
use Rattle.ps_engine.specs.RulesInRoom.{rule_meaning}
use Rattle.ps_engine.specs.Runs.{state_of_run}
use Rattle.ps_engine.specs.Workspaces.{same_layers, same_rows}
use Rattle.ps_engine.proofs.Idle.{rules_passed, short_of}
use Rattle.ps_engine.proofs.Sequences.{round_end, round_more}
use Rattle.ps_engine.proofs.rounds.round.Goals as goal
use Rattle.ps_engine.proofs.rounds.round.Goals.{then-attempt, else-attempt}

pub loop-number-preserved : goal.loop-number-preserved
loop-number-preserved g c =
    let table : Option (List ℕ) = g.B.Board.table c.args.run.now.board.now in
    let was = c.loop-number.invariant in
    let at : ℕ = c.behind_lacking-next.result in
    let rule : CompiledRule = c.index-rules-next.result in
    let more : Bool = c.attempt.result in
    let now : State = state_of_run g.B.Board c.loop-number.run in
    let next : State = state_of_run g.B.Board c.attempt.new.self in
    let after : Result = record { state = next; changed = more } in
    let made : after ≡ attempt (rule_meaning table rule) now =
    c.attempt.ensures.attempt
    ∙ ap (λ (t : Option (List ℕ)). attempt (rule_meaning t rule) now) (same_layers was.fixed) in
    let idle : AreIdleBetween now.grid table c.args.rules.now c.loop-number.number at =
    subst (λ (t : Option (List ℕ)). AreIdleBetween now.grid t c.args.rules.now c.loop-number.number at)
    (same_layers was.fixed) c.behind_lacking-next.ensures.idle in
    let changed : c.if-attempt.changed ≡ (c.loop-number.changed || more) =
    elim c.if-attempt.branch [
      | then-attempt w ↦ w.changed-is ∙ sym (ap (λ (b : Bool). c.loop-number.changed || b) w.if-attempt.true
          ∙ or-true c.loop-number.changed)
      | else-attempt w ↦ w.changed-is ∙ sym (ap (λ (b : Bool). c.loop-number.changed || b) w.if-attempt.false
          ∙ or-false c.loop-number.changed)
    ] in
    record {
      round = ap (λ (b : Bool). after_change b (round (map (rule_meaning table) (drop (at + 1) c.args.rules.now)) next))
          changed
          ∙ round_more (rule_meaning table) c.args.rules.now at rule c.loop-number.changed more now next
          (short_of at (length c.args.rules.now) c.behind_lacking-next.ensures.within c.if-next-rules.false)
          c.index-rules-next.is made
          ∙ rules_passed table c.args.rules.now c.loop-number.number at c.loop-number.changed now
          c.behind_lacking-next.ensures.from idle
          ∙ was.round;
      fixed = c.attempt.ensures.fixed ∙ was.fixed;
    }

pub returns-then-next-rules-clause-round : goal.returns-then-next-rules-clause-round
returns-then-next-rules-clause-round g c =
    let table : Option (List ℕ) = g.B.Board.table c.args.run.now.board.now in
    let was = c.loop-number.invariant in
    let at : ℕ = c.behind_lacking-next.result in
    let now : State = state_of_run g.B.Board c.loop-number.run in
    let idle : AreIdleBetween now.grid table c.args.rules.now c.loop-number.number at =
    subst (λ (t : Option (List ℕ)). AreIdleBetween now.grid t c.args.rules.now c.loop-number.number at)
    (same_layers was.fixed) c.behind_lacking-next.ensures.idle in
    round_end (rule_meaning table) c.args.rules.now at c.loop-number.changed now (omega (arith, c.if-next-rules.true))
    ∙ rules_passed table c.args.rules.now c.loop-number.number at c.loop-number.changed now
    c.behind_lacking-next.ensures.from idle
    ∙ was.round

pub returns-then-next-rules-clause-fixed : goal.returns-then-next-rules-clause-fixed
returns-then-next-rules-clause-fixed g c = c.loop-number.invariant.fixed

pub returns-clause-round : goal.returns-clause-round
returns-clause-round g c =
    let table : Option (List ℕ) = g.B.Board.table c.args.run.now.board.now in
    round_end (rule_meaning table) c.args.rules.now c.loop-number.number c.loop-number.changed
    (state_of_run g.B.Board c.loop-number.run) (omega (arith, c.loop-number-test.false))
    ∙ c.loop-number.invariant.round

pub returns-clause-fixed : goal.returns-clause-fixed
returns-clause-fixed g c = c.loop-number.invariant.fixed

pub loop-number-init : goal.loop-number-init
loop-number-init g c = record { round = refl; fixed = refl }

pub attempt-requires : goal.attempt-requires
attempt-requires g c =
    let rule : CompiledRule = c.index-rules-next.result in
    subst (λ (count : ℕ). length rule.rows ≤ count) (sym (same_rows c.loop-number.invariant.fixed))
    (subst (λ (each : CompiledRule). length each.rows ≤ length c.args.run.now.scratch.now)
    (sym c.index-rules-next.is)
    (c.requires c.behind_lacking-next.result rule
    (short_of c.behind_lacking-next.result (length c.args.rules.now) c.behind_lacking-next.ensures.within
    c.if-next-rules.false)))

pub behind_lacking-next-requires-clause-motions : goal.behind_lacking-next-requires-clause-motions
behind_lacking-next-requires-clause-motions g c = c.loop-number.run.all_motions
