use Rattle.std.proofs.Common.{◌+◌, ◌∙◌, arith, refl, sym, true≢false, ℕ, ◌≤◌, length, subst}
use Rattle.ps_program.specs.declared.rules.CompiledRule.{CompiledRule}
use Rattle.ps_engine.proofs.AskedFor.{idle_further, one_idle}
use Rattle.ps_engine.proofs.Idle.{short_of}
use Rattle.ps_engine.proofs.quiet_groups.are_idle.Goals as goal

pub loop-number-init : goal.loop-number-init
loop-number-init g c = record { idle = λ k d from to. absurd (omega (arith, to)); scratch = refl }

pub loop-number-preserved : goal.loop-number-preserved
loop-number-preserved g c =
    let grid = g.B.Board.grid c.args.board.now in
    let table = g.B.Board.table c.args.board.now in
    let next : ℕ = c.behind_lacking-next.result in
    record {
      idle =
          idle_further grid table c.args.rules.now 0 next (next + 1)
          (idle_further grid table c.args.rules.now 0 c.loop-number.number next c.loop-number.invariant.idle
          c.behind_lacking-next.ensures.idle)
          (one_idle grid table c.args.rules.now next c.index-rules-next.result
          (short_of next (length c.args.rules.now) c.behind_lacking-next.ensures.within c.if-next-rules.false)
          c.index-rules-next.is (c.is_idle.ensures.idle c.if-not-is_idle.false));
      scratch = c.is_idle.ensures.long ∙ c.loop-number.invariant.scratch;
    }

pub returns-then-next-rules-clause-idle : goal.returns-then-next-rules-clause-idle
returns-then-next-rules-clause-idle g c = λ e. λ k d low.
    idle_further (g.B.Board.grid c.args.board.now) (g.B.Board.table c.args.board.now) c.args.rules.now 0
    c.loop-number.number c.behind_lacking-next.result c.loop-number.invariant.idle c.behind_lacking-next.ensures.idle
    k d (omega arith) (omega (arith, low, c.if-next-rules.true))

pub returns-then-next-rules-clause-scratch : goal.returns-then-next-rules-clause-scratch
returns-then-next-rules-clause-scratch g c = c.loop-number.invariant.scratch

pub returns-clause-idle : goal.returns-clause-idle
returns-clause-idle g c = λ e. λ k d low.
    c.loop-number.invariant.idle k d (omega arith) (omega (arith, low, c.loop-number-test.false))

pub behind_lacking-next-requires-clause-motions : goal.behind_lacking-next-requires-clause-motions
behind_lacking-next-requires-clause-motions g c = c.requires.motions

pub is_idle-requires : goal.is_idle-requires
is_idle-requires g c =
    let rule : CompiledRule = c.index-rules-next.result in
    subst (λ (count : ℕ). length rule.rows ≤ count) (sym c.loop-number.invariant.scratch)
    (subst (λ (each : CompiledRule). length each.rows ≤ length c.args.scratch.now) (sym c.index-rules-next.is)
    (c.requires.scratch c.behind_lacking-next.result rule
    (short_of c.behind_lacking-next.result (length c.args.rules.now) c.behind_lacking-next.ensures.within
    c.if-next-rules.false)))

pub returns-then-not-is_idle-clause-idle : goal.returns-then-not-is_idle-clause-idle
returns-then-not-is_idle-clause-idle g c = λ e. absurd (true≢false (sym e))

pub returns-then-not-is_idle-clause-scratch : goal.returns-then-not-is_idle-clause-scratch
returns-then-not-is_idle-clause-scratch g c = c.is_idle.ensures.long ∙ c.loop-number.invariant.scratch

pub returns-clause-scratch : goal.returns-clause-scratch
returns-clause-scratch g c = c.loop-number.invariant.scratch
