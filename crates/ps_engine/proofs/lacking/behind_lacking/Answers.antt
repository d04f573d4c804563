use Rattle.std.proofs.Common.{◌+◌, ℕ, Option, List, arith}
use Rattle.ps_model.specs.board.Grid.{Grid}
use Rattle.ps_engine.proofs.AskedFor.{idle_further, one_idle}
use Rattle.ps_engine.proofs.lacking.behind_lacking.Goals as goal

pub loop-next-init : goal.loop-next-init
loop-next-init g c =
    record {
      low = omega arith;
      high = omega (arith, c.requires.number);
      idle = λ k d from to. absurd (omega (arith, from, to));
    }

pub loop-next-preserved : goal.loop-next-preserved
loop-next-preserved g c =
    let grid : Grid = g.B.Board.grid c.args.board.now in
    let table : Option (List ℕ) = g.B.Board.table c.args.board.now in
    let next : ℕ = c.loop-next.next in
    record {
      low = omega (arith, c.loop-next.invariant.low);
      high = omega (arith, c.loop-next-test.true);
      idle = idle_further grid table c.args.rules.now c.args.number next (next + 1) c.loop-next.invariant.idle
          (one_idle grid table c.args.rules.now next c.index-rules-next.result c.loop-next-test.true
          c.index-rules-next.is (c.asks_for_others.ensures c.if-asks_for_others.true));
    }

pub asks_for_others-requires : goal.asks_for_others-requires
asks_for_others-requires g c = c.requires.motions

pub returns-else-asks_for_others-clause-from : goal.returns-else-asks_for_others-clause-from
returns-else-asks_for_others-clause-from g c = c.loop-next.invariant.low

pub returns-else-asks_for_others-clause-within : goal.returns-else-asks_for_others-clause-within
returns-else-asks_for_others-clause-within g c = c.loop-next.invariant.high

pub returns-else-asks_for_others-clause-idle : goal.returns-else-asks_for_others-clause-idle
returns-else-asks_for_others-clause-idle g c = c.loop-next.invariant.idle
