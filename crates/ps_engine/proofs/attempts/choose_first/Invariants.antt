use Rattle.std.proofs.Common.{◌<◌}
use Rattle.ps_engine.specs.Choosing.{OfEach}
use Rattle.ps_engine.proofs.Combinations.{HasFirst}
use Rattle.ps_engine.proofs.attempts.choose_first.Given as goal

-- the rows passed by have a place
abbrev pub invariant-loop-number : goal.invariant-loop-number
invariant-loop-number g l = OfEach (λ k. k < l.number) l.rule.rows l.scratch
    (HasFirst (g.B.Board.grid l.board) (g.B.Board.table l.board))
