use Rattle.std.proofs.Common.{◌≤◌, length}
use Rattle.ps_engine.specs.Choosing.{FitFrom}
use Rattle.ps_engine.proofs.walking.slowest_unfit.Given as goal

-- the rows passed by fit
abbrev pub invariant-loop-number : goal.invariant-loop-number
invariant-loop-number g l = record {
  low : l.number ≤ length l.rows;
  slower : FitFrom (g.B.Board.grid l.board) (g.B.Board.table l.board) l.rows l.scratch l.number;
}

-- the rows that are left
abbrev pub decreases-loop-number : goal.decreases-loop-number
decreases-loop-number g l = l.number
