use Rattle.std.proofs.Common.{◌≡◌, ◌-◌, length}
use Rattle.ps_engine.specs.Lacking.{AreIdleBetween}
use Rattle.ps_engine.proofs.quiet_groups.are_idle.Given as goal

-- no rule that was passed by has a combination
abbrev pub invariant-loop-number : goal.invariant-loop-number
invariant-loop-number g l =
    record {
      idle : AreIdleBetween (g.B.Board.grid l.board) (g.B.Board.table l.board) l.rules 0 l.number;
      scratch : length l.scratch ≡ length l.fn.scratch;
    }

abbrev pub decreases-loop-number : goal.decreases-loop-number
decreases-loop-number g l = length l.rules - l.number
