use Rattle.std.proofs.Common.{◌-◌, ◌≤◌, length}
use Rattle.ps_engine.specs.Lacking.{AreIdleBetween}
use Rattle.ps_engine.proofs.lacking.behind_lacking.Given as goal

-- the rules passed over have no combination
abbrev pub invariant-loop-next : goal.invariant-loop-next
invariant-loop-next g l =
    record {
      low : l.number ≤ l.next;
      high : l.next ≤ length l.rules;
      idle : AreIdleBetween (g.B.Board.grid l.board) (g.B.Board.table l.board) l.rules l.number l.next;
    }

abbrev pub decreases-loop-next : goal.decreases-loop-next
decreases-loop-next g l = length l.rules - l.next
