use Rattle.std.proofs.Common.{◌≤◌}
use Rattle.ps_places.proofs.PartColumns.{AreLeftAcross}
use Rattle.ps_places.proofs.columns.columns_across.Given as goal

-- the columns that are left, and what the part still lacks there
abbrev pub invariant-loop-number : goal.invariant-loop-number
invariant-loop-number g l =
    record {
      left : AreLeftAcross (g.B.Board.grid l.board) (g.B.Board.table l.board) l.part l.row l.columns l.number;
      some : 1 ≤ l.number;
    }
