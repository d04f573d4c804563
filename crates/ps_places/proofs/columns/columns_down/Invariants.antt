use Rattle.std.proofs.Common.{◌≡◌, ◌+◌, ◌≤◌}
use Rattle.ps_places.proofs.PartColumns.{AreLeftDown}
use Rattle.ps_places.proofs.columns.columns_down.Given as goal

-- the columns that are left, and what the part still lacks there
abbrev pub invariant-loop-number : goal.invariant-loop-number
invariant-loop-number g l =
    record {
      left : AreLeftDown (g.B.Board.grid l.board) (g.B.Board.table l.board) l.part l.row l.columns l.number;
      below : l.below ≡ l.row + l.number;
      room : l.row + l.number ≤ (g.B.Board.grid l.board).height;
    }
