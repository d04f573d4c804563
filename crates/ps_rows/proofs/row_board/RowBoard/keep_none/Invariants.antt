use Rattle.std.proofs.Common.{take}
use Rattle.ps_rows.specs.Showing.{grid_shown}
use Rattle.ps_rows.specs.RowsKept.{AreKept, are_away}
use Rattle.ps_rows.proofs.row_board.RowBoard.keep_none.Given as goal

-- what those passed by keep
abbrev pub invariant-loop-sought : goal.invariant-loop-sought
invariant-loop-sought g l =
    AreKept (grid_shown l.self.members.table.items l.self.width l.self.planes.height l.self.layers
    l.self.planes.words.items) l.first l.fn.found l.found (are_away (take l.sought-index l.objects))
