use Rattle.std.proofs.Common.{take}
use Rattle.ps_rows.specs.Showing.{grid_shown}
use Rattle.ps_rows.specs.RowTests.{held_all}
use Rattle.ps_rows.specs.RowsKept.{AreKept}
use Rattle.ps_rows.proofs.row_board.RowBoard.keep_all.Given as goal

-- what those passed by keep
abbrev pub invariant-loop-sought : goal.invariant-loop-sought
invariant-loop-sought g l =
    AreKept (grid_shown l.self.members.table.items l.self.width l.self.planes.height l.self.layers
    l.self.planes.words.items) l.first l.fn.found l.found (held_all (take l.sought-index l.objects))
