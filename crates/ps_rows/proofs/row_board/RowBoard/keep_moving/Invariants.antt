use Rattle.std.proofs.Common.{take}
use Rattle.ps_rows.specs.Showing.{grid_shown}
use Rattle.ps_rows.specs.RowTests.{moved_all}
use Rattle.ps_rows.specs.RowsKept.{AreKept}
use Rattle.ps_rows.proofs.row_board.RowBoard.keep_moving.Given as goal

-- what those passed by keep
abbrev pub invariant-loop-test : goal.invariant-loop-test
invariant-loop-test g l =
    AreKept (grid_shown l.self.members.table.items l.self.width l.self.planes.height l.self.layers
    l.self.planes.words.items) l.first l.fn.found l.found (moved_all (take l.test-index l.tests))
