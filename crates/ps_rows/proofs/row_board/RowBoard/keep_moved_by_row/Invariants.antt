use Rattle.std.proofs.Common.{length}
use Rattle.ps_board.specs.ColumnSets.{set_columns}
use Rattle.ps_rows.specs.Showing.{grid_shown}
use Rattle.ps_rows.specs.RowTests.{moved}
use Rattle.ps_rows.proofs.KeptInSet.{AreKeptBut}
use Rattle.ps_rows.proofs.row_board.RowBoard.keep_moved_by_row.Given as goal

-- the rows that aren't left are done, and the others as they were
abbrev pub invariant-loop-row : goal.invariant-loop-row
invariant-loop-row g l =
    AreKeptBut (grid_shown l.self.members.table.items l.self.width l.self.planes.height l.self.layers
    l.self.planes.words.items) l.first l.fn.found l.left l.found (moved l.test)

abbrev pub decreases-loop-row : goal.decreases-loop-row
decreases-loop-row g l = length (set_columns l.left)
