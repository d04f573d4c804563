use Rattle.ps_rows.specs.Showing.{grid_shown}
use Rattle.ps_rows.specs.RowTests.{held_of_each}
use Rattle.ps_rows.proofs.KeptRowByRow.{AreKeptBelow}
use Rattle.ps_rows.proofs.row_board.RowBoard.keep_each_listed.Given as goal

-- the rows passed by are done, and the others as they were
abbrev pub invariant-loop-step : goal.invariant-loop-step
invariant-loop-step g l =
    AreKeptBelow (grid_shown l.self.members.table.items l.self.width l.self.planes.height l.self.layers
    l.self.planes.words.items) l.first l.step l.fn.found l.found (held_of_each l.lists)
