use Rattle.std.proofs.Common.{take}
use Rattle.ps_rows.specs.Showing.{grid_shown}
use Rattle.ps_rows.specs.RowTests.{IsRowOf}
use Rattle.ps_rows.specs.SlotsWritten.{one_goes}
use Rattle.ps_rows.proofs.row_board.RowBoard.gone_row.Given as goal

-- the word of those passed by
abbrev pub invariant-loop-each : goal.invariant-loop-each
invariant-loop-each g l =
    IsRowOf (grid_shown l.self.members.table.items l.self.width l.self.planes.height l.self.layers
    l.self.planes.words.items) l.row l.word (one_goes (take l.each-index l.gone) l.layer)
