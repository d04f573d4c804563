use Rattle.std.proofs.Common.{take}
use Rattle.std.specs.Prelude.{All}
use Rattle.ps_rows.specs.PutAlready.{IsPutAlready}
use Rattle.ps_rows.specs.Showing.{grid_shown}
use Rattle.ps_rows.specs.SlotsWritten.{in_columns}
use Rattle.ps_rows.proofs.row_board.RowBoard.are_put.Given as goal

-- those passed by put what stands there
abbrev pub invariant-loop-each : goal.invariant-loop-each
invariant-loop-each g l =
    All (IsPutAlready (grid_shown l.self.members.table.items l.self.width l.self.planes.height l.self.layers
    l.self.planes.words.items) (in_columns l.self.planes.height l.row l.columns)) (take l.each-index l.writes)
