use Rattle.ps_rows.proofs.RowsDiffering.{rows_alike}
use Rattle.ps_rows.proofs.row_board.RowBoardBoard.rows_touched.Goals as goal

pub returns : goal.returns
returns g c =
    let b = c.args.self.now in
    rows_alike b.members.table.items b.width b.planes.height b.layers b.origin.value.items b.planes.words.items
    b.touched b.columns b.noted
