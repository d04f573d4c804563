use Rattle.ps_rows.specs.Showing.{grid_shown}
use Rattle.ps_rows.proofs.LayerChanges.{stays_here}
use Rattle.ps_rows.proofs.row_board.RowBoard.going_row.Goals as goal

pub returns : goal.returns
returns g c =
    let b = c.args.self.now in
    rw c.none.ensures
    (stays_here (grid_shown b.members.table.items b.width b.planes.height b.layers b.planes.words.items) c.args.row
    c.args.layer c.args.each.now c.if-each-layer.false)
