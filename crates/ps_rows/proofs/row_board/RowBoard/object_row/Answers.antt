use Rattle.std.proofs.Common.{◌∙◌, sym}
use Rattle.ps_rows.proofs.Scans.{own_row, other_row}
use Rattle.ps_rows.proofs.row_board.RowBoard.object_row.Goals as goal

pub returns-then-is_on : goal.returns-then-is_on
returns-then-is_on g c =
    let b = c.args.self.now in
    own_row b.members.table.items b.width b.planes.height b.layers b.planes.words.items c.args.row b.planes.some_row
    b.columns c.requires c.args.sought.now c.row.result b.objects
    (sym c.is_on.ensures ∙ c.if-is_on.true) c.row.ensures

pub returns : goal.returns
returns g c =
    let b = c.args.self.now in
    rw c.none.ensures
    (other_row b.members.table.items b.width b.planes.height b.layers b.planes.words.items c.args.row b.planes.some_row
    b.columns c.requires c.args.sought.now (sym c.is_on.ensures ∙ c.if-is_on.false))
