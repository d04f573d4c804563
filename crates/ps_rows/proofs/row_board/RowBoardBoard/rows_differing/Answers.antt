use Rattle.std.proofs.Common.{◌≡◌, arith}
use Rattle.std.proofs.lemmas.Option.{same_Some}
use Rattle.ps_rows.proofs.RowsDiffering.{rows_alike}
use Rattle.ps_rows.proofs.row_board.RowBoardBoard.rows_differing.Goals as goal

pub returns : goal.returns
returns g c =
    let b = c.args.self.now in
    let o = c.args.other.now in
    let tables : o.members.table.items ≡ b.members.table.items =
    same_Some o.members.table.items b.members.table.items c.requires.table in
    rw (tables, c.requires.layers, c.requires.height, c.requires.width)
    (rows_alike b.members.table.items b.width b.planes.height b.layers b.planes.words.items o.planes.words.items
    c.rows_differing.result b.columns
    (λ plane below. c.rows_differing.ensures plane (omega (arith, below, c.count-objects.ensures.value))))
