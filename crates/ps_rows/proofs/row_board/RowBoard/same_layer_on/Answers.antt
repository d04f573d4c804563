use Rattle.std.proofs.Common.{◌∙◌, sym}
use Rattle.ps_rows.proofs.Alike.{other_whole}
use Rattle.ps_rows.proofs.Puts.{planes_whole}
use Rattle.ps_rows.proofs.row_board.RowBoard.same_layer_on.Goals as goal

pub same_planes_on-requires-clause-first : goal.same_planes_on-requires-clause-first
same_planes_on-requires-clause-first g c =
    let b = c.args.self.now in
    rw c.of-objects.ensures (planes_whole b.members.table.items b.layers b.planes.height b.planes.words.items
    c.args.layer (sym b.planes.words.ok.0 ∙ b.whole))

pub same_planes_on-requires-clause-second : goal.same_planes_on-requires-clause-second
same_planes_on-requires-clause-second g c =
    let b = c.args.self.now in
    let o = c.args.other.now in
    rw c.of-objects.ensures
    (planes_whole b.members.table.items b.layers b.planes.height o.planes.words.items c.args.layer
    (other_whole b.members.table.items o.members.table.items b.layers o.layers b.planes.height o.planes.height _
    c.requires.table c.requires.layers c.requires.height (sym o.planes.words.ok.0 ∙ o.whole)))
