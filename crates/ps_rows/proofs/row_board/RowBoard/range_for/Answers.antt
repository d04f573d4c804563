use Rattle.std.proofs.Common.{◌≡◌, ◌∙◌, ◌<◌, sym, ap, arith}
use Rattle.std.specs.Prelude.{find}
use Rattle.ps_rows.specs.Planes.{has_cell}
use Rattle.ps_rows.specs.Showing.{object_shown}
use Rattle.ps_rows.proofs.Puts.{planes_whole}
use Rattle.ps_rows.proofs.row_board.RowBoard.range_for.Goals as goal

pub returns-then-short-clause-planes : goal.returns-then-short-clause-planes
returns-then-short-clause-planes g c =
    let b = c.args.self.now in
    let short = c.short_range_of-short in
    let some : short.result.start < short.result.end = omega (arith, short.ensures.order, c.if-short.true) in
    rw (short.ensures.objects some)
    (planes_whole b.members.table.items b.layers b.planes.height b.planes.words.items c.args.layer
    (sym b.planes.words.ok.0 ∙ b.whole))

pub returns-then-short-clause-object : goal.returns-then-short-clause-object
unfolding object_shown
returns-then-short-clause-object g c =
    let b = c.args.self.now in
    let short = c.short_range_of-short in
    let some : short.result.start < short.result.end = omega (arith, short.ensures.order, c.if-short.true) in
    ap (find (has_cell b.planes.height b.planes.words.items c.args.cell)) (short.ensures.objects some)
