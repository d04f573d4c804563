use Rattle.std.proofs.Common.{arith, nat_eq}
use Rattle.ps_view.proofs.ShownRows.{alike_whole}
use Rattle.ps_view.proofs.cells.alike_characters.Goals as goal

pub returns : goal.returns
returns c =
    alike_whole nat_eq c.args.before.now c.args.row.now c.loop-place.place c.min-shorter.result
    c.min-shorter.ensures (omega arith) c.loop-place.invariant
