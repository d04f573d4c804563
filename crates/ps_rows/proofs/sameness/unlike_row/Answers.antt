use Rattle.ps_rows.proofs.Unlike.{nothing_unlike, one_more_unlike}
use Rattle.ps_rows.proofs.sameness.unlike_row.Goals as goal

pub loop-plane-init : goal.loop-plane-init
loop-plane-init g c =
    rw c.none-unlike.ensures (nothing_unlike c.args.planes.now.height c.args.row c.args.column
    c.args.planes.now.words.items c.args.all)

pub loop-plane-preserved : goal.loop-plane-preserved
loop-plane-preserved g c =
    let p = c.args.planes.now in
    rw c.either-unlike.ensures
    (one_more_unlike p.height c.args.row c.loop-plane.plane c.args.column c.args.all c.loop-plane.unlike
    c.unlike_in.result p.words.items c.requires.column c.loop-plane.invariant c.unlike_in.ensures)
