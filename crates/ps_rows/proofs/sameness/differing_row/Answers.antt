use Rattle.std.proofs.Common.{arith, length, refl}
use Rattle.ps_rows.proofs.Differences.{one_plane_more}
use Rattle.ps_rows.proofs.Passed.{next_enough, own_order}
use Rattle.ps_rows.proofs.sameness.differing_row.Goals as goal

pub loop-plane-init : goal.loop-plane-init
loop-plane-init g c = λ plane x below low none. absurd (omega (arith, below))

pub loop-plane-preserved : goal.loop-plane-preserved
loop-plane-preserved g c =
    rw (c.either-differing.ensures, c.unlike.ensures, c.plane_row-there.ensures, c.plane_row-here.ensures)
    (one_plane_more c.args.height c.args.row c.loop-plane.plane c.args.first.now c.args.second.now
    c.loop-plane.differing c.loop-plane.invariant)

pub plane_row-here-requires-clause-plane : goal.plane_row-here-requires-clause-plane
plane_row-here-requires-clause-plane g c =
    next_enough c.args.height c.loop-plane.plane c.args.planes c.args.planes (length c.args.first.now)
    (length c.args.first.now) c.loop-plane-test.true (own_order c.args.planes) c.requires.first refl

pub plane_row-there-requires-clause-plane : goal.plane_row-there-requires-clause-plane
plane_row-there-requires-clause-plane g c =
    next_enough c.args.height c.loop-plane.plane c.args.planes c.args.planes (length c.args.second.now)
    (length c.args.second.now) c.loop-plane-test.true (own_order c.args.planes) c.requires.second refl
