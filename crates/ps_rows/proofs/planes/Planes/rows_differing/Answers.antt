use Rattle.ps_rows.proofs.RowsDiffering.{one_plane_compared}
use Rattle.ps_rows.proofs.planes.Planes.rows_differing.Goals as goal

pub loop-plane-preserved : goal.loop-plane-preserved
loop-plane-preserved g c =
    rw c.either-rows.ensures
    (one_plane_compared c.args.self.now.height c.loop-plane.plane c.loop-plane.rows c.differing_rows.result
    c.args.self.now.words.items c.args.other.now.words.items c.args.self.now.rows c.loop-plane.invariant
    c.differing_rows.ensures)
