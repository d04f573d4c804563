use Rattle.std.proofs.Common.{◌+◌, ◌*◌, ◌<◌, ◌≤◌, ◌∙◌, sym, length, get_or, arith}
use Rattle.ps_rows.specs.Planes.{has_cell}
use Rattle.ps_rows.proofs.Marks.{listed_at}
use Rattle.ps_rows.proofs.Steps.{found_here, found_behind}
use Rattle.ps_rows.proofs.planes.Planes.first_plane.Goals as goal

pub has_cell-requires : goal.has_cell-requires
has_cell-requires g c =
    let below : c.loop-plane.plane-index < length c.args.planes.now = omega arith in
    let whole : (get_or c.args.planes.now c.loop-plane.plane-index 0 + 1) * c.args.self.now.height ≤ length
    c.args.self.now.words.items =
    c.requires (get_or c.args.planes.now c.loop-plane.plane-index 0)
    (listed_at c.args.planes.now c.loop-plane.plane-index 0 below) in
    omega (arith, whole, c.args.self.now.words.ok.0)

pub returns-then-has_cell : goal.returns-then-has_cell
returns-then-has_cell g c =
    let below : c.loop-plane.plane-index < length c.args.planes.now = omega arith in
    found_here (has_cell c.args.self.now.height c.args.self.now.words.items c.args.cell) c.args.planes.now
    c.loop-plane.plane-index below (sym c.has_cell.ensures ∙ c.if-has_cell.true) c.loop-plane.invariant

pub loop-plane-preserved : goal.loop-plane-preserved
loop-plane-preserved g c =
    let below : c.loop-plane.plane-index < length c.args.planes.now = omega arith in
    found_behind (has_cell c.args.self.now.height c.args.self.now.words.items c.args.cell) c.args.planes.now
    c.loop-plane.plane-index below (sym c.has_cell.ensures ∙ c.if-has_cell.false) c.loop-plane.invariant
