use Rattle.std.proofs.Common.{◌≡◌, drop}
use Rattle.std.specs.Prelude.{find}
use Rattle.ps_rows.specs.Planes.{has_cell}
use Rattle.ps_rows.proofs.planes.Planes.first_plane.Given as goal

-- none of the planes passed by has the cell
abbrev pub invariant-loop-plane : goal.invariant-loop-plane
invariant-loop-plane g l =
    find (has_cell l.self.height l.self.words.items l.cell) (drop l.plane-index l.planes) ≡ find
    (has_cell l.self.height l.self.words.items l.cell) l.planes
