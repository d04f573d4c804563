use Rattle.std.proofs.Common.{◌≡◌, drop}
use Rattle.ps_rows.specs.Planes.{with_cell_in}
use Rattle.ps_rows.proofs.planes.Planes.choose_plane.Given as goal

-- what is left to do comes to the whole
abbrev pub invariant-loop-plane : goal.invariant-loop-plane
invariant-loop-plane g l =
    (with_cell_in l.initial.self.height l.cell l.chosen l.self.words.items (drop l.plane-index l.planes)
    ≡ with_cell_in l.initial.self.height l.cell l.chosen l.initial.self.words.items l.planes)
    × (l.self.height ≡ l.initial.self.height) × (l.self.words.len ≡ l.initial.self.words.len)
