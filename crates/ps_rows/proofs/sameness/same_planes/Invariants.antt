use Rattle.std.proofs.Common.{take}
use Rattle.ps_rows.specs.Sameness.{AreSamePlanes}
use Rattle.ps_rows.proofs.sameness.same_planes.Given as goal

-- the planes passed by are the same
abbrev pub invariant-loop-plane : goal.invariant-loop-plane
invariant-loop-plane g l = AreSamePlanes l.width l.first.height l.first.words.items l.second.words.items
    (take l.plane-index l.planes)
