use Rattle.std.proofs.Common.{take}
use Rattle.ps_rows.specs.Sameness.{AreSamePlanesOn}
use Rattle.ps_rows.proofs.sameness.same_planes_on.Given as goal

-- the planes passed by have the same cells there
abbrev pub invariant-loop-plane : goal.invariant-loop-plane
invariant-loop-plane g l = AreSamePlanesOn l.width l.first.height l.rows l.first.words.items l.second.words.items
    (take l.plane-index l.planes)
