use Rattle.std.proofs.Common.{◌≤◌, ◌-◌}
use Rattle.ps_rows.specs.Sameness.{HasDifferences}
use Rattle.ps_rows.proofs.planes.Planes.differing_in.Given as goal

-- the differences of the planes passed by
abbrev pub invariant-loop-plane : goal.invariant-loop-plane
invariant-loop-plane g l =
    record {
      few : l.plane ≤ l.planes;
      differ : HasDifferences l.self.height l.row l.plane l.self.words.items l.other.words.items l.differing;
    }

abbrev pub decreases-loop-plane : goal.decreases-loop-plane
decreases-loop-plane g l = l.planes - l.plane
