use Rattle.std.proofs.Common.{◌*◌, ◌≤◌, ◌-◌}
use Rattle.ps_rows.specs.MixedPlanes.{mixed_planes}
use Rattle.ps_rows.specs.RowDifferences.{LeadBothWays}
use Rattle.ps_rows.proofs.row_differences.add_marked.Given as goal

-- the planes passed by have been added
abbrev pub invariant-loop-plane : goal.invariant-loop-plane
invariant-loop-plane g l =
    record {
      few : l.plane ≤ l.planes;
      lead : LeadBothWays l.first.height (l.plane * l.first.height) l.first.words.items
          (mixed_planes l.first.height l.rows l.first.words.items l.second.words.items) l.found.items;
    }

abbrev pub decreases-loop-plane : goal.decreases-loop-plane
decreases-loop-plane g l = l.planes - l.plane
