use Rattle.std.proofs.Common.{◌*◌}
use Rattle.ps_rows.specs.MixedPlanes.{mixed_planes}
use Rattle.ps_rows.specs.RowDifferences.{LeadBothWays}
use Rattle.ps_rows.proofs.row_differences.add_few.Given as goal

-- the planes passed by have been added
abbrev pub invariant-loop-plane : goal.invariant-loop-plane
invariant-loop-plane g l = LeadBothWays l.height (l.plane * l.height) l.words
    (mixed_planes l.height l.rows l.words l.others) l.found.items
