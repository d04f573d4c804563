use Rattle.ps_rows.specs.Sameness.{HasDifferences}
use Rattle.ps_rows.proofs.sameness.differing_row.Given as goal

-- the differences of the planes passed by
abbrev pub invariant-loop-plane : goal.invariant-loop-plane
invariant-loop-plane g l = HasDifferences l.height l.row l.plane l.first l.second l.differing
