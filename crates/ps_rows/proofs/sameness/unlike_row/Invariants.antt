use Rattle.ps_rows.specs.Sameness.{HasUnlikeOf}
use Rattle.ps_rows.proofs.sameness.unlike_row.Given as goal

-- the columns of the planes passed by
abbrev pub invariant-loop-plane : goal.invariant-loop-plane
invariant-loop-plane g l = HasUnlikeOf l.planes.height l.row l.plane l.planes.words.items l.all l.column l.unlike
