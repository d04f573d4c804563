use Rattle.std.proofs.Common.{◌≡◌, length}
use Rattle.ps_rows.specs.PlaneCopies.{IsRowCopied}
use Rattle.ps_rows.proofs.planes.copy_row.Given as goal

-- the row of the planes passed by is the same
abbrev pub invariant-loop-plane : goal.invariant-loop-plane
invariant-loop-plane g l =
    (IsRowCopied l.height l.plane l.row l.words l.initial.others l.others) × (length l.others ≡ length l.initial.others)
