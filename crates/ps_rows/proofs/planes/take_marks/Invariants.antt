use Rattle.std.proofs.Common.{◌≡◌, length}
use Rattle.ps_rows.specs.PlaneCopies.{AreMarksTaken}
use Rattle.ps_rows.proofs.planes.take_marks.Given as goal

-- the marks of the planes passed by are taken
abbrev pub invariant-loop-plane : goal.invariant-loop-plane
invariant-loop-plane g l =
    (AreMarksTaken l.plane l.rows l.index l.initial.others l.others) × (length l.others ≡ length l.initial.others)
