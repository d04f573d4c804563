use Rattle.std.proofs.Common.{◌<◌, ℕ}
use Rattle.ps_places.specs.LeavingAlone.{ApartLieAlone}
use Rattle.ps_places.proofs.leaving_alone.independent_places.Given as goal

-- places that begin fewer cells apart than this leave each other alone
abbrev pub invariant-loop-distance : goal.invariant-loop-distance
invariant-loop-distance g l =
    (distance : ℕ) → 0 < distance → distance < l.distance → ApartLieAlone l.fn.axis l.part l.fn.rows l.starts distance
