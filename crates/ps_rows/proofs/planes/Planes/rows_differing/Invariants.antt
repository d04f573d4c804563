use Rattle.std.proofs.Common.{◌<◌, ℕ}
use Rattle.ps_rows.specs.Sameness.{DifferOnlyOnRows}
use Rattle.ps_rows.proofs.planes.Planes.rows_differing.Given as goal

-- the planes passed by
abbrev pub invariant-loop-plane : goal.invariant-loop-plane
invariant-loop-plane g l =
    (plane : ℕ) → plane < l.plane → DifferOnlyOnRows l.self.height plane l.self.words.items l.other.words.items l.rows
