use Rattle.std.proofs.Common.{◌≡◌, []}
use Rattle.ps_rows.specs.PlaneCopies.{ArePlanesOf}
use Rattle.ps_rows.proofs.planes.Planes.clear_from.Given as goal

-- the planes passed by are cleared
abbrev pub invariant-loop-plane : goal.invariant-loop-plane
invariant-loop-plane g l =
    (ArePlanesOf l.initial.self.height l.first l.plane [] l.initial.self.words.items l.self.words.items) ×
    (l.self.height ≡ l.initial.self.height)
    × (l.self.words.len ≡ l.initial.self.words.len) × (l.self.index.len ≡ l.initial.self.index.len)
