use Rattle.std.proofs.Common.{◌≡◌, ◌≤◌, ◌-◌}
use Rattle.ps_rows.specs.PlaneCopies.{ArePlanesOf}
use Rattle.ps_rows.proofs.planes.Planes.copy_marked.Given as goal

-- the planes passed by are the same
abbrev pub invariant-loop-plane : goal.invariant-loop-plane
invariant-loop-plane g l =
    record {
      few : l.plane ≤ l.planes;
      copied : ArePlanesOf l.self.height 0 l.plane l.self.words.items l.initial.other.words.items l.other.words.items;
      height : l.other.height ≡ l.self.height;
      count : l.other.words.len ≡ l.self.words.len;
      uses : l.other.used.words.items ≡ l.initial.other.used.words.items;
    }

abbrev pub decreases-loop-plane : goal.decreases-loop-plane
decreases-loop-plane g l = l.planes - l.plane
