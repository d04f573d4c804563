use Rattle.std.proofs.Common.{◌≡◌, ◌≤◌}
use Rattle.ps_rows.specs.PlaneCopies.{ArePlanesOf}
use Rattle.ps_rows.proofs.planes.Planes.copy_pieces.Given as goal

-- the planes before the first one that is still to be copied are the same
abbrev pub invariant-loop-plane : goal.invariant-loop-plane
invariant-loop-plane g l =
    record {
      order : l.first ≤ l.plane;
      copied : ArePlanesOf l.self.height 0 l.first l.self.words.items l.initial.other.words.items l.other.words.items;
      height : l.other.height ≡ l.self.height;
      count : l.other.words.len ≡ l.self.words.len;
      uses : l.other.used.words.items ≡ l.initial.other.used.words.items;
    }
