use Rattle.std.proofs.Common.{◌≡◌, ◌≤◌, ◌-◌}
use Rattle.ps_rows.specs.PlaneCopies.{IsRowCopied}
use Rattle.ps_rows.proofs.planes.Planes.copy_marked_row.Given as goal

-- the row of the planes passed by is the same
abbrev pub invariant-loop-plane : goal.invariant-loop-plane
invariant-loop-plane g l =
    record {
      few : l.plane ≤ l.planes;
      copied : IsRowCopied l.self.height l.plane l.row l.self.words.items l.initial.other.words.items l.other.words.items;
      height : l.other.height ≡ l.self.height;
      count : l.other.words.len ≡ l.self.words.len;
    }

abbrev pub decreases-loop-plane : goal.decreases-loop-plane
decreases-loop-plane g l = l.planes - l.plane
