use Rattle.std.proofs.Common.{◌≡◌, ◌<◌, ◌≤◌, ◌-◌, ℕ, Some, false}
use Rattle.std.specs.Prelude.{slice_get}
use Rattle.ps_rows.specs.Planes.{has_cell}
use Rattle.ps_rows.proofs.row_board.RowBoard.object_of_many.Given as goal

-- the planes passed by that are of the layer don't have the cell
abbrev pub invariant-loop-plane : goal.invariant-loop-plane
invariant-loop-plane g l =
    record {
      few : l.plane ≤ l.objects;
      none : (plane : ℕ) → plane < l.plane → slice_get l.self.members.table.items plane ≡ Some l.layer →
          has_cell l.self.planes.height l.self.planes.words.items l.cell plane ≡ false;
    }

abbrev pub decreases-loop-plane : goal.decreases-loop-plane
decreases-loop-plane g l = l.objects - l.plane
