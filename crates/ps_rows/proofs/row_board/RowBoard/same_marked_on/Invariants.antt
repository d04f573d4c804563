use Rattle.std.proofs.Common.{◌≡◌, ◌<◌, ◌≤◌, ◌-◌, ℕ, Some, length}
use Rattle.std.specs.Prelude.{slice_get}
use Rattle.ps_rows.specs.Sameness.{IsSamePlaneOn}
use Rattle.ps_rows.proofs.row_board.RowBoard.same_marked_on.Given as goal

-- the objects passed by have the same cells in these rows
abbrev pub invariant-loop-object : goal.invariant-loop-object
invariant-loop-object g l =
    record {
      few : l.object ≤ l.objects;
      same : (object layer : ℕ) → object < l.object → layer < l.self.layers →
          slice_get l.self.members.table.items object ≡ Some layer →
          IsSamePlaneOn l.self.width l.self.planes.height l.rows l.self.planes.words.items l.other.planes.words.items
          object;
    }

abbrev pub decreases-loop-object : goal.decreases-loop-object
decreases-loop-object g l = l.objects - l.object
