use Rattle.std.proofs.Common.{◌≡◌, length}
use Rattle.ps_board.specs.ColumnSets.{set_columns}
use Rattle.ps_rows.proofs.RowCopies.{AreRowsSoFar}
use Rattle.ps_rows.proofs.planes.Planes.copy_marked_rows.Given as goal

-- of the rows of the set those that aren't left are the same
abbrev pub invariant-loop-row : goal.invariant-loop-row
invariant-loop-row g l =
    record {
      so_far : AreRowsSoFar l.self.height l.planes l.fn.rows l.left l.self.words.items l.initial.other.words.items
          l.other.words.items;
      height : l.other.height ≡ l.self.height;
      count : l.other.words.len ≡ l.self.words.len;
    }

abbrev pub decreases-loop-row : goal.decreases-loop-row
decreases-loop-row g l = length (set_columns l.left)
