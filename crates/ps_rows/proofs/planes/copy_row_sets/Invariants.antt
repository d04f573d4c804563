use Rattle.std.proofs.Common.{◌≡◌, length}
use Rattle.ps_board.specs.ColumnSets.{set_columns}
use Rattle.ps_rows.proofs.RowCopies.{AreRowsSoFar}
use Rattle.ps_rows.proofs.planes.copy_row_sets.Given as goal

-- of the rows of the set those that aren't left are the same
abbrev pub invariant-loop-row : goal.invariant-loop-row
invariant-loop-row g l =
    (AreRowsSoFar l.height l.planes l.fn.rows l.left l.words l.initial.others l.others)
    × (length l.others ≡ length l.initial.others)

abbrev pub decreases-loop-row : goal.decreases-loop-row
decreases-loop-row g l = length (set_columns l.left)
