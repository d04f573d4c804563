use Rattle.std.proofs.Common.{◌≡◌, length}
use Rattle.ps_board.specs.ColumnSets.{set_columns}
use Rattle.ps_rows.proofs.RowsCleared.{AreRowsCleared}
use Rattle.ps_rows.proofs.planes.clear_marked_rows.Given as goal

-- the rows that aren't left are cleared
abbrev pub invariant-loop-row : goal.invariant-loop-row
invariant-loop-row g l =
    (AreRowsCleared l.height l.plane l.left l.initial.words l.words) × (length l.words ≡ length l.initial.words)

abbrev pub decreases-loop-row : goal.decreases-loop-row
decreases-loop-row g l = length (set_columns l.left)
