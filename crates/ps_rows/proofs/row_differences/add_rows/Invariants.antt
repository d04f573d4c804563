use Rattle.std.proofs.Common.{◌≡◌, ◌<◌, ◌≤◌, ℕ, true, length}
use Rattle.ps_model.specs.declared.limits.TheConstants.{SIDE_LIMIT}
use Rattle.ps_board.specs.ColumnSets.{column_at, set_columns}
use Rattle.ps_rows.specs.MixedPlanes.{mixed_planes}
use Rattle.ps_rows.proofs.RowsAdded.{AreAdded}
use Rattle.ps_rows.proofs.row_differences.add_rows.Given as goal

-- the rows before some one are done, and those that are left are in the set
abbrev pub invariant-loop-row : goal.invariant-loop-row
invariant-loop-row g l =
    (next : ℕ) × (next ≤ l.height)
    × AreAdded l.height l.plane next l.left l.words
    (mixed_planes l.height l.fn.rows l.words l.others) l.found.items
    × ((row : ℕ) → row < SIDE_LIMIT → column_at l.left row ≡ true → column_at l.fn.rows row ≡ true)

abbrev pub decreases-loop-row : goal.decreases-loop-row
decreases-loop-row g l = length (set_columns l.left)
