use Rattle.std.proofs.Common.{◌≡◌, ◌<◌, ◌≤◌, ℕ, false}
use Rattle.ps_model.specs.declared.limits.TheConstants.{SIDE_LIMIT}
use Rattle.ps_board.specs.ColumnSets.{column_at}
use Rattle.ps_rows.specs.Planes.{row_of}
use Rattle.ps_rows.proofs.planes.Planes.rows_from.Given as goal

-- what a plane passed by has marked is in the set
abbrev pub invariant-loop-plane : goal.invariant-loop-plane
invariant-loop-plane g l =
    (plane row : ℕ) → l.first ≤ plane → plane < l.plane → row < SIDE_LIMIT → column_at l.marked row ≡ false →
    column_at (row_of l.self.index.items plane) row ≡ false
