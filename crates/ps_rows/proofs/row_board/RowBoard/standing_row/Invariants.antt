use Rattle.std.proofs.Common.{◌≡◌, ℕ, take, ◌<◌}
use Rattle.std.specs.List.{list_any}
use Rattle.ps_rows.proofs.LayerChanges.{has_at}
use Rattle.ps_board.specs.ColumnSets.{column_at}
use Rattle.ps_model.specs.declared.limits.TheConstants.{SIDE_LIMIT}
use Rattle.ps_rows.proofs.row_board.RowBoard.standing_row.Given as goal

-- the columns that one of the planes passed by has
abbrev pub invariant-loop-plane : goal.invariant-loop-plane
invariant-loop-plane g l = (x : ℕ) → x < SIDE_LIMIT →
    column_at l.word x ≡ list_any (has_at l.self.planes.height l.row l.self.planes.words.items x)
    (take l.plane-index l.plane-items)
