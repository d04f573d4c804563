use Rattle.std.proofs.Common.{◌≡◌, ◌<◌, ℕ, false, length}
use Rattle.ps_model.specs.declared.limits.TheConstants.{SIDE_LIMIT}
use Rattle.ps_board.specs.ColumnSets.{column_at, set_columns}
use Rattle.ps_places.proofs.AlonePlaces.{NotApartOn}
use Rattle.ps_places.proofs.leaving_alone.are_apart.Given as goal

-- no place on the rows that aren't left has another one so many cells behind it
abbrev pub invariant-loop-row : goal.invariant-loop-row
invariant-loop-row g l =
    (row : ℕ) → row < SIDE_LIMIT → column_at l.left row ≡ false →
    NotApartOn l.fn.axis l.fn.rows l.starts l.fn.distance row

abbrev pub decreases-loop-row : goal.decreases-loop-row
decreases-loop-row g l = length (set_columns l.left)
