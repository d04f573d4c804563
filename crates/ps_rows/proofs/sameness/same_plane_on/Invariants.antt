use Rattle.std.proofs.Common.{◌≡◌, ◌+◌, ◌*◌, true, length}
use Rattle.ps_board.specs.ColumnSets.{column_at, set_columns}
use Rattle.ps_board.proofs.Taken.{AreBelow, ArePassed}
use Rattle.ps_rows.specs.Sameness.{AreSameRows}
use Rattle.ps_rows.specs.Planes.{row_of}
use Rattle.ps_rows.proofs.sameness.same_plane_on.Given as goal

-- the rows of the set that aren't left are the same
abbrev pub invariant-loop-row : goal.invariant-loop-row
invariant-loop-row g l =
    record {
      low : AreBelow l.first.height l.left;
      passed : ArePassed
          (λ row. column_at l.fn.rows row ≡ true →
          AreSameRows l.width (row_of l.first.words.items (l.plane * l.first.height + row))
          (row_of l.second.words.items (l.plane * l.first.height + row)))
          l.first.height l.left;
    }

abbrev pub decreases-loop-row : goal.decreases-loop-row
decreases-loop-row g l = length (set_columns l.left)
