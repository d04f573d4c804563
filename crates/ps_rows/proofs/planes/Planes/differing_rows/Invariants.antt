use Rattle.std.proofs.Common.{length}
use Rattle.ps_board.specs.ColumnSets.{set_columns}
use Rattle.ps_board.proofs.Taken.{AreBelow}
use Rattle.ps_rows.specs.Sameness.{DifferOnlyOnRows}
use Rattle.ps_rows.proofs.planes.Planes.differing_rows.Given as goal

-- rows outside of the set are the same
abbrev pub invariant-loop-row : goal.invariant-loop-row
invariant-loop-row g l =
    record {
      low : AreBelow l.self.height l.left;
      same : DifferOnlyOnRows l.self.height l.plane l.self.words.items l.other.words.items l.rows;
    }

abbrev pub decreases-loop-row : goal.decreases-loop-row
decreases-loop-row g l = length (set_columns l.left)
