use Rattle.std.proofs.Common.{◌<◌, ◌≤◌, ℕ}
use Rattle.ps_board.specs.ColumnSets.{no_columns}
use Rattle.ps_rows.specs.Sameness.{DifferOnlyOnRows}
use Rattle.ps_rows.proofs.planes.Planes.planes_marked.Given as goal

-- the planes from the count on have no marked row
abbrev pub invariant-loop-count : goal.invariant-loop-count
invariant-loop-count g l =
    record {
      few : l.count ≤ l.planes;
      same : (plane : ℕ) → l.count ≤ plane → plane < l.planes →
          DifferOnlyOnRows l.self.height plane l.self.words.items l.other.words.items no_columns;
    }

abbrev pub decreases-loop-count : goal.decreases-loop-count
decreases-loop-count g l = l.count
