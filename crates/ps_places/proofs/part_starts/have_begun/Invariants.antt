use Rattle.std.proofs.Common.{length}
use Rattle.ps_board.specs.ColumnSets.{set_columns}
use Rattle.ps_places.proofs.HaveBegun.{AreNoneBut}
use Rattle.ps_places.proofs.part_starts.have_begun.Given as goal

abbrev pub invariant-loop-row : goal.invariant-loop-row
invariant-loop-row g l = AreNoneBut l.fn.rows l.starts l.left

abbrev pub decreases-loop-row : goal.decreases-loop-row
decreases-loop-row g l = length (set_columns l.left)
