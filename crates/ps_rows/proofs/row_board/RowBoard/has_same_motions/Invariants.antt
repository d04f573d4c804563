use Rattle.std.proofs.Common.{ℕ, ◌+◌, ◌<◌, ◌≤◌}
use Rattle.ps_rows.specs.PlaneTopics.{IsPlaneOfBoth}
use Rattle.ps_rows.proofs.row_board.RowBoard.has_same_motions.Given as goal

-- the planes passed by are the same
abbrev pub invariant-loop-motion : goal.invariant-loop-motion
invariant-loop-motion g l = (plane : ℕ) → l.first ≤ plane → plane < l.first + l.motion →
    IsPlaneOfBoth l.self.planes.height l.self.planes.words.items l.other.planes.words.items plane
