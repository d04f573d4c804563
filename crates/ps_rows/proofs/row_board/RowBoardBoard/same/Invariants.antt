use Rattle.std.proofs.Common.{ℕ, ◌-◌, ◌<◌, ◌≤◌}
use Rattle.ps_rows.specs.Sameness.{IsSameLayer}
use Rattle.ps_rows.proofs.row_board.RowBoardBoard.same.Given as goal

-- the layers passed by, from the last one on, are the same
abbrev pub invariant-loop-step : goal.invariant-loop-step
invariant-loop-step g l =
    (layer : ℕ) → layer < l.self.layers → l.self.layers - l.step ≤ layer →
    IsSameLayer l.self.members.table.items l.self.width l.self.planes.height
    l.self.planes.words.items l.other.planes.words.items layer
