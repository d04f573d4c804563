use Rattle.std.proofs.Common.{ℕ, ◌-◌, ◌<◌, ◌≤◌}
use Rattle.ps_rows.specs.Members.{on_layer}
use Rattle.ps_rows.specs.Sameness.{AreSamePlanesOn}
use Rattle.ps_rows.proofs.row_board.RowBoardBoard.same_on.Given as goal

-- the objects of the layers passed by, from the last one on, have the same cells in these rows
abbrev pub invariant-loop-step : goal.invariant-loop-step
invariant-loop-step g l =
    (layer : ℕ) → layer < l.self.layers → l.self.layers - l.step ≤ layer →
    AreSamePlanesOn l.self.width l.self.planes.height l.rows l.self.planes.words.items l.other.planes.words.items
    (on_layer l.self.members.table.items layer)
