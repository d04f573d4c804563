use Rattle.std.proofs.Common.{◌≡◌, ◌+◌, ◌*◌, ◌<◌, ℕ, false, length}
use Rattle.ps_model.specs.board.Grid.{Grid}
use Rattle.ps_board.specs.ColumnSets.{set_columns}
use Rattle.ps_board.proofs.Taken.{AreBelow, ArePassed}
use Rattle.ps_turn.specs.RowsOfCells.{has_player_at}
use Rattle.ps_turn.proofs.players.is_there.Given as goal

-- none in the rows that aren't left
abbrev pub invariant-loop-row : goal.invariant-loop-row
invariant-loop-row g l =
    let grid : Grid = g.B.Board.grid l.board in
    record {
      low : AreBelow grid.height l.left;
      passed : ArePassed (λ row. (x : ℕ) → x < grid.width →
          has_player_at l.game.names grid (x * grid.height + row) ≡ false) grid.height l.left;
    }

abbrev pub decreases-loop-row : goal.decreases-loop-row
decreases-loop-row g l = length (set_columns l.left)
