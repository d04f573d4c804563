use Rattle.std.proofs.Common.{ℕ, Bool, length}
use Rattle.ps_model.specs.board.Grid.{Grid}
use Rattle.ps_board.specs.ColumnSets.{set_columns}
use Rattle.ps_board.proofs.Taken.{AreBelow, ArePassed}
use Rattle.ps_turn.specs.FirstCells.{IsFirstOfRow, PassesIfFound}
use Rattle.ps_turn.specs.RowsOfCells.{has_player_at}
use Rattle.ps_turn.proofs.first_player.first_player_cell.Given as goal

-- the first one in the rows that aren't left
abbrev pub invariant-loop-row : goal.invariant-loop-row
invariant-loop-row g l =
    let grid : Grid = g.B.Board.grid l.board in
    let test : ℕ → Bool = has_player_at l.game.names grid in
    record {
      low : AreBelow grid.height l.left;
      passes : PassesIfFound test grid l.first;
      passed : ArePassed (λ row. IsFirstOfRow test grid row l.first) grid.height l.left;
    }

abbrev pub decreases-loop-row : goal.decreases-loop-row
decreases-loop-row g l = length (set_columns l.left)
