use Rattle.std.proofs.Common.{◌≡◌, ◌+◌, ◌*◌, ◌<◌, ℕ, false, length, option_map}
use Rattle.ps_model.specs.board.Grid.{Grid, cell_at}
use Rattle.ps_board.specs.ColumnSets.{set_columns}
use Rattle.ps_board.proofs.Taken.{AreBelow, ArePassed}
use Rattle.ps_names.specs.Shown.{meaning_shown}
use Rattle.ps_turn.specs.RowsOfCells.{is_met}
use Rattle.ps_turn.proofs.winning.some_met.Given as goal

-- no cell of the rows that aren't left decides it
abbrev pub invariant-loop-row : goal.invariant-loop-row
invariant-loop-row g l =
    let grid : Grid = g.B.Board.grid l.board in
    record {
      low : AreBelow grid.height l.left;
      passed : ArePassed (λ row. (x : ℕ) → x < grid.width →
          is_met (meaning_shown l.win.subject) (option_map meaning_shown l.win.place)
          (cell_at grid (x * grid.height + row)) ≡ false) grid.height l.left;
    }

abbrev pub decreases-loop-row : goal.decreases-loop-row
decreases-loop-row g l = length (set_columns l.left)
