use Rattle.std.proofs.Common.{◌≡◌, ◌+◌, ◌*◌, ◌<◌, ℕ, false, length}
use Rattle.ps_model.specs.board.Grid.{Grid}
use Rattle.ps_board.specs.ColumnSets.{column_at, set_columns}
use Rattle.ps_board.proofs.Taken.{AreBelow}
use Rattle.ps_move.specs.Parts.{IsPart, IsStuck}
use Rattle.ps_move.proofs.movement.slide_row.Given as goal

-- in the columns that aren't left nothing can go
abbrev pub invariant-loop-column : goal.invariant-loop-column
invariant-loop-column g l =
    let old : Grid = g.B.Board.grid l.fn.board in
    let now : Grid = g.B.Board.grid l.board in
    record {
      part : IsPart l.passes old now l.fn.layer.0;
      below : AreBelow old.width l.left;
      stuck : (column : ℕ) → column < old.width → column_at l.left column ≡ false →
          IsStuck now l.fn.layer.0 (column * old.height + l.fn.row);
      table : g.B.Board.table l.board ≡ g.B.Board.table l.fn.board;
      origin : g.B.Board.origin l.board ≡ g.B.Board.origin l.fn.board;
    }

abbrev pub decreases-loop-column : goal.decreases-loop-column
decreases-loop-column g l = length (set_columns l.left)
