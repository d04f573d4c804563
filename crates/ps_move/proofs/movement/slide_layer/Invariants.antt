use Rattle.std.proofs.Common.{◌≡◌, ◌<◌, ℕ, false, length}
use Rattle.ps_model.specs.board.Grid.{Grid}
use Rattle.ps_board.specs.ColumnSets.{column_at, set_columns}
use Rattle.ps_board.proofs.Taken.{AreBelow}
use Rattle.ps_move.specs.Parts.{IsPart, IsStuckRow}
use Rattle.ps_move.proofs.movement.slide_layer.Given as goal

-- in the rows that aren't left nothing can go
abbrev pub invariant-loop-row : goal.invariant-loop-row
invariant-loop-row g l =
    let old : Grid = g.B.Board.grid l.fn.board in
    let now : Grid = g.B.Board.grid l.board in
    record {
      part : IsPart l.passes old now l.fn.layer.0;
      below : AreBelow old.height l.left;
      stuck : (row : ℕ) → row < old.height → column_at l.left row ≡ false → IsStuckRow now l.fn.layer.0 row;
      table : g.B.Board.table l.board ≡ g.B.Board.table l.fn.board;
      origin : g.B.Board.origin l.board ≡ g.B.Board.origin l.fn.board;
    }

abbrev pub decreases-loop-row : goal.decreases-loop-row
decreases-loop-row g l = length (set_columns l.left)
