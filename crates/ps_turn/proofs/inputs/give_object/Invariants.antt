use Rattle.std.proofs.Common.{◌≡◌, [], ◌∷◌, length, map}
use Rattle.ps_model.specs.board.Grid.{Grid}
use Rattle.ps_board.specs.ColumnSets.{set_columns}
use Rattle.ps_board.proofs.Taken.{AreBelow, ArePassed}
use Rattle.ps_turn.specs.Sweeps.{AreChanged, IsRowChanged, slot_set_moving}
use Rattle.ps_turn.proofs.inputs.give_object.Given as goal

-- the cells of the rows that aren't left have the motion, and there is room as before
abbrev pub invariant-loop-row : goal.invariant-loop-row
invariant-loop-row g l =
    let start : Grid = g.B.Board.grid l.fn.board in
    let now : Grid = g.B.Board.grid l.board in
    record {
      changed : AreChanged (map (slot_set_moving (l.object ∷ []) l.motion)) start now;
      low : AreBelow start.height l.left;
      passed : ArePassed (IsRowChanged (map (slot_set_moving (l.object ∷ []) l.motion)) start now) start.height l.left;
      table : g.B.Board.table l.board ≡ g.B.Board.table l.fn.board;
      origin : g.B.Board.origin l.board ≡ g.B.Board.origin l.fn.board;
    }

abbrev pub decreases-loop-row : goal.decreases-loop-row
decreases-loop-row g l = length (set_columns l.left)
