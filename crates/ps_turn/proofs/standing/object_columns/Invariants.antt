use Rattle.std.proofs.Common.{◌≡◌, ◌+◌, ◌*◌, ◌<◌, ℕ, take}
use Rattle.std.specs.List.{list_any}
use Rattle.ps_model.specs.board.Grid.{Grid, cell_at}
use Rattle.ps_model.specs.meaning.Compiled.{slot_holds}
use Rattle.ps_board.specs.ColumnSets.{column_at, columns_where}
use Rattle.ps_board.proofs.Taken.{AreBelow}
use Rattle.ps_turn.proofs.standing.object_columns.Given as goal

-- the columns in which the object stands on a layer passed by, none of them beyond the last one
abbrev pub invariant-loop-layer : goal.invariant-loop-layer
invariant-loop-layer g l =
    let grid : Grid = g.B.Board.grid l.board in
    record {
      here : (x : ℕ) → x < grid.width → column_at l.holding x ≡ list_any (slot_holds l.object)
          (take l.layer (cell_at grid (x * grid.height + l.row)));
      below : AreBelow grid.width l.holding;
      set : l.holding ≡ columns_where (column_at l.holding);
    }
