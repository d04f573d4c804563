use Rattle.std.proofs.Common.{◌≡◌, take}
use Rattle.std.specs.List.{list_any}
use Rattle.ps_turn.specs.RowsOfCells.{row_cells}
use Rattle.ps_turn.specs.Sweeps.{holds_any}
use Rattle.ps_turn.proofs.standing.columns_with.Given as goal

-- the columns with one of the objects passed by
abbrev pub invariant-loop-index : goal.invariant-loop-index
invariant-loop-index g l = l.holding ≡ row_cells (list_any (holds_any (take l.index l.objects))) (g.B.Board.grid l.board)
    l.row
