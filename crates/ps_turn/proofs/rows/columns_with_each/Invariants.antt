use Rattle.std.proofs.Common.{◌≡◌, take}
use Rattle.ps_turn.specs.RowsOfCells.{row_cells, has_each}
use Rattle.ps_turn.proofs.rows.columns_with_each.Given as goal

-- the columns whose cells have each of the objects passed by
abbrev pub invariant-loop-index : goal.invariant-loop-index
invariant-loop-index g l = l.common ≡ row_cells (has_each (take l.index l.objects)) (g.B.Board.grid l.board) l.row
