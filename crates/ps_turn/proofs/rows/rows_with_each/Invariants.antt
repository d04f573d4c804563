use Rattle.std.proofs.Common.{take}
use Rattle.ps_turn.specs.RowsOfCells.{NonePassOutside, has_each}
use Rattle.ps_turn.proofs.rows.rows_with_each.Given as goal

-- not each of the objects passed by stands on another row
abbrev pub invariant-loop-index : goal.invariant-loop-index
invariant-loop-index g l = NonePassOutside (has_each (take l.index l.objects)) (g.B.Board.grid l.board) l.common
