use Rattle.std.proofs.Common.{take}
use Rattle.std.specs.List.{list_any}
use Rattle.ps_turn.specs.RowsOfCells.{NonePassOutside}
use Rattle.ps_turn.specs.Sweeps.{holds_any}
use Rattle.ps_turn.proofs.standing.rows_with.Given as goal

-- none of the objects passed by stands on another row
abbrev pub invariant-loop-index : goal.invariant-loop-index
invariant-loop-index g l = NonePassOutside (list_any (holds_any (take l.index l.objects))) (g.B.Board.grid l.board)
    l.rows
