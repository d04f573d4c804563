use Rattle.std.proofs.Common.{◌≡◌, ◌+◌, ◌*◌}
use Rattle.ps_board.specs.RowsOfGrids.{is_moving}
use Rattle.ps_board.proofs.PassedColumns.{scanned}
use Rattle.ps_board.proofs.RowsPassed.{slot_in}
use Rattle.ps_board.proofs.list_board.ListBoardBoard.movers.Given as goal

-- the slots that pass, of the columns passed by
abbrev pub invariant-loop-column : goal.invariant-loop-column
invariant-loop-column l =
    l.moving
    ≡ scanned (λ x. is_moving (slot_in l.self.layers (l.self.width * l.self.height) l.self.slots.items
    (x * l.self.height + l.row) l.layer.0)) l.column
