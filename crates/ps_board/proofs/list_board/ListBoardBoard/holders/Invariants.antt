use Rattle.std.proofs.Common.{◌≡◌, ◌+◌, ◌*◌}
use Rattle.ps_model.specs.meaning.Compiled.{slot_holds}
use Rattle.ps_board.proofs.PassedColumns.{scanned}
use Rattle.ps_board.proofs.RowsPassed.{slot_in}
use Rattle.ps_board.proofs.list_board.ListBoardBoard.holders.Given as goal

-- the slots that pass, of the columns passed by
abbrev pub invariant-loop-column : goal.invariant-loop-column
invariant-loop-column l =
    l.holding
    ≡ scanned (λ x. slot_holds l.object (slot_in l.self.layers (l.self.width * l.self.height) l.self.slots.items
    (x * l.self.height + l.row) l.layer.0)) l.column
