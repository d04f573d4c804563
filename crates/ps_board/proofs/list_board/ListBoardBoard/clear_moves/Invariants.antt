use Rattle.std.proofs.Common.{◌≡◌, ◌++◌, map, take, drop}
use Rattle.ps_model.specs.board.Grid.{slot_at_rest}
use Rattle.ps_board.proofs.list_board.ListBoardBoard.clear_moves.Given as goal

-- the slots passed by are at rest
abbrev pub invariant-loop-slot : goal.invariant-loop-slot
invariant-loop-slot l = l.slot-items ≡ map slot_at_rest (take l.slot-index l.initial.slot-items) ++ drop l.slot-index
    l.initial.slot-items
