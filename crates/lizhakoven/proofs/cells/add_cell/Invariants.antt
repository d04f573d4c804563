use Rattle.std.proofs.Common.{◌≡◌, ◌++◌, map, take}
use Rattle.ps_model.specs.board.Grid.{cell_at}
use Rattle.lizhakoven.specs.Places.{slot_number}
use Rattle.lizhakoven.proofs.cells.add_cell.Given as goal

-- the numbers of the layers passed by are added
abbrev pub invariant-loop-layer : goal.invariant-loop-layer
invariant-loop-layer g l = l.numbers.items ≡ l.initial.numbers.items
    ++ map slot_number (take l.layer (cell_at (g.B.Board.grid l.board) l.cell))
