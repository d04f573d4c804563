use Rattle.std.proofs.Common.{◌≡◌, map, take}
use Rattle.std.specs.List.{concat}
use Rattle.lizhakoven.specs.Places.{slot_number}
use Rattle.lizhakoven.proofs.cells.numbers_of.Given as goal

-- the numbers of the cells passed by are there
abbrev pub invariant-loop-cell : goal.invariant-loop-cell
invariant-loop-cell g l =
    l.numbers.items ≡ concat (map (λ cell. map slot_number cell) (take l.cell (g.B.Board.grid l.board).cells))
