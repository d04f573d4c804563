use Rattle.std.proofs.Common.{take}
use Rattle.ps_rows.specs.Showing.{grid_shown}
use Rattle.ps_rows.specs.RowTests.{IsRowOf, held_of_each}
use Rattle.ps_rows.proofs.row_board.RowBoard.lists_row.Given as goal

-- the word of those passed by
abbrev pub invariant-loop-objects : goal.invariant-loop-objects
invariant-loop-objects g l =
    IsRowOf (grid_shown l.self.members.table.items l.self.width l.self.planes.height l.self.layers
    l.self.planes.words.items) l.row l.word (held_of_each (take l.objects-index l.lists))
