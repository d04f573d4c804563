use Rattle.std.proofs.Common.{take}
use Rattle.ps_rows.specs.Showing.{grid_shown}
use Rattle.ps_rows.specs.RowTests.{IsRowOf, held_any}
use Rattle.ps_rows.proofs.row_board.RowBoard.any_row.Given as goal

-- the word of those passed by
abbrev pub invariant-loop-sought : goal.invariant-loop-sought
invariant-loop-sought g l =
    IsRowOf (grid_shown l.self.members.table.items l.self.width l.self.planes.height l.self.layers
    l.self.planes.words.items) l.row l.word (held_any (take l.sought-index l.objects))
