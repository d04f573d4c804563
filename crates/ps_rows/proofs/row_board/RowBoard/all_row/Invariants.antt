use Rattle.std.proofs.Common.{take}
use Rattle.ps_rows.specs.Showing.{grid_shown}
use Rattle.ps_rows.specs.RowTests.{IsRowOf, IsWithin, held_all}
use Rattle.ps_rows.proofs.row_board.RowBoard.all_row.Given as goal

-- the word of those passed by
abbrev pub invariant-loop-sought : goal.invariant-loop-sought
invariant-loop-sought g l =
    record {
      inside : IsRowOf (grid_shown l.self.members.table.items l.self.width l.self.planes.height l.self.layers
          l.self.planes.words.items) l.row l.word (held_all (take l.sought-index l.objects));
      within : IsWithin (grid_shown l.self.members.table.items l.self.width l.self.planes.height l.self.layers
          l.self.planes.words.items) l.word;
    }
