use Rattle.std.proofs.Common.{◌≡◌, ◌<◌, ◌+◌, ◌*◌, ℕ, false, get_or, [], map}
use Rattle.std.specs.Simd.{first_chunks}
use Rattle.ps_model.specs.board.Grid.{object_in}
use Rattle.ps_board.specs.ColumnSets.{column_at}
use Rattle.ps_board.proofs.list_board.ListBoardBoard.differing.Given as goal

-- the cells passed by have the same objects layer by layer, but for those of the set
abbrev pub invariant-loop-column : goal.invariant-loop-column
invariant-loop-column l =
    (column : ℕ) → column < l.column → column_at l.differing column ≡ false →
    map object_in
    (get_or (first_chunks l.self.layers (l.self.width * l.self.height) l.self.slots.items)
    (column * l.self.height + l.row) [])
    ≡ map object_in
    (get_or (first_chunks l.other.layers (l.other.width * l.other.height) l.other.slots.items)
    (column * l.self.height + l.row) [])
