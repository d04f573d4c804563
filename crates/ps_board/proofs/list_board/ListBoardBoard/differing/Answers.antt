use Rattle.std.proofs.Common.{◌≡◌, ◌+◌, ◌*◌, ◌<◌, ℕ, get_or, [], map, arith}
use Rattle.std.specs.Simd.{first_chunks}
use Rattle.ps_model.specs.board.Grid.{object_in}
use Rattle.ps_model.specs.declared.limits.TheConstants.{SIDE_LIMIT}
use Rattle.ps_board.proofs.Differing.{one_differs}
use Rattle.ps_board.proofs.list_board.ListBoardBoard.differing.Goals as goal

pub loop-column-preserved : goal.loop-column-preserved
loop-column-preserved c =
    let b = c.args.self.now in
    let o = c.args.other.now in
    let same : ℕ → Type 0 = λ column.
    map object_in
    (get_or (first_chunks b.layers (b.width * b.height) b.slots.items) (column * b.height + c.args.row) [])
    ≡ map object_in
    (get_or (first_chunks o.layers (o.width * o.height) o.slots.items) (column * b.height + c.args.row) []) in
    let low : c.loop-column.column < SIDE_LIMIT = omega (arith, c.loop-column-test.true, b.columns) in
    rw c.with-differing.ensures
    (one_differs same c.loop-column.differing c.loop-column.column c.same_cell-same.result low c.same_cell-same.ensures
    c.loop-column.invariant)
