use Rattle.std.proofs.Common.{◌≡◌, ◌∙◌, ◌*◌, ◌<◌, ◌++◌, ℕ, List, ap, arith, length, map, sym}
use Rattle.ps_model.specs.board.Grid.{Grid, cell_at}
use Rattle.lizhakoven.specs.Places.{slot_number}
use Rattle.lizhakoven.proofs.ToldCells.{cells_more}
use Rattle.lizhakoven.proofs.cells.numbers_of.Goals as goal

pub loop-cell-preserved : goal.loop-cell-preserved
loop-cell-preserved g c =
    let shown : Grid = g.B.Board.grid c.args.board.now in
    let count : length shown.cells ≡ c.size-width.result.0 * c.size-width.result.1 =
    rw (c.size-width.ensures.width, c.size-width.ensures.height) c.size-width.ensures.shape.cells in
    let within : c.loop-cell.cell < length shown.cells = rw count (omega arith) in
    c.in_ok-add_cell.ensures
    ∙ ap (λ (front : List ℕ). front ++ map slot_number (cell_at shown c.loop-cell.cell)) c.loop-cell.invariant
    ∙ sym (cells_more shown.cells c.loop-cell.cell within)
