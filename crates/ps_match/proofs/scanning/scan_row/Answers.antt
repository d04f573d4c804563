use Rattle.std.proofs.Common.{◌∙◌, ◌<◌, ◌+◌, ◌*◌, ℕ, ap}
use Rattle.std.specs.Prelude.{slice_get}
use Rattle.ps_model.specs.board.Grid.{Grid}
use Rattle.ps_model.specs.board.Places.{fits_there}
use Rattle.ps_program.specs.ProgramShown.{mask_shown}
use Rattle.ps_match.specs.InRoom.{meaning_of_mask}
use Rattle.ps_board.proofs.PassedColumns.{scanned-none, scanned-more, cell_below}
use Rattle.ps_match.proofs.Scanned.{row-scanned, fits_at}
use Rattle.ps_match.proofs.scanning.scan_row.Goals as goal

pub loop-column-init : goal.loop-column-init
loop-column-init g c =
    let grid : Grid = g.B.Board.grid c.args.board.now in
    c.none-fitting.ensures ∙ scanned-none (λ x.
    fits_there (meaning_of_mask (mask_shown c.args.mask.now)) (slice_get grid.cells (x * grid.height + c.args.row)))

pub loop-column-preserved : goal.loop-column-preserved
loop-column-preserved g c =
    let grid : Grid = g.B.Board.grid c.args.board.now in
    let column : ℕ = c.loop-column.column in
    let holds = λ (x : ℕ). fits_there (meaning_of_mask (mask_shown c.args.mask.now))
    (slice_get grid.cells (x * grid.height + c.args.row)) in
    let across : column < grid.width = rw (← c.size-width.ensures.width) c.loop-column-test.true in
    let low : column * grid.height + c.args.row < grid.width * grid.height =
    cell_below grid.width grid.height column c.args.row across c.requires in
    c.with-fitting.ensures
    ∙ scanned-more holds c.loop-column.fitting column c.fits_cell-fits.result c.loop-column.invariant
    (c.fits_cell-fits.ensures
    ∙ fits_at grid (mask_shown c.args.mask.now) (column * c.size-width.result.1 + c.args.row)
    (rw (c.size-width.ensures.height, c.size-width.ensures.shape.cells) low)
    ∙ ap (λ (h : ℕ). fits_there (meaning_of_mask (mask_shown c.args.mask.now))
    (slice_get grid.cells (column * h + c.args.row))) c.size-width.ensures.height)

pub returns : goal.returns
returns g c =
    let grid : Grid = g.B.Board.grid c.args.board.now in
    c.loop-column.invariant ∙ row-scanned grid (meaning_of_mask (mask_shown c.args.mask.now)) c.args.row
    c.loop-column.column c.size-width.ensures.shape.cells
    (rw (← c.size-width.ensures.width) c.loop-column-test.false)
