use Rattle.std.proofs.Common.{◌≡◌, ◌*◌, ◌/◌, ◌%◌, ◌<◌, ◌∙◌, ℕ, ap}
use Rattle.std.specs.Prelude.{slice_get}
use Rattle.std.proofs.lemmas.Nat.{div-add-mod', mod_below}
use Rattle.ps_model.specs.board.Places.{fits_there}
use Rattle.ps_program.specs.ProgramShown.{mask_shown}
use Rattle.ps_match.specs.InRoom.{meaning_of_mask}
use Rattle.ps_rows.specs.Showing.{cells_shown}
use Rattle.ps_rows.proofs.Rows.{row_told}
use Rattle.ps_rows.proofs.Whole.{columns_low}
use Rattle.ps_board.specs.ColumnSets.{column_at}
use Rattle.ps_model.specs.declared.limits.TheConstants.{SIDE_LIMIT}
use Rattle.ps_rows.proofs.row_scan.RowBoardScan.fits.Goals as goal

pub returns : goal.returns
returns g c =
    let b = c.args.self.now in
    let mask = mask_shown c.args.mask.now in
    let cell : ℕ = c.args.cell in
    let within = rw (c.size-width.ensures.width, c.size-width.ensures.height) at c.if-width-height.false in
    let told = rw c.size-width.ensures.height at c.mask_row.ensures.inside in
    let column : cell / c.size-width.result.1 ≡ cell / b.planes.height =
    ap (λ (n : ℕ). cell / n) c.size-width.ensures.height in
    let low : cell / b.planes.height < SIDE_LIMIT =
    columns_low b.width b.planes.height b.planes.some_row b.columns cell within in
    c.has.ensures ∙ ap (column_at c.mask_row.result) column
    ∙ row_told b.members.table.items b.width b.planes.height b.layers b.planes.words.items (cell % b.planes.height)
    (mod_below cell b.planes.height b.planes.some_row) mask c.mask_row.result told c.mask_row.ensures.within
    (cell / b.planes.height) low
    ∙ ap (λ (n : ℕ). fits_there (meaning_of_mask mask)
    (slice_get (cells_shown b.members.table.items b.layers b.planes.height b.planes.words.items
    (b.width * b.planes.height)) n)) (div-add-mod' cell b.planes.height)
