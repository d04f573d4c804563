use Rattle.std.proofs.Common.{◌+◌, ◌*◌, ◌∙◌, ℕ, Bool, sym}
use Rattle.std.specs.Prelude.{slice_get}
use Rattle.ps_model.specs.board.Places.{fits_there}
use Rattle.ps_program.specs.ProgramShown.{mask_shown}
use Rattle.ps_match.specs.InRoom.{meaning_of_mask}
use Rattle.ps_rows.specs.Showing.{cells_shown}
use Rattle.ps_rows.proofs.Rows.{row_told}
use Rattle.ps_board.specs.ColumnSets.{column_at}
use Rattle.ps_board.proofs.ColumnLaws.{columns-agree}
use Rattle.ps_rows.proofs.row_scan.RowBoardScan.scan.Goals as goal

pub returns : goal.returns
returns g c =
    let b = c.args.self.now in
    let mask = mask_shown c.args.mask.now in
    let fits : ℕ → Bool =
    λ x. fits_there (meaning_of_mask mask) (slice_get
    (cells_shown b.members.table.items b.layers b.planes.height b.planes.words.items (b.width * b.planes.height))
    (x * b.planes.height + c.args.row)) in
    sym c.mask_row.ensures.set
    ∙ columns-agree (column_at c.mask_row.result) fits
    (row_told b.members.table.items b.width b.planes.height b.layers b.planes.words.items c.args.row c.requires mask
    c.mask_row.result c.mask_row.ensures.inside c.mask_row.ensures.within)
