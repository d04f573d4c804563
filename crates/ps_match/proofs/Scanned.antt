-- A row of a board scanned column by column.
use Rattle.std.proofs.Common.{◌≡◌, ℕ, ◌+◌, ◌*◌, ◌<◌, ◌≤◌, [], length, sym, ap, arith}
use Rattle.std.specs.Prelude.{slice_get}
use Rattle.std.proofs.lemmas.Option.{slice_get-get_or}
use Rattle.ps_model.specs.board.Grid.{Grid, cell_at}
use Rattle.ps_model.specs.board.Places.{fits_there}
use Rattle.ps_model.specs.meaning.RuleMeanings.{CellMeaning}
use Rattle.ps_model.specs.meaning.Compiled.{CellMask, mask_fits}
use Rattle.ps_match.specs.InRoom.{meaning_of_mask}
use Rattle.ps_board.specs.ColumnSets.{row_fits}
use Rattle.ps_board.proofs.PassedColumns.{scanned, scanned-all, no_cell}

-- the cells of a row that fit, all columns passed by
pub row-scanned : (g : Grid) (meaning : CellMeaning) (row count : ℕ) → length g.cells ≡ g.width * g.height →
    g.width ≤ count →
    scanned (λ x. fits_there meaning (slice_get g.cells (x * g.height + row))) count ≡ row_fits g meaning row
row-scanned g meaning row count many all =
    scanned-all (λ x. fits_there meaning (slice_get g.cells (x * g.height + row))) count (λ x far.
    ap (fits_there meaning) (no_cell g row x many (omega (arith, all, far))))

pub fits_at : (g : Grid) (mask : CellMask) (n : ℕ) → n < length g.cells →
    mask_fits mask (cell_at g n) ≡ fits_there (meaning_of_mask mask) (slice_get g.cells n)
fits_at g mask n low = sym (ap (fits_there (meaning_of_mask mask)) (slice_get-get_or g.cells n [] low))
