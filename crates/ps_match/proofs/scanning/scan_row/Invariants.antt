use Rattle.std.proofs.Common.{◌≡◌, ◌+◌, ◌*◌}
use Rattle.std.specs.Prelude.{slice_get}
use Rattle.ps_model.specs.board.Places.{fits_there}
use Rattle.ps_program.specs.ProgramShown.{mask_shown}
use Rattle.ps_match.specs.InRoom.{meaning_of_mask}
use Rattle.ps_board.proofs.PassedColumns.{scanned}
use Rattle.ps_match.proofs.scanning.scan_row.Given as goal

-- the cells that fit, of the columns passed by
abbrev pub invariant-loop-column : goal.invariant-loop-column
invariant-loop-column g l =
    let grid = g.B.Board.grid l.board in
    l.fitting ≡ scanned (λ x. fits_there (meaning_of_mask (mask_shown l.mask))
    (slice_get grid.cells (x * grid.height + l.row))) l.column
