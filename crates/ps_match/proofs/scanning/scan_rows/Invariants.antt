use Rattle.std.proofs.Common.{◌≡◌, ◌+◌, ◌<◌, ℕ, [], length}
use Rattle.std.specs.Prelude.{slice_index_or}
use Rattle.ps_board.specs.ColumnSets.{row_fits}
use Rattle.ps_program.specs.ProgramShown.{mask_shown}
use Rattle.ps_match.specs.InRoom.{meaning_of_mask}
use Rattle.ps_match.proofs.scanning.scan_rows.Given as goal

-- the rows passed by are scanned
abbrev pub invariant-loop-step : goal.invariant-loop-step
invariant-loop-step g l =
    record {
      found : (k : ℕ) → k < l.step →
          slice_index_or l.found k []
          ≡ row_fits (g.B.Board.grid l.board) (meaning_of_mask (mask_shown l.mask)) (l.fn.first + k);
      long : length l.found ≡ length l.fn.found;
    }
