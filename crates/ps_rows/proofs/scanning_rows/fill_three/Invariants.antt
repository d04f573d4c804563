use Rattle.std.proofs.Common.{◌≡◌, ◌<◌, ℕ, [], length}
use Rattle.std.specs.Prelude.{slice_index_or}
use Rattle.ps_board.specs.ColumnSets.{both_columns}
use Rattle.ps_rows.proofs.scanning_rows.fill_three.Given as goal

-- the sets passed by are done
abbrev pub invariant-loop-step : goal.invariant-loop-step
invariant-loop-step g l =
    record {
      done : (k : ℕ) → k < l.step → slice_index_or l.found k [] ≡
          both_columns (both_columns l.columns (slice_index_or l.words k [])) (slice_index_or l.others k []);
      long : length l.found ≡ length l.fn.found;
    }
