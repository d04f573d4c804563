use Rattle.std.proofs.Common.{◌≡◌, ◌≤◌, ◌<◌, ℕ, [], length}
use Rattle.std.specs.Prelude.{slice_index_or}
use Rattle.ps_board.specs.ColumnSets.{columns_without}
use Rattle.ps_rows.proofs.scanning_rows.turn_round.Given as goal

-- the sets passed by are turned round, and the others as they were
abbrev pub invariant-loop-step : goal.invariant-loop-step
invariant-loop-step g l =
    record {
      done : (k : ℕ) → k < l.step →
          slice_index_or l.found k [] ≡ columns_without l.columns (slice_index_or l.fn.found k []);
      left : (k : ℕ) → l.step ≤ k → slice_index_or l.found k [] ≡ slice_index_or l.fn.found k [];
      long : length l.found ≡ length l.fn.found;
    }
