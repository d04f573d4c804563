use Rattle.std.proofs.Common.{◌≡◌, ◌≤◌, ◌<◌, ℕ, [], length}
use Rattle.std.specs.Prelude.{slice_index_or}
use Rattle.ps_board.specs.ColumnSets.{both_columns, columns_behind}
use Rattle.ps_places.proofs.part_starts.keep_behind.Given as goal

-- the sets passed by are done, and the others as they were
abbrev pub invariant-loop-place : goal.invariant-loop-place
invariant-loop-place g l =
    record {
      done : (k : ℕ) → k < l.place →
          slice_index_or l.kept k [] ≡ both_columns (slice_index_or l.fn.kept k [])
          (columns_behind (slice_index_or l.others k []) l.steps);
      left : (k : ℕ) → l.place ≤ k → slice_index_or l.kept k [] ≡ slice_index_or l.fn.kept k [];
      long : length l.kept ≡ length l.fn.kept;
    }
