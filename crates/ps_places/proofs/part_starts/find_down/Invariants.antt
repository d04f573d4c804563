use Rattle.std.proofs.Common.{◌≡◌, ◌+◌, ◌<◌, ◌≤◌, ℕ, [], length}
use Rattle.std.specs.Prelude.{slice_index_or}
use Rattle.ps_places.proofs.PartColumns.{AreLeftDown}
use Rattle.ps_places.proofs.part_starts.find_down.Given as goal

-- the columns that are left of each row, and what the part still lacks there
abbrev pub invariant-loop-number : goal.invariant-loop-number
invariant-loop-number g l =
    record {
      left : (k : ℕ) → k < length l.starts →
          AreLeftDown (g.B.Board.grid l.board) (g.B.Board.table l.board) l.part (l.first + k)
          (slice_index_or l.starts k []) l.number;
      long : length l.starts ≡ length l.fn.starts;
      room : length l.scanned ≡ length l.fn.starts;
      some : 1 ≤ l.number;
    }
