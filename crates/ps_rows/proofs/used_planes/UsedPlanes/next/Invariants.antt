use Rattle.std.proofs.Common.{◌≤◌, ◌*◌, ◌-◌}
use Rattle.ps_board.specs.declared.one_word.TheConstants.{WORD_BITS}
use Rattle.ps_rows.specs.UsedPlanes.{AreNotUsed}
use Rattle.ps_rows.proofs.used_planes.UsedPlanes.next.Given as goal

-- none of the planes of the sets passed by is noted
abbrev pub invariant-loop-place : goal.invariant-loop-place
invariant-loop-place l =
    record {
      few : l.place ≤ l.planes;
      order : l.from ≤ l.place * WORD_BITS;
      none : AreNotUsed l.self.words.items l.other.words.items l.from (l.place * WORD_BITS);
    }

abbrev pub decreases-loop-place : goal.decreases-loop-place
decreases-loop-place l = l.planes - l.place
