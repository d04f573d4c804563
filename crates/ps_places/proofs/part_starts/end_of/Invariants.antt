use Rattle.std.proofs.Common.{◌<◌, ◌≤◌}
use Rattle.ps_places.specs.RowsFound.{AreRowsBelow}
use Rattle.ps_places.proofs.part_starts.end_of.Given as goal

-- all rows are below the end
abbrev pub invariant-loop-end : goal.invariant-loop-end
invariant-loop-end g l =
    record {
      rows : AreRowsBelow l.rows l.end;
      first : l.first < l.end;
      below : l.end ≤ l.count;
    }

abbrev pub decreases-loop-end : goal.decreases-loop-end
decreases-loop-end g l = l.end
