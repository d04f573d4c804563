use Rattle.std.proofs.Common.{◌≡◌, ◌≤◌, ◌-◌, length, drop}
use Rattle.std.specs.Prelude.{slice_range}
use Rattle.std.specs.Str.{IsCharBoundary}
use Rattle.ps_model.specs.text.Lines.{without_blank_end}
use Rattle.ps_text.proofs.regions.blank_end.Given as goal

abbrev pub invariant-loop-end : goal.invariant-loop-end
invariant-loop-end l =
    record {
      same : length (without_blank_end (slice_range l.line l.from l.end)) ≡ length
          (without_blank_end (drop l.from l.line));
      behind : l.from ≤ l.end;
      cuttable : IsCharBoundary l.line l.end;
    }

abbrev pub decreases-loop-end : goal.decreases-loop-end
decreases-loop-end l = l.end - l.from
