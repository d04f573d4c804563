use Rattle.std.proofs.Common.{◌≡◌, ◌≤◌, ◌+◌, ◌++◌}
use Rattle.ps_model.specs.text.LineNumbers.{lines_between}
use Rattle.ps_levels.specs.ToldLevels.{told_rows}
use Rattle.ps_levels.proofs.telling_rows.tell_rows.Given as goal

abbrev pub invariant-loop-line : goal.invariant-loop-line
invariant-loop-line l =
    record {
      few : l.place.above + l.fn.lines.start ≤ l.line + 1;
      rest : l.told.items ++ told_rows l.names l.place.width l.place.above
          (lines_between l.source l.line l.fn.lines.end)
          ≡ l.fn.told.items ++ told_rows l.names l.width 1 (lines_between l.source l.fn.lines.start l.fn.lines.end);
    }
