use Rattle.std.proofs.Common.{◌≡◌, ◌≤◌, ◌-◌, ◌+◌, ◌++◌, ◌||◌}
use Rattle.std.specs.List.{list_any}
use Rattle.ps_model.specs.session.LevelFaults.{are_level_lines}
use Rattle.ps_model.specs.session.LevelLines.{entry_lines}
use Rattle.ps_model.specs.text.LineNumbers.{lines_between}
use Rattle.ps_levels.specs.ToldLevels.{told_entries}
use Rattle.ps_levels.proofs.telling_levels.told_by.Given as goal

abbrev pub invariant-loop-place : goal.invariant-loop-place
invariant-loop-place l =
    record {
      behind : l.fn.lines.start ≤ l.place.line;
      within : l.place.line ≤ l.fn.lines.end;
      few : l.place.above + l.fn.lines.start ≤ l.place.line;
      rest : l.told.items ++ told_entries l.names l.place.above
          (entry_lines (lines_between l.source l.place.line l.fn.lines.end))
          ≡ told_entries l.names 0 (entry_lines (lines_between l.source l.fn.lines.start l.fn.lines.end));
      level : (l.place.has_level || list_any are_level_lines
          (entry_lines (lines_between l.source l.place.line l.fn.lines.end)))
          ≡ list_any are_level_lines (entry_lines (lines_between l.source l.fn.lines.start l.fn.lines.end));
    }

abbrev pub decreases-loop-place : goal.decreases-loop-place
decreases-loop-place l = l.fn.lines.end - l.place.line
