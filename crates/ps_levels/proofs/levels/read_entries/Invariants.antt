use Rattle.std.proofs.Common.{◌≡◌, ◌≤◌, ◌-◌, ◌++◌, length}
use Rattle.ps_model.specs.session.LevelFaults.{entries_faults}
use Rattle.ps_model.specs.session.LevelLines.{entry_lines, entries_read}
use Rattle.ps_model.specs.text.LineNumbers.{lines_between}
use Rattle.std.specs.Prelude.{All}
use Rattle.ps_levels.specs.Sized.{HasColumn}
use Rattle.ps_levels.specs.EntriesShown.{entries_shown}
use Rattle.ps_levels.proofs.levels.read_entries.Given as goal

abbrev pub invariant-loop-line : goal.invariant-loop-line
invariant-loop-line l =
    record {
      behind : l.fn.lines.start ≤ l.line;
      within : l.line ≤ l.fn.lines.end;
      part : entries_shown l.entries.items ++ entries_read l.names (lines_between l.source l.line l.fn.lines.end) ≡
          entries_read l.names (lines_between l.source l.fn.lines.start l.fn.lines.end);
      columns : All HasColumn (entries_shown l.entries.items);
      fine :
          entries_faults l.names (length l.entries.items) (entry_lines (lines_between l.source l.line l.fn.lines.end))
          ≡ entries_faults l.names 0 (entry_lines (lines_between l.source l.fn.lines.start l.fn.lines.end));
    }

abbrev pub decreases-loop-line : goal.decreases-loop-line
decreases-loop-line l = l.fn.lines.end - l.line
