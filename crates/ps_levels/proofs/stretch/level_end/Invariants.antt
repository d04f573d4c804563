use Rattle.std.proofs.Common.{◌≡◌, ◌++◌, true}
use Rattle.std.specs.List.{take_while}
use Rattle.ps_model.specs.session.LevelLines.{is_row, entries_at}
use Rattle.ps_model.specs.text.LineNumbers.{lines_between}
use Rattle.ps_levels.proofs.stretch.level_end.Given as goal

abbrev pub invariant-loop-line : goal.invariant-loop-line
invariant-loop-line l =
    record {
      rows : take_while is_row (lines_between l.source l.fn.lines.start l.fn.lines.end) ≡ lines_between l.source
          l.fn.lines.start l.line ++ take_while is_row (lines_between l.source l.line l.fn.lines.end);
      rest : entries_at true (lines_between l.source l.fn.lines.start l.fn.lines.end) ≡ entries_at true
          (lines_between l.source l.line l.fn.lines.end);
    }
