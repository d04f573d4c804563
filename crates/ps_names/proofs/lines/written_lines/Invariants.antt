use Rattle.std.proofs.Common.{◌≡◌, ◌++◌, ◌≤◌, length, drop}
use Rattle.ps_model.specs.text.WrittenLines.{written_lines}
use Rattle.ps_names.specs.LinesThere.{lines_at}
use Rattle.ps_names.specs.LinesShown.{lines_shown}
use Rattle.ps_names.proofs.lines.written_lines.Given as goal

abbrev pub invariant-loop-line : goal.invariant-loop-line
invariant-loop-line l =
    record {
      few : length l.made.items ≤ l.line-index;
      lines : lines_shown l.made.items ++ written_lines l.cut (lines_at l.source (drop l.line-index l.lines)) ≡
          written_lines l.cut (lines_at l.source l.lines);
    }
