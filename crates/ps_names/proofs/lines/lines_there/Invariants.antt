use Rattle.std.proofs.Common.{◌≡◌, ◌++◌, ◌+◌, ◌≤◌, length, All}
use Rattle.ps_model.specs.text.LineNumbers.{lines_between}
use Rattle.ps_names.specs.LinesThere.{lines_at}
use Rattle.ps_model.specs.text.LineNumbers.{HasLine}
use Rattle.ps_names.proofs.lines.lines_there.Given as goal

abbrev pub invariant-loop-line : goal.invariant-loop-line
invariant-loop-line l =
    record {
      few : length l.made.items + l.fn.lines.start ≤ l.line;
      lines : lines_at l.source l.made.items ++ lines_between l.source l.line l.fn.lines.end ≡ lines_between l.source
          l.fn.lines.start l.fn.lines.end;
      there : All (HasLine l.source) l.made.items;
    }
