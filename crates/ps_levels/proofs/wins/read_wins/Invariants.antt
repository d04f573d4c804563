use Rattle.std.proofs.Common.{◌≡◌, ◌++◌}
use Rattle.ps_model.specs.text.LineNumbers.{lines_between}
use Rattle.ps_model.specs.board.WinLines.{wins_read, win_faults}
use Rattle.ps_levels.specs.WinsShown.{wins_shown}
use Rattle.ps_levels.proofs.wins.read_wins.Given as goal

abbrev pub invariant-loop-line : goal.invariant-loop-line
invariant-loop-line l =
    record {
      part : wins_shown l.wins.items ++ wins_read l.names (lines_between l.source l.line l.fn.lines.end) ≡ wins_read
          l.names (lines_between l.source l.fn.lines.start l.fn.lines.end);
      fine : win_faults l.names (lines_between l.source l.line l.fn.lines.end) ≡ win_faults l.names
          (lines_between l.source l.fn.lines.start l.fn.lines.end);
    }
