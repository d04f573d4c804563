use Rattle.std.proofs.Common.{◌≡◌, ◌≤◌, ◌+◌, ◌++◌}
use Rattle.ps_model.specs.text.LineNumbers.{lines_between}
use Rattle.ps_model.specs.rules.RuleLines.{lines_with_words}
use Rattle.ps_rules.specs.AboveShown.{above_shown}
use Rattle.ps_rules.specs.ToldRules.{told_below, told_rules}
use Rattle.ps_rules.proofs.told.told_rules.Given as goal

abbrev pub invariant-loop-line : goal.invariant-loop-line
invariant-loop-line l =
    record {
      few : l.above.rules + l.fn.lines.start ≤ l.line;
      rest : l.told.items ++ told_below l.names (above_shown l.above)
          (lines_with_words (lines_between l.source l.line l.fn.lines.end))
          ≡ told_rules l.names (lines_between l.source l.fn.lines.start l.fn.lines.end);
    }
