use Rattle.std.proofs.Common.{◌≡◌, ◌++◌}
use Rattle.ps_model.specs.text.LineNumbers.{lines_between}
use Rattle.ps_model.specs.rules.RuleFaults.{rule_faults, faults_below}
use Rattle.ps_model.specs.rules.RuleLines.{rules_read, lines_with_words}
use Rattle.ps_rules.specs.AboveShown.{above_shown}
use Rattle.ps_rules.specs.RulesShown.{lines_shown}
use Rattle.ps_rules.proofs.read.read_rules.Given as goal

abbrev pub invariant-loop-line : goal.invariant-loop-line
invariant-loop-line l =
    (lines_shown l.made.items ++ rules_read l.names (lines_between l.source l.line l.fn.lines.end) ≡ rules_read l.names
    (lines_between l.source l.fn.lines.start l.fn.lines.end))
    × (faults_below l.names (above_shown l.above) (lines_with_words (lines_between l.source l.line l.fn.lines.end))
    ≡ rule_faults l.names (lines_between l.source l.fn.lines.start l.fn.lines.end))
