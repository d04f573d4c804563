use Rattle.std.proofs.Common.{◌≡◌, ◌++◌}
use Rattle.ps_model.specs.text.LineNumbers.{lines_between}
use Rattle.ps_warnings.specs.RepeatedRules.{repeated_rules, twice_below, written_rules}
use Rattle.ps_warnings.specs.RulesSeen.{rules_seen}
use Rattle.ps_warnings.proofs.repeated_rules.warn_of_repeated.Given as goal

-- what is left comes to the whole
abbrev pub invariant-loop-line : goal.invariant-loop-line
invariant-loop-line l =
    l.told.items ++ twice_below (rules_seen l.above.items) (written_rules (lines_between l.source l.line l.fn.lines.end))
    ≡ l.initial.told.items ++ repeated_rules (lines_between l.source l.fn.lines.start l.fn.lines.end)
