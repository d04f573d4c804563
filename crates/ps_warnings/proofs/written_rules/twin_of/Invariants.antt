use Rattle.std.proofs.Common.{◌≡◌, drop}
use Rattle.ps_warnings.specs.RepeatedRules.{twin_of}
use Rattle.ps_warnings.specs.RulesSeen.{rule_seen, rules_seen}
use Rattle.ps_warnings.proofs.written_rules.twin_of.Given as goal

-- the rules passed by say something else
abbrev pub invariant-loop-other : goal.invariant-loop-other
invariant-loop-other l =
    twin_of (rule_seen l.rule) (rules_seen (drop l.other-index l.above))
    ≡ twin_of (rule_seen l.rule) (rules_seen l.above)
