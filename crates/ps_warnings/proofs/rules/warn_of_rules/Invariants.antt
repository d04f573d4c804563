use Rattle.std.proofs.Common.{◌≡◌, ◌++◌, drop}
use Rattle.ps_rules.specs.RulesShown.{lines_shown}
use Rattle.ps_warnings.specs.RuleWarnings.{rule_warnings}
use Rattle.ps_warnings.proofs.rules.warn_of_rules.Given as goal

-- what is left comes to the whole
abbrev pub invariant-loop-line : goal.invariant-loop-line
invariant-loop-line l =
    l.told.items
    ++ rule_warnings l.facts.names.now l.facts.sounding.now l.facts.there.now (lines_shown (drop l.line-index l.line-items))
    ≡ l.initial.told.items ++ rule_warnings l.facts.names.now l.facts.sounding.now l.facts.there.now l.rules
