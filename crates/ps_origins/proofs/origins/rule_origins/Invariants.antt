use Rattle.std.proofs.Common.{◌≡◌, ◌++◌, drop}
use Rattle.ps_rules.specs.RulesShown.{lines_shown}
use Rattle.ps_origins.specs.Origins.{rule_origins}
use Rattle.ps_origins.proofs.origins.rule_origins.Given as goal

-- what is left comes to the whole
abbrev pub invariant-loop-line : goal.invariant-loop-line
invariant-loop-line l =
    l.origins.items ++ rule_origins l.names l.part (lines_shown (drop l.line-index l.line-items))
    ≡ rule_origins l.names l.part l.rules
