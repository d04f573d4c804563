use Rattle.std.proofs.Common.{◌≡◌, drop}
use Rattle.ps_rules.specs.RulesShown.{lines_shown}
use Rattle.ps_warnings.specs.UnwonWarnings.{is_bare, rules_of}
use Rattle.ps_warnings.proofs.unwon.are_no_rules.Given as goal

-- the lines passed by are no rules
abbrev pub invariant-loop-line : goal.invariant-loop-line
invariant-loop-line l =
    is_bare (rules_of (lines_shown (drop l.line-index l.line-items))) ≡ is_bare (rules_of l.rules)
