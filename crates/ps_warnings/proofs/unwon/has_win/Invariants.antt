use Rattle.std.proofs.Common.{◌≡◌, drop}
use Rattle.std.specs.List.{list_any}
use Rattle.ps_rules.specs.RulesShown.{lines_shown}
use Rattle.ps_warnings.specs.UnwonWarnings.{has_win, rules_of}
use Rattle.ps_warnings.proofs.unwon.has_win.Given as goal

-- the rules passed by have none
abbrev pub invariant-loop-line : goal.invariant-loop-line
invariant-loop-line l =
    list_any has_win (rules_of (lines_shown (drop l.line-index l.line-items))) ≡ list_any has_win (rules_of l.rules)
