use Rattle.std.proofs.Common.{◌≡◌, ◌++◌, drop}
use Rattle.ps_rules.specs.RulesShown.{lines_shown}
use Rattle.ps_warnings.specs.Brought.{brought_by_rules}
use Rattle.ps_warnings.specs.MeaningsSeen.{meanings_seen}
use Rattle.ps_warnings.proofs.brought.push_rules.Given as goal

-- what is left comes to the whole
abbrev pub invariant-loop-line : goal.invariant-loop-line
invariant-loop-line l =
    meanings_seen l.made.items ++ brought_by_rules (lines_shown (drop l.line-index l.line-items))
    ≡ meanings_seen l.initial.made.items ++ brought_by_rules l.rules
