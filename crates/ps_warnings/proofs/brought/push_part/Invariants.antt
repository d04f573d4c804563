use Rattle.std.proofs.Common.{◌≡◌, ◌++◌, drop}
use Rattle.ps_rules.specs.RulesShown.{part_shown, rule_shown}
use Rattle.ps_warnings.specs.Brought.{brought_by_part}
use Rattle.ps_warnings.specs.MeaningsSeen.{meanings_seen}
use Rattle.ps_warnings.proofs.brought.push_part.Given as goal

-- what is left comes to the whole
abbrev pub invariant-loop-cell : goal.invariant-loop-cell
invariant-loop-cell l =
    meanings_seen l.made.items ++ brought_by_part (rule_shown l.rule) (part_shown (drop l.cell-index l.part))
    ≡ meanings_seen l.initial.made.items ++ brought_by_part (rule_shown l.rule) (part_shown l.part)
