use Rattle.std.proofs.Common.{◌≡◌, ◌++◌, drop}
use Rattle.ps_rules.specs.RulesShown.{rule_shown, tree_row_shown}
use Rattle.ps_warnings.specs.Brought.{brought_by_row}
use Rattle.ps_warnings.specs.MeaningsSeen.{meanings_seen}
use Rattle.ps_warnings.proofs.brought.push_row.Given as goal

-- what is left comes to the whole
abbrev pub invariant-loop-part : goal.invariant-loop-part
invariant-loop-part l =
    meanings_seen l.made.items ++ brought_by_row (rule_shown l.rule) (tree_row_shown (drop l.part-index l.row))
    ≡ meanings_seen l.initial.made.items ++ brought_by_row (rule_shown l.rule) (tree_row_shown l.row)
