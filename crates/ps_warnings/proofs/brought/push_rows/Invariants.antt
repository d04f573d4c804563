use Rattle.std.proofs.Common.{◌≡◌, ◌++◌, drop}
use Rattle.std.specs.List.{flat_map}
use Rattle.ps_rules.specs.RulesShown.{rule_shown, tree_rows_shown}
use Rattle.ps_warnings.specs.Brought.{brought_by_row}
use Rattle.ps_warnings.specs.MeaningsSeen.{meanings_seen}
use Rattle.ps_warnings.proofs.brought.push_rows.Given as goal

-- what is left comes to the whole
abbrev pub invariant-loop-row : goal.invariant-loop-row
invariant-loop-row l =
    meanings_seen l.made.items ++ flat_map (brought_by_row (rule_shown l.rule)) (tree_rows_shown (drop l.row-index l.rows))
    ≡ meanings_seen l.initial.made.items ++ flat_map (brought_by_row (rule_shown l.rule)) (tree_rows_shown l.rows)
