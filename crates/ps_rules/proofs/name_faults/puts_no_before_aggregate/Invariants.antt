use Rattle.std.proofs.Common.{◌≡◌, ◌++◌, drop}
use Rattle.std.specs.List.{list_any}
use Rattle.ps_model.specs.rules.RuleNameFaults.{is_no_before_aggregate}
use Rattle.ps_rules.specs.RulesShown.{cell_list_shown}
use Rattle.ps_rules.proofs.name_faults.puts_no_before_aggregate.Given as goal

abbrev pub invariant-loop-cell : goal.invariant-loop-cell
invariant-loop-cell l = list_any (λ cell. list_any is_no_before_aggregate (cell.left ++ cell.right))
    (cell_list_shown (drop l.cell-index l.cells)) ≡ list_any (λ cell.
    list_any is_no_before_aggregate (cell.left ++ cell.right)) (cell_list_shown l.cells)
