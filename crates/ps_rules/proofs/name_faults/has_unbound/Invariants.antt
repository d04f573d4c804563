use Rattle.std.proofs.Common.{◌≡◌, drop}
use Rattle.std.specs.List.{list_any}
use Rattle.ps_model.specs.rules.RuleNameFaults.{is_unbound, has_unbound}
use Rattle.ps_rules.specs.RulesShown.{cell_list_shown}
use Rattle.ps_rules.proofs.name_faults.has_unbound.Given as goal

abbrev pub invariant-loop-cell : goal.invariant-loop-cell
invariant-loop-cell l = list_any (λ cell. list_any (is_unbound l.occurrences cell) cell.right)
    (cell_list_shown (drop l.cell-index l.cell-items)) ≡ has_unbound l.occurrences
