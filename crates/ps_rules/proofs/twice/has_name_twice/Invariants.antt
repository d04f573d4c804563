use Rattle.std.proofs.Common.{◌≡◌, drop}
use Rattle.std.specs.List.{list_any}
use Rattle.std.specs.Prelude.{◌||◌}
use Rattle.ps_model.specs.rules.RuleNameFaults.{name_twice}
use Rattle.ps_rules.specs.RulesShown.{cell_list_shown}
use Rattle.ps_rules.proofs.twice.has_name_twice.Given as goal

abbrev pub invariant-loop-cell : goal.invariant-loop-cell
invariant-loop-cell l = list_any (λ cell. name_twice cell.left || name_twice cell.right)
    (cell_list_shown (drop l.cell-index l.cells)) ≡ list_any (λ cell.
    name_twice cell.left || name_twice cell.right) (cell_list_shown l.cells)
