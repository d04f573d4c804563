use Rattle.std.proofs.Common.{◌≡◌, drop}
use Rattle.std.specs.List.{list_any}
use Rattle.ps_model.specs.rules.RuleNameFaults.{is_unbound}
use Rattle.ps_rules.specs.RulesShown.{items_shown, cell_shown}
use Rattle.ps_rules.proofs.name_faults.some_unbound.Given as goal

abbrev pub invariant-loop-item : goal.invariant-loop-item
invariant-loop-item l = list_any (is_unbound l.occurrences (cell_shown l.cell))
    (items_shown (drop l.item-index l.item-items)) ≡ list_any (is_unbound l.occurrences (cell_shown l.cell))
    (cell_shown l.cell).right
