use Rattle.std.proofs.Common.{◌≡◌, drop}
use Rattle.std.specs.List.{list_any}
use Rattle.ps_model.specs.rules.RuleNameFaults.{is_no_before_aggregate}
use Rattle.ps_rules.specs.RulesShown.{items_shown}
use Rattle.ps_rules.proofs.name_faults.some_no_before_aggregate.Given as goal

abbrev pub invariant-loop-item : goal.invariant-loop-item
invariant-loop-item l = list_any is_no_before_aggregate (items_shown (drop l.item-index l.items)) ≡ list_any
    is_no_before_aggregate (items_shown l.items)
