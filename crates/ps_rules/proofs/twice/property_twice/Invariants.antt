use Rattle.std.proofs.Common.{◌≡◌, drop}
use Rattle.std.specs.Prelude.{[]}
use Rattle.std.specs.List.{filter_map}
use Rattle.ps_model.specs.rules.RuleNameFaults.{property_named}
use Rattle.ps_rules.specs.RulesShown.{items_shown}
use Rattle.ps_rules.specs.Twice.{twice_behind}
use Rattle.ps_rules.proofs.twice.property_twice.Given as goal

abbrev pub invariant-loop-item : goal.invariant-loop-item
invariant-loop-item l = twice_behind l.seen (filter_map property_named (items_shown (drop l.item-index l.items))) ≡
    twice_behind [] (filter_map property_named (items_shown l.items))
