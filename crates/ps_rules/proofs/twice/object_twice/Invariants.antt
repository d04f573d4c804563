use Rattle.std.proofs.Common.{◌≡◌, drop}
use Rattle.std.specs.Prelude.{[]}
use Rattle.std.specs.List.{flat_map}
use Rattle.ps_model.specs.rules.RuleNameFaults.{objects_named}
use Rattle.ps_rules.specs.RulesShown.{items_shown}
use Rattle.ps_rules.specs.Twice.{twice_behind, object_numbers}
use Rattle.ps_rules.proofs.twice.object_twice.Given as goal

abbrev pub invariant-loop-item : goal.invariant-loop-item
invariant-loop-item l = twice_behind l.seen.items
    (object_numbers (flat_map objects_named (items_shown (drop l.item-index l.items)))) ≡ twice_behind []
    (object_numbers (flat_map objects_named (items_shown l.items)))
