use Rattle.std.proofs.Common.{◌≡◌, ◌*◌, drop}
use Rattle.ps_rules.specs.RulesShown.{items_shown}
use Rattle.ps_readings.specs.Counted.{counted}
use Rattle.ps_readings.specs.ItemWays.{item_ways}
use Rattle.ps_readings.proofs.count.ways_of_items.Given as goal

abbrev pub invariant-loop-item : goal.invariant-loop-item
invariant-loop-item l = record {
  stopped : counted l.ways ≡ l.ways;
  left : counted (l.ways * item_ways l.names l.occurrences (items_shown (drop l.item-index l.items))) ≡ counted
      (item_ways l.names l.occurrences (items_shown l.items));
}
