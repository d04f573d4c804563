use Rattle.std.proofs.Common.{◌≡◌, ◌*◌, drop}
use Rattle.ps_model.specs.meaning.Occurrences.{left_items}
use Rattle.ps_rules.specs.RulesShown.{cell_list_shown}
use Rattle.ps_readings.specs.Counted.{counted}
use Rattle.ps_readings.specs.ItemWays.{item_ways}
use Rattle.ps_readings.specs.LeftItems.{left_of_cells}
use Rattle.ps_readings.proofs.count.left_ways.Given as goal

abbrev pub invariant-loop-cell : goal.invariant-loop-cell
invariant-loop-cell l = record {
  stopped : counted l.ways ≡ l.ways;
  left : counted (l.ways * item_ways l.names l.occurrences
      (left_of_cells (cell_list_shown (drop l.cell-index l.cell-items)))) ≡ counted
      (item_ways l.names l.occurrences (left_items l.occurrences));
}
