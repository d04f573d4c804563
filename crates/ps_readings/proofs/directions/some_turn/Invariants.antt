use Rattle.std.proofs.Common.{◌≡◌, drop}
use Rattle.std.specs.List.{list_any}
use Rattle.ps_model.specs.meaning.Readings.{item_turns}
use Rattle.ps_rules.specs.RulesShown.{items_shown}
use Rattle.ps_readings.proofs.directions.some_turn.Given as goal

abbrev pub invariant-loop-item : goal.invariant-loop-item
invariant-loop-item l = list_any item_turns (items_shown (drop l.item-index l.items)) ≡ list_any item_turns
    (items_shown l.items)
