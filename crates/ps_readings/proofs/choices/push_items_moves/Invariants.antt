use Rattle.std.proofs.Common.{◌≡◌, ◌++◌, drop}
use Rattle.std.specs.List.{filter_map}
use Rattle.ps_model.specs.meaning.Readings.{move_choices}
use Rattle.ps_rules.specs.RulesShown.{items_shown}
use Rattle.ps_readings.proofs.choices.push_items_moves.Given as goal

abbrev pub invariant-loop-item : goal.invariant-loop-item
invariant-loop-item l = l.lists.items ++ filter_map (move_choices l.direction)
    (items_shown (drop l.item-index l.items)) ≡ l.initial.lists.items ++ filter_map (move_choices l.direction)
    (items_shown l.items)
