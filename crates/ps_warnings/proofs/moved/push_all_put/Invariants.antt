use Rattle.std.proofs.Common.{◌≡◌, ◌++◌, drop}
use Rattle.std.specs.List.{flat_map}
use Rattle.ps_rules.specs.RulesShown.{cell_shown, items_shown}
use Rattle.ps_warnings.specs.MeaningsSeen.{meanings_seen}
use Rattle.ps_warnings.specs.Moved.{put_by_item}
use Rattle.ps_warnings.proofs.moved.push_all_put.Given as goal

-- what is left comes to the whole
abbrev pub invariant-loop-item : goal.invariant-loop-item
invariant-loop-item l =
    meanings_seen l.made.items ++ flat_map (put_by_item (cell_shown l.cell)) (items_shown (drop l.item-index l.items))
    ≡ meanings_seen l.initial.made.items ++ flat_map (put_by_item (cell_shown l.cell)) (items_shown l.items)
