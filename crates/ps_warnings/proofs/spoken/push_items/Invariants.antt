use Rattle.std.proofs.Common.{◌≡◌, ◌++◌, drop, map}
use Rattle.ps_rules.specs.RulesShown.{items_shown}
use Rattle.ps_warnings.specs.MeaningsSeen.{meanings_seen}
use Rattle.ps_warnings.specs.Spoken.{spoken_in_item}
use Rattle.ps_warnings.proofs.spoken.push_items.Given as goal

-- what is left comes to the whole
abbrev pub invariant-loop-item : goal.invariant-loop-item
invariant-loop-item l =
    meanings_seen l.made.items ++ map spoken_in_item (items_shown (drop l.item-index l.items))
    ≡ meanings_seen l.initial.made.items ++ map spoken_in_item (items_shown l.items)
