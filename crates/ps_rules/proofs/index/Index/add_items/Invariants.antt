use Rattle.std.proofs.Common.{◌≡◌, drop, filter}
use Rattle.ps_model.specs.meaning.Occurrences.{numbers}
use Rattle.ps_rules.specs.RulesShown.{items_shown}
use Rattle.ps_rules.specs.SoughtItems.{found_from}
use Rattle.ps_rules.specs.Tallies.{Key, has_key, found_at}
use Rattle.ps_rules.proofs.index.Index.add_items.Given as goal

abbrev pub invariant-loop-item : goal.invariant-loop-item
invariant-loop-item l = (key : Key)
    → found_from (found_at l.self key) (numbers (filter (has_key key) (items_shown (drop l.item-index l.items)))) ≡
    found_from (found_at l.initial.self key) (numbers (filter (has_key key) (items_shown l.items)))
