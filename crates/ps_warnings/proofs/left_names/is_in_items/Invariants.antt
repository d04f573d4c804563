use Rattle.std.proofs.Common.{◌≡◌, drop}
use Rattle.std.specs.List.{list_any}
use Rattle.ps_model.specs.meaning.Occurrences.{names_it}
use Rattle.ps_names.specs.Shown.{meaning_shown}
use Rattle.ps_rules.specs.RulesShown.{items_shown}
use Rattle.ps_warnings.proofs.left_names.is_in_items.Given as goal

-- the items passed by aren't occurrences of it
abbrev pub invariant-loop-item : goal.invariant-loop-item
invariant-loop-item l =
    list_any (names_it (meaning_shown l.meaning)) (items_shown (drop l.item-index l.items))
    ≡ list_any (names_it (meaning_shown l.meaning)) (items_shown l.items)
