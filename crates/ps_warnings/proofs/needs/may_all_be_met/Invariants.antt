use Rattle.std.proofs.Common.{◌≡◌, drop}
use Rattle.std.specs.List.{list_all}
use Rattle.ps_rules.specs.RulesShown.{items_shown}
use Rattle.ps_warnings.specs.Needs.{may_be_met}
use Rattle.ps_warnings.proofs.needs.may_all_be_met.Given as goal

-- what those passed by ask for may come to be
abbrev pub invariant-loop-item : goal.invariant-loop-item
invariant-loop-item l =
    list_all (may_be_met l.there) (items_shown (drop l.item-index l.items))
    ≡ list_all (may_be_met l.there) (items_shown l.items)
