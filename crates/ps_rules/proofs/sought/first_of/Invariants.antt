use Rattle.std.proofs.Common.{◌≡◌, drop}
use Rattle.std.specs.Prelude.{filter}
use Rattle.ps_model.specs.meaning.Occurrences.{numbers}
use Rattle.ps_rules.specs.RulesShown.{items_shown}
use Rattle.ps_rules.specs.SoughtItems.{is_sought, first_number}
use Rattle.ps_rules.proofs.sought.first_of.Given as goal

abbrev pub invariant-loop-item : goal.invariant-loop-item
invariant-loop-item l = first_number (numbers (filter (is_sought l.sought) (items_shown (drop l.item-index l.items))))
    ≡ first_number (numbers (filter (is_sought l.sought) (items_shown l.items)))
