use Rattle.std.proofs.Common.{◌≡◌, ◌||◌, ◌&&◌, not, ℕ, drop}
use Rattle.ps_rules.specs.RulesShown.{items_shown}
use Rattle.ps_rules.specs.Unmatched.{is_in, has_property}
use Rattle.ps_rules.proofs.unmatched.add_besides.Given as goal

abbrev pub invariant-loop-item : goal.invariant-loop-item
invariant-loop-item l = (line : ℕ)
    → ((has_property (items_shown (drop l.item-index l.items)) line && not (is_in l.set line)) || is_in l.lines line) ≡
    ((has_property (items_shown l.items) line && not (is_in l.set line)) || is_in l.initial.lines line)
