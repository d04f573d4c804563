use Rattle.std.proofs.Common.{List, ℕ, ◌+◌, drop}
use Rattle.std.specs.List.{filter_map}
use Rattle.std.specs.Option.{option_to_list}
use Rattle.ps_model.specs.rules.RuleNameFaults.{property_named}
use Rattle.ps_rules.specs.RulesShown.{item_shown, items_shown}
use Rattle.ps_rules.proofs.ItemSteps.{properties-from, seen-again, not-seen}
use Rattle.ps_rules.proofs.twice.property_twice.Goals as goal

pub returns-then-branch : goal.returns-then-branch
returns-then-branch c =
    let others : List ℕ = filter_map property_named
    (items_shown (drop (c.loop-item.item-index + 1) c.args.items.now)) in
    seen-again c.loop-item.seen c.see_property.new.seen
    (option_to_list (property_named (item_shown c.item-item.result))) others _
    (filter_map property_named (items_shown c.args.items.now)) c.in_ok-see_property.field-0
    (properties-from c.args.items.now c.loop-item.item-index c.item-item.result c.loop-item-test.true c.item-item.is)
    (c.in_ok-see_property.ensures others) c.if-branch.true c.loop-item.invariant

pub loop-item-preserved : goal.loop-item-preserved
loop-item-preserved c =
    let others : List ℕ = filter_map property_named
    (items_shown (drop (c.loop-item.item-index + 1) c.args.items.now)) in
    not-seen c.loop-item.seen c.see_property.new.seen
    (option_to_list (property_named (item_shown c.item-item.result))) others _
    (filter_map property_named (items_shown c.args.items.now)) c.in_ok-see_property.field-0
    (properties-from c.args.items.now c.loop-item.item-index c.item-item.result c.loop-item-test.true c.item-item.is)
    (c.in_ok-see_property.ensures others) c.if-branch.false c.loop-item.invariant
