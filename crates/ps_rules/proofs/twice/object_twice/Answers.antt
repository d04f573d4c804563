use Rattle.std.proofs.Common.{List, ℕ, ◌+◌, drop}
use Rattle.std.specs.List.{flat_map}
use Rattle.ps_model.specs.rules.RuleNameFaults.{objects_named}
use Rattle.ps_rules.specs.RulesShown.{item_shown, items_shown}
use Rattle.ps_rules.specs.Twice.{object_numbers}
use Rattle.ps_rules.proofs.ItemSteps.{objects-from, seen-again, not-seen}
use Rattle.ps_rules.proofs.twice.object_twice.Goals as goal

pub returns-then-branch : goal.returns-then-branch
returns-then-branch c =
    let others : List ℕ = object_numbers
    (flat_map objects_named (items_shown (drop (c.loop-item.item-index + 1) c.args.items.now))) in
    seen-again c.loop-item.seen.items c.see_item.new.seen.items
    (object_numbers (objects_named (item_shown c.item-item.result))) others _
    (object_numbers (flat_map objects_named (items_shown c.args.items.now))) c.in_ok-see_item.field-0
    (objects-from c.args.items.now c.loop-item.item-index c.item-item.result c.loop-item-test.true c.item-item.is)
    (c.in_ok-see_item.ensures others) c.if-branch.true c.loop-item.invariant

pub loop-item-preserved : goal.loop-item-preserved
loop-item-preserved c =
    let others : List ℕ = object_numbers
    (flat_map objects_named (items_shown (drop (c.loop-item.item-index + 1) c.args.items.now))) in
    not-seen c.loop-item.seen.items c.see_item.new.seen.items
    (object_numbers (objects_named (item_shown c.item-item.result))) others _
    (object_numbers (flat_map objects_named (items_shown c.args.items.now))) c.in_ok-see_item.field-0
    (objects-from c.args.items.now c.loop-item.item-index c.item-item.result c.loop-item-test.true c.item-item.is)
    (c.in_ok-see_item.ensures others) c.if-branch.false c.loop-item.invariant
