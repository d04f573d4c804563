use Rattle.std.proofs.Common.{List, refl}
use Rattle.std.specs.List.{filter_map}
use Rattle.ps_model.specs.meaning.Readings.{member_choices}
use Rattle.ps_rules.specs.declared.tree.Item.{Item}
use Rattle.ps_rules.specs.RulesShown.{item_shown, items_shown}
use Rattle.ps_rules.proofs.Loops.{loop-end}
use Rattle.ps_names.proofs.common.Loops.{option-first}
use Rattle.ps_readings.proofs.Pieces.{list_more}
use Rattle.ps_readings.proofs.choices.push_items_members.Goals as goal

pub loop-item-preserved : goal.loop-item-preserved
loop-item-preserved c =
    let choices = member_choices c.args.names.now c.args.occurrences.now in
    list_more (λ (items : List Item). filter_map choices (items_shown items)) c.loop-item.lists.items
    c.push_member_choices.new.lists.items _ _ c.item-item.result c.item-item.result c.args.items.now
    c.loop-item.item-index (option-first (choices (item_shown c.item-item.result)) _) c.loop-item-test.true
    c.item-item.is c.in_ok-push_member_choices.ensures c.loop-item.invariant

pub returns : goal.returns
returns c =
    let choices = member_choices c.args.names.now c.args.occurrences.now in
    loop-end c.loop-item.lists.items _ (λ (items : List Item). filter_map choices (items_shown items))
    c.args.items.now c.loop-item.item-index refl c.loop-item.invariant c.loop-item-test.false
