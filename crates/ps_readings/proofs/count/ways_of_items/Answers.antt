use Rattle.std.proofs.Common.{◌≡◌, ◌*◌, ◌+◌, ℕ, suc, List, drop, ap, sym, ◌∙◌, arith}
use Rattle.ps_rules.specs.RulesShown.{item_shown, items_shown}
use Rattle.ps_rules.specs.declared.tree.Item.{Item}
use Rattle.ps_rules.proofs.Loops.{drop-at}
use Rattle.ps_readings.specs.Counted.{counted}
use Rattle.ps_readings.specs.ItemWays.{move_ways, member_ways, item_ways}
use Rattle.ps_readings.proofs.CountedProducts.{counted-already, counted-step}
use Rattle.ps_readings.proofs.count.ways_of_items.Goals as goal

pub loop-item-preserved : goal.loop-item-preserved
loop-item-preserved c =
    let i : ℕ = c.loop-item.item-index in
    let next : i + 1 ≡ suc i = omega arith in
    let ways_of : List Item → ℕ = λ items. item_ways c.args.names.now c.args.occurrences.now (items_shown items) in
    let here : ℕ = move_ways (item_shown c.item-item.result) * member_ways c.args.names.now c.args.occurrences.now
    (item_shown c.item-item.result) in
    record {
      stopped = counted-already c.times-ways.result (c.loop-item.ways * c.in_ok-more.more) c.times-ways.ensures;
      left =
          counted-step c.loop-item.ways c.in_ok-more.more c.times-ways.result here
          (ways_of (drop (i + 1) c.args.items.now)) c.times-ways.ensures c.in_ok-more.ensures
          ∙ sym (ap (λ (items : List Item). counted (c.loop-item.ways * ways_of items))
          (drop-at c.item-item.result c.args.items.now i (i + 1) c.loop-item-test.true c.item-item.is next))
          ∙ c.loop-item.invariant.left;
    }
