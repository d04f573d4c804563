use Rattle.std.proofs.Common.{◌≡◌, ◌*◌, ◌+◌, ℕ, suc, List, drop, ap, sym, ◌∙◌, arith}
use Rattle.std.specs.Borrow.{Bor}
use Rattle.ps_model.specs.rules.SourceRules as model
use Rattle.ps_rules.specs.RulesShown.{items_shown, cell_list_shown}
use Rattle.ps_rules.specs.declared.tree.CellPair.{CellPair}
use Rattle.ps_rules.specs.declared.tree.Item.{Item}
use Rattle.ps_rules.proofs.Loops.{drop-at}
use Rattle.ps_readings.specs.Counted.{counted}
use Rattle.ps_readings.specs.ItemWays.{item_ways}
use Rattle.ps_readings.specs.LeftItems.{left_of_cells}
use Rattle.ps_readings.proofs.CountedProducts.{counted-already, counted-step}
use Rattle.ps_readings.proofs.ReadingProducts.{ways-append}
use Rattle.ps_readings.proofs.count.left_ways.Goals as goal

pub loop-cell-preserved : goal.loop-cell-preserved
loop-cell-preserved c =
    let i : ℕ = c.loop-cell.cell-index in
    let next : i + 1 ≡ suc i = omega arith in
    let ways_of : List model.Item → ℕ = λ items. item_ways c.args.names.now c.args.occurrences.now items in
    let here : List model.Item = items_shown c.cell-item.result.now.left.items in
    let cells : List (Bor CellPair) = c.cells-cell-items.result.now in
    let behind : List (Bor CellPair) = drop (i + 1) cells in
    let found : c.in_ok-more.more ≡ counted (ways_of here) = c.in_ok-more.ensures
    ∙ ap (λ (items : List Item). counted (ways_of (items_shown items))) c.as_slice.ensures in
    record {
      stopped = counted-already c.times-ways.result (c.loop-cell.ways * c.in_ok-more.more) c.times-ways.ensures;
      left =
          counted-step c.loop-cell.ways c.in_ok-more.more c.times-ways.result (ways_of here)
          (ways_of (left_of_cells (cell_list_shown behind))) c.times-ways.ensures found
          ∙ sym (ap (λ (n : ℕ). counted (c.loop-cell.ways * n))
          (ways-append c.args.names.now c.args.occurrences.now here (left_of_cells (cell_list_shown behind))))
          ∙ sym (ap (λ (seen : List (Bor CellPair)).
          counted (c.loop-cell.ways * ways_of (left_of_cells (cell_list_shown seen))))
          (drop-at c.cell-item.result cells i (i + 1) c.loop-cell-test.true c.cell-item.is next))
          ∙ c.loop-cell.invariant.left;
    }
