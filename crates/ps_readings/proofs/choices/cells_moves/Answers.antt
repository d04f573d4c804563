use Rattle.std.proofs.Common.{arith, ◌≡◌, ◌∙◌, ◌∷◌, ◌++◌, ◌+◌, suc, ℕ, sym, ap, drop, Bor, List}
use Rattle.std.specs.List.{filter_map}
use Rattle.ps_model.specs.meaning.Readings.{move_choices}
use Rattle.ps_rules.specs.declared.tree.CellPair.{CellPair}
use Rattle.ps_rules.specs.declared.tree.Item.{Item}
use Rattle.ps_rules.specs.RulesShown.{items_shown, cell_shown, cell_list_shown}
use Rattle.ps_rules.proofs.Loops.{drop-at}
use Rattle.ps_readings.specs.LeftItems.{left_of_cells}
use Rattle.ps_readings.proofs.Pieces.{sifted_more}
use Rattle.ps_readings.proofs.choices.cells_moves.Goals as goal

pub loop-cell-preserved : goal.loop-cell-preserved
loop-cell-preserved c =
    let i : ℕ = c.loop-cell.cell-index in
    let next : i + 1 ≡ suc i = omega arith in
    let here : drop i c.args.cells.now ≡ c.cell-item.result ∷ drop (i + 1) c.args.cells.now =
    drop-at c.cell-item.result c.args.cells.now i (i + 1) c.loop-cell-test.true c.cell-item.is next in
    let made = c.loop-cell.lists.items in
    let choices = move_choices c.args.direction in
    sifted_more choices made c.push_items_moves.new.lists.items _ (cell_shown c.cell-item.result.now).left
    (left_of_cells (cell_list_shown (drop (i + 1) c.args.cells.now)))
    (c.in_ok-push_items_moves.ensures ∙ ap (λ (items : List Item).
    made ++ filter_map choices (items_shown items)) c.as_slice.ensures)
    (ap (λ (cells : List (Bor CellPair)). made ++ filter_map choices (left_of_cells (cell_list_shown cells)))
    (sym here) ∙ c.loop-cell.invariant)
