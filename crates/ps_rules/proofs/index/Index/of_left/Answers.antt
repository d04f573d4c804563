use Rattle.std.proofs.Common.{arith, ◌≡◌, ◌∙◌, ◌∷◌, ◌+◌, suc, ℕ, sym, ap, filter, drop, Bor, List}
use Rattle.std.proofs.lemmas.List.{at_drop_all}
use Rattle.ps_model.specs.meaning.Occurrences.{numbers}
use Rattle.ps_rules.specs.declared.tree.CellPair.{CellPair}
use Rattle.ps_rules.specs.RulesShown.{cell_shown, cell_list_shown}
use Rattle.ps_rules.specs.SoughtItems.{found_from, left_of}
use Rattle.ps_rules.specs.Tallies.{has_key, found_at}
use Rattle.ps_rules.proofs.Founds.{found_behind}
use Rattle.ps_rules.proofs.Loops.{drop-at}
use Rattle.ps_rules.proofs.index.Index.of_left.Goals as goal

pub loop-cell-preserved : goal.loop-cell-preserved
loop-cell-preserved c =
    let i : ℕ = c.loop-cell.cell-index in
    let next : i + 1 ≡ suc i = omega arith in
    let here : drop i c.args.cells.now ≡ c.cell-item.result ∷ drop (i + 1) c.args.cells.now =
    drop-at c.cell-item.result c.args.cells.now i (i + 1) c.loop-cell-test.true c.cell-item.is next in
    λ key. rw (c.in_ok-add_items.ensures key, c.as_slice.ensures) (
    sym (found_behind (found_at c.loop-cell.index key) (has_key key) (cell_shown c.cell-item.result.now).left
    (left_of (cell_list_shown (drop (i + 1) c.args.cells.now))))
    ∙ ap (λ (cells : List (Bor CellPair)). found_from (found_at c.loop-cell.index key)
    (numbers (filter (has_key key) (left_of (cell_list_shown cells))))) (sym here)
    ∙ c.loop-cell.invariant key
    )

pub returns : goal.returns
returns c = λ key.
    sym (at_drop_all (λ (cells : List (Bor CellPair)).
    found_from (found_at c.loop-cell.index key) (numbers (filter (has_key key) (left_of (cell_list_shown cells)))))
    c.args.cells.now c.loop-cell.cell-index (omega arith))
    ∙ c.loop-cell.invariant key
