use Rattle.std.proofs.Common.{◌≡◌, ◌∙◌, ◌++◌, ◌∷◌, ◌+◌, ℕ, List, drop, ap, sym, append_assoc}
use Rattle.std.proofs.lemmas.List.{map-append, drop_more}
use Rattle.ps_model.specs.rules.SourceRules as model
use Rattle.ps_rules.specs.declared.tree.CellPair.{CellPair}
use Rattle.ps_rules.specs.RulesShown.{part_shown, cell_list_shown}
use Rattle.ps_rules.proofs.tree_cells.push_part.Goals as goal

pub loop-cell-preserved : goal.loop-cell-preserved
loop-cell-preserved l =
    let cells : List CellPair = l.args.part.now in
    let at : ℕ = l.loop-cell.cell-index in
    let rest : List model.CellPair = part_shown (drop (at + 1) cells) in
    let there : drop at cells ≡ l.cell-item.result ∷ drop (at + 1) cells =
    drop_more cells at l.cell-item.result l.loop-cell-test.true
    ∙ ap (λ (cell : CellPair). cell ∷ drop (at + 1) cells) (sym l.cell-item.is) in
    rw (l.in_ok-push.ensures.items, map-append, append_assoc)
    (ap (λ (left : List CellPair). cell_list_shown l.loop-cell.cells.items ++ part_shown left) (sym there)
    ∙ l.loop-cell.invariant)
