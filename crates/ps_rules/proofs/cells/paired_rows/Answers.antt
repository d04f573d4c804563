use Rattle.std.proofs.Common.{◌∙◌, ◌+◌, List, [], ◌∷◌, ◌++◌, drop, map, refl, sym, ap, add-one}
use Rattle.std.specs.Global.{Vec}
use Rattle.std.proofs.lemmas.List.{map-append}
use Rattle.ps_model.specs.rules.RuleShape.{paired_cells, paired_rows, beside}
use Rattle.ps_rules.specs.declared.cells.WrittenCell.{WrittenCell}
use Rattle.ps_rules.specs.declared.shapes.WrittenRow.{WrittenRow}
use Rattle.ps_rules.specs.CellsShown.{cells_shown, cell_rows_shown, cells_of_rows}
use Rattle.ps_rules.specs.ShapesShown.{row_shown, rows_shown, shape_shown}
use Rattle.ps_rules.proofs.Loops.{drop-at, loop-end}
use Rattle.ps_rules.proofs.Rows.{cells-behind, pairs-more}
use Rattle.ps_rules.proofs.cells.paired_rows.Goals as goal

pub loop-row-preserved : goal.loop-row-preserved
loop-row-preserved c =
    let left : List WrittenRow = c.as_slice-left.result.now in
    let others : List WrittenRow = c.loop-row.others.now in
    pairs-more (cell_rows_shown c.loop-row.rows.items) (cell_rows_shown c.push.new.self.items)
    (cells_shown c.in_ok-cells.cells.items) (row_shown c.row-item.result).cells
    (cells_of_rows (rows_shown (drop (c.loop-row.row-index + 1) left))) (cells_of_rows (rows_shown others))
    (cells_of_rows (rows_shown c.without_first-others.result.now)) c.in_ok-cells.ensures
    (ap cell_rows_shown c.in_ok-push.ensures.items
    ∙ map-append (λ (cells : Vec WrittenCell). cells_shown cells.items) c.loop-row.rows.items
    (c.in_ok-cells.cells ∷ []))
    (ap (λ (rows : List WrittenRow). cells_of_rows (rows_shown rows)) c.without_first-others.ensures
    ∙ cells-behind others)
    ∙ ap (λ (rows : List WrittenRow). cell_rows_shown c.loop-row.rows.items ++ map paired_cells
    (beside (cells_of_rows (rows_shown rows)) (cells_of_rows (rows_shown others))))
    (sym (drop-at c.row-item.result left c.loop-row.row-index (c.loop-row.row-index + 1) c.loop-row-test.true
    c.row-item.is (add-one c.loop-row.row-index)))
    ∙ c.loop-row.invariant

pub returns : goal.returns
returns c =
    loop-end (cell_rows_shown c.loop-row.rows.items) (map paired_cells (paired_rows (shape_shown c.args.shape.now)))
    (λ (rows : List WrittenRow). map paired_cells
    (beside (cells_of_rows (rows_shown rows)) (cells_of_rows (rows_shown c.loop-row.others.now))))
    c.as_slice-left.result.now c.loop-row.row-index refl c.loop-row.invariant c.loop-row-test.false
