use Rattle.std.proofs.Common.{◌≡◌, ◌++◌, drop, map}
use Rattle.ps_model.specs.rules.RuleShape.{paired_cells, paired_rows, beside}
use Rattle.ps_rules.specs.ShapesShown.{rows_shown, shape_shown}
use Rattle.ps_rules.specs.CellsShown.{cell_rows_shown, cells_of_rows}
use Rattle.ps_rules.proofs.cells.paired_rows.Given as goal

abbrev pub invariant-loop-row : goal.invariant-loop-row
invariant-loop-row l =
    cell_rows_shown l.rows.items ++ map paired_cells
    (beside (cells_of_rows (rows_shown (drop l.row-index l.left))) (cells_of_rows (rows_shown l.others)))
    ≡ map paired_cells (paired_rows (shape_shown l.shape))
