use Rattle.std.proofs.Common.{◌≡◌, ◌++◌, [], map, drop}
use Rattle.std.specs.Prelude.{slice_index_or}
use Rattle.ps_levels.specs.Cells.{cells_shown, rows_shown}
use Rattle.ps_levels.proofs.columns.add_column.Given as goal

abbrev pub invariant-loop-row : goal.invariant-loop-row
invariant-loop-row l =
    cells_shown l.cells.items ++ map (λ row. slice_index_or row l.column []) (rows_shown (drop l.row-index l.rows)) ≡
    cells_shown l.fn.cells.items ++ map (λ row. slice_index_or row l.column []) (rows_shown l.rows)
