use Rattle.std.proofs.Common.{◌≡◌}
use Rattle.ps_model.specs.session.LevelLines.{in_columns}
use Rattle.ps_levels.specs.Cells.{cells_shown, rows_shown}
use Rattle.ps_levels.proofs.columns.in_columns.Given as goal

abbrev pub invariant-loop-column : goal.invariant-loop-column
invariant-loop-column l = cells_shown l.cells.items ≡ in_columns l.column (rows_shown l.rows)
