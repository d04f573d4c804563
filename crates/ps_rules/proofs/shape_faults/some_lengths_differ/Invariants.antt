use Rattle.std.proofs.Common.{◌≡◌, drop}
use Rattle.std.specs.List.{list_any}
use Rattle.ps_model.specs.rules.RuleShape.{beside}
use Rattle.ps_model.specs.rules.RuleShapeFaults.{lengths_differ}
use Rattle.ps_rules.specs.CellsShown.{cells_of_rows}
use Rattle.ps_rules.specs.ShapesShown.{rows_shown}
use Rattle.ps_rules.proofs.shape_faults.some_lengths_differ.Given as goal

abbrev pub invariant-loop-row : goal.invariant-loop-row
invariant-loop-row l = list_any lengths_differ
    (beside (cells_of_rows (rows_shown (drop l.row-index l.left))) (cells_of_rows (rows_shown l.others))) ≡ list_any
    lengths_differ (beside (cells_of_rows (rows_shown l.left)) (cells_of_rows (rows_shown l.right)))
