use Rattle.std.proofs.Common.{◌≡◌, ◌++◌, drop, map}
use Rattle.ps_model.specs.rules.RuleTree.{row_of_cells}
use Rattle.ps_rules.specs.CellsShown.{cell_rows_shown}
use Rattle.ps_rules.specs.RulesShown.{tree_rows_shown}
use Rattle.ps_rules.proofs.parts.rows_of_cells.Given as goal

abbrev pub invariant-loop-cells : goal.invariant-loop-cells
invariant-loop-cells l = tree_rows_shown l.made.items ++ map row_of_cells (cell_rows_shown (drop l.cells-index l.rows))
    ≡ map row_of_cells (cell_rows_shown l.rows)
