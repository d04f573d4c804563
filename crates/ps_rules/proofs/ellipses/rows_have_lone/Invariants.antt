use Rattle.std.proofs.Common.{◌≡◌, drop}
use Rattle.std.specs.List.{list_any}
use Rattle.ps_model.specs.rules.RuleShapeFaults.{has_lone_ellipsis}
use Rattle.ps_rules.specs.CellsShown.{cell_rows_shown}
use Rattle.ps_rules.proofs.ellipses.rows_have_lone.Given as goal

abbrev pub invariant-loop-cells : goal.invariant-loop-cells
invariant-loop-cells l = list_any (λ cells. list_any has_lone_ellipsis cells)
    (cell_rows_shown (drop l.cells-index l.rows)) ≡ list_any (λ cells.
    list_any has_lone_ellipsis cells) (cell_rows_shown l.rows)
