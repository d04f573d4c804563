use Rattle.std.proofs.Common.{◌≡◌, drop}
use Rattle.std.specs.List.{list_any}
use Rattle.ps_model.specs.rules.RuleShapeFaults.{has_wrong_cells, has_wrong_ellipsis}
use Rattle.ps_rules.specs.ShapesShown.{side_shown, rows_shown}
use Rattle.ps_rules.proofs.ellipses.has_wrong_ellipsis.Given as goal

abbrev pub invariant-loop-row : goal.invariant-loop-row
invariant-loop-row l = list_any (λ row. has_wrong_cells row.cells) (rows_shown (drop l.row-index l.row-items)) ≡
    has_wrong_ellipsis (side_shown l.side)
