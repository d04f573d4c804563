use Rattle.std.proofs.Common.{◌≡◌, drop}
use Rattle.std.specs.List.{list_any}
use Rattle.ps_model.specs.rules.RuleShapeFaults.{has_lone_ellipsis}
use Rattle.ps_rules.specs.CellsShown.{cells_shown}
use Rattle.ps_rules.proofs.ellipses.some_has_lone.Given as goal

abbrev pub invariant-loop-cell : goal.invariant-loop-cell
invariant-loop-cell l = list_any has_lone_ellipsis (cells_shown (drop l.cell-index l.cells)) ≡ list_any
    has_lone_ellipsis (cells_shown l.cells)
