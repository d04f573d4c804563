use Rattle.std.proofs.Common.{◌≡◌, drop}
use Rattle.std.specs.List.{list_any}
use Rattle.ps_model.specs.rules.RuleShape.{cells_of_side}
use Rattle.ps_model.specs.rules.RuleShapeFaults.{misses_name}
use Rattle.std.specs.List.{flat_map}
use Rattle.ps_rules.specs.ShapesShown.{side_shown, rows_shown}
use Rattle.ps_rules.proofs.sides.misses_name_in_cells.Given as goal

abbrev pub invariant-loop-row : goal.invariant-loop-row
invariant-loop-row l = list_any misses_name (flat_map (λ row. row.cells) (rows_shown (drop l.row-index l.row-items))) ≡
    list_any misses_name (cells_of_side (side_shown l.side))
