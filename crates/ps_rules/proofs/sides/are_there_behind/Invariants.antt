use Rattle.std.proofs.Common.{◌≡◌, drop}
use Rattle.ps_model.specs.rules.RuleShape.{words_behind}
use Rattle.ps_model.specs.rules.RuleShapeFaults.{are_there}
use Rattle.std.specs.List.{flat_map}
use Rattle.ps_rules.specs.ShapesShown.{side_shown, rows_shown}
use Rattle.ps_rules.proofs.sides.are_there_behind.Given as goal

abbrev pub invariant-loop-row : goal.invariant-loop-row
invariant-loop-row l = are_there (flat_map (λ row. row.behind) (rows_shown (drop l.row-index l.row-items))) ≡ are_there
    (words_behind (side_shown l.side))
