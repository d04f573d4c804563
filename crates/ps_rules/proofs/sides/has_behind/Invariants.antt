use Rattle.std.proofs.Common.{◌≡◌, drop}
use Rattle.ps_model.specs.rules.RuleShape.{has_kind, words_behind}
use Rattle.std.specs.List.{flat_map}
use Rattle.ps_rules.specs.Kinds.{is_kind}
use Rattle.ps_rules.specs.ShapesShown.{side_shown, rows_shown}
use Rattle.ps_rules.proofs.sides.has_behind.Given as goal

abbrev pub invariant-loop-row : goal.invariant-loop-row
invariant-loop-row l = has_kind (is_kind l.kind)
    (flat_map (λ row. row.behind) (rows_shown (drop l.row-index l.row-items))) ≡ has_kind (is_kind l.kind)
    (words_behind (side_shown l.side))
