use Rattle.std.proofs.Common.{◌≡◌, drop}
use Rattle.std.specs.List.{list_any}
use Rattle.ps_model.specs.rules.RuleShape.{has_kind, words_in_cells}
use Rattle.ps_rules.specs.Kinds.{is_kind}
use Rattle.ps_rules.specs.ShapesShown.{side_shown, rows_shown}
use Rattle.ps_rules.proofs.sides.has_in_cells.Given as goal

abbrev pub invariant-loop-row : goal.invariant-loop-row
invariant-loop-row l = list_any (λ row. list_any (has_kind (is_kind l.kind)) row.cells)
    (rows_shown (drop l.row-index l.row-items)) ≡ has_kind (is_kind l.kind) (words_in_cells (side_shown l.side))
