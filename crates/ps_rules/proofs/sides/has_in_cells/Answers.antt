use Rattle.std.proofs.Common.{◌∙◌, ap}
use Rattle.std.specs.List.{list_any}
use Rattle.ps_model.specs.rules.RuleShape.{has_kind}
use Rattle.ps_rules.specs.Kinds.{is_kind}
use Rattle.ps_rules.specs.ShapesShown.{side_shown, rows_shown}
use Rattle.ps_rules.proofs.Words.{any_in_cells}
use Rattle.ps_rules.proofs.sides.has_in_cells.Goals as goal

pub loop-row-init : goal.loop-row-init
loop-row-init c =
    ap (λ rows. list_any (λ row. list_any (has_kind (is_kind c.args.kind)) row.cells) (rows_shown rows))
    c.as_slice-row-items.ensures.value
    ∙ any_in_cells (is_kind c.args.kind) (side_shown c.args.side.now)
