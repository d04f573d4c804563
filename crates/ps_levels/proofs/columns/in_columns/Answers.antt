use Rattle.std.proofs.Common.{◌∙◌, ◌++◌, [], sym, ap, map, get_or, List}
use Rattle.ps_model.specs.declared.pieces.ObjectId.{ObjectId}
use Rattle.ps_levels.specs.Cells.{rows_shown}
use Rattle.ps_levels.proofs.ColumnSteps.{column_more}
use Rattle.ps_levels.proofs.columns.in_columns.Goals as goal

pub loop-column-preserved : goal.loop-column-preserved
loop-column-preserved c =
    let column : List (List ObjectId) = map (λ row. get_or row c.loop-column.column []) (rows_shown c.args.rows.now) in
    c.in_ok-add_column.ensures ∙ ap (λ (cells : List (List ObjectId)). cells ++ column) c.loop-column.invariant
    ∙ sym (column_more c.loop-column.column (rows_shown c.args.rows.now))
