use Rattle.std.proofs.Common.{◌∙◌, sym, ap, ap₂}
use Rattle.ps_rows.proofs.Alike.{rows_same, same_rows}
use Rattle.ps_rows.proofs.Sets.{true_by}
use Rattle.ps_board.specs.ColumnSets.{both_columns, set_columns}
use Rattle.ps_rows.proofs.sameness.same_row.Goals as goal

pub returns-clause-same : goal.returns-clause-same
returns-clause-same g c = λ yes.
    let is = c.both.ensures ∙ ap₂ both_columns c.unlike.ensures c.below.ensures in
    rows_same c.args.width c.args.first c.args.second c.requires.width (ap set_columns (sym is)
    ∙ c.is_empty.ensures.none yes)

pub returns-clause-other : goal.returns-clause-other
returns-clause-other g c = λ same.
    let is = c.both.ensures ∙ ap₂ both_columns c.unlike.ensures c.below.ensures in
    true_by c.is_empty.result (set_columns c.both.result) c.is_empty.ensures.some (ap set_columns is
    ∙ same_rows c.args.width c.args.first c.args.second same)
