use Rattle.std.proofs.Common.{◌∙◌, sym, ap, Bool, List}
use Rattle.ps_model.specs.declared.pieces.Motion.{Motion}
use Rattle.ps_model.specs.declared.pieces.Motion.TheVariants.{Still}
use Rattle.ps_model.specs.meaning.Fitting.{same_motion}
use Rattle.ps_rows.proofs.Scans.{not_rest}
use Rattle.ps_board.specs.ColumnSets.{column_at}
use Rattle.ps_rows.proofs.Sets.{none_at, wide_on}
use Rattle.ps_rows.proofs.row_board.RowBoard.still_row.Goals as goal

pub returns-in-Still : goal.returns-in-Still
returns-in-Still g c = λ x h.
    let b = c.args.self.now in
    wide_on b.all_columns b.width b.columns b.all x h ∙ sym (ap (λ (m : Motion). same_motion m Still) c.in-Still.is)

pub returns-in_default : goal.returns-in_default
returns-in_default g c = λ x h.
    ap (λ (set : List Bool). column_at set x) c.none.ensures ∙ none_at x
    ∙ sym (not_rest c.args.motion c.in_default.not-Still)
