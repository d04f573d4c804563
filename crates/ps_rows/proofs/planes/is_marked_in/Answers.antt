use Rattle.std.proofs.Common.{◌∙◌, ◌<◌, Bool, List, length, refl, ap, arith}
use Rattle.std.proofs.lemmas.Bool.{not-false}
use Rattle.std.proofs.lemmas.List.{get_or_past, get_or_read_under}
use Rattle.ps_board.specs.ColumnSets.{both_columns, column_at, no_columns}
use Rattle.ps_rows.specs.Planes.{row_of}
use Rattle.ps_rows.proofs.Absent.{not_marked_of}
use Rattle.ps_rows.proofs.Sets.{none_at}
use Rattle.ps_rows.proofs.planes.is_marked_in.Goals as goal

pub returns-then-marks-plane : goal.returns-then-marks-plane
returns-then-marks-plane g c = λ no row low on.
    ap (λ (set : List Bool). column_at set row)
    (get_or_past c.args.marks.now c.args.plane no_columns (omega (arith, c.if-marks-plane.true)))
    ∙ none_at row

pub returns : goal.returns
returns g c = λ no row low on.
    let marks : List (List Bool) = c.args.marks.now in
    let own : c.args.plane < length marks = omega (arith, c.if-marks-plane.false) in
    not_marked_of (row_of marks c.args.plane) c.args.rows c.both.result row
    (c.both.ensures ∙ ap (λ (set : List Bool). both_columns set c.args.rows)
    (get_or_read_under marks c.args.plane (length marks) c.index-marks-plane.result no_columns c.index-marks-plane.is own
    refl))
    (c.is_empty.ensures.none (not-false c.is_empty.result no)) low on
