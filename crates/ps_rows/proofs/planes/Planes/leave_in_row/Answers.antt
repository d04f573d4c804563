use Rattle.std.proofs.Common.{◌≡◌, ◌+◌, ◌*◌, ◌<◌, ◌∙◌, ℕ, Bool, List, false, ap, arith}
use Rattle.ps_model.specs.declared.limits.TheConstants.{SIDE_LIMIT}
use Rattle.ps_board.specs.ColumnSets.{column_at, no_columns}
use Rattle.ps_board.proofs.EmptySets.{empty_of}
use Rattle.ps_rows.specs.Planes.{row_of}
use Rattle.ps_rows.proofs.Marked.{plane_indexed}
use Rattle.ps_rows.proofs.Sets.{none_at}
use Rattle.ps_rows.proofs.planes.Planes.leave_in_row.Goals as goal

pub write_row-requires-clause-noted : goal.write_row-requires-clause-noted
write_row-requires-clause-noted g c = λ many off.
    let p = c.args.self.now in
    let plane : ℕ = c.args.plane in
    let counted : plane < p.index.len = plane_indexed p.index.len p.height plane p.words.len p.some_row p.whole
    c.requires.plane in
    let low : c.args.row < SIDE_LIMIT = omega (arith, c.requires.row, p.rows) in
    let blank : row_of p.words.items (plane * p.height + c.args.row) ≡ no_columns =
    p.marked plane c.args.row counted c.requires.row (p.noted many plane c.args.row counted low off) in
    empty_of c.args.word
    (λ x few. c.requires.within x few (ap (λ (w : List Bool). column_at w x) blank ∙ none_at x))
