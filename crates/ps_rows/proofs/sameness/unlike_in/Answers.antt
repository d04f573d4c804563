use Rattle.std.proofs.Common.{◌+◌, ◌*◌, ◌<◌, ◌∙◌, ℕ, sym, ap, Bool, List}
use Rattle.ps_rows.proofs.Marked.{plane_indexed}
use Rattle.ps_rows.proofs.Unlike.{none_unlike, others_unlike, own_unlike}
use Rattle.ps_board.specs.ColumnSets.{column_at}
use Rattle.ps_rows.specs.Planes.{row_of}
use Rattle.ps_rows.proofs.sameness.unlike_in.Goals as goal

pub returns-then-not-has : goal.returns-then-not-has
returns-then-not-has g c =
    let p = c.args.planes.now in
    let plane : ℕ = c.args.plane in
    let counted : plane < p.index.len = plane_indexed p.index.len p.height plane p.words.len p.some_row p.whole
    c.requires.plane in
    let unmarked = ap (λ (word : List Bool). column_at word c.args.row) (sym c.rows_of.ensures) ∙ sym c.has.ensures
    ∙ c.if-not-has.true in
    rw c.none.ensures
    (none_unlike c.args.all (row_of p.words.items (plane * p.height + c.args.row)) c.args.column
    (p.marked plane c.args.row counted c.requires.row unmarked))

pub returns-then-has : goal.returns-then-has
returns-then-has g c =
    rw (c.without.ensures, ← c.row-word.ensures)
    (others_unlike c.args.all c.row-word.result c.args.column c.requires.column (sym c.has-2.ensures
    ∙ c.if-has.true))

pub returns : goal.returns
returns g c =
    rw (← c.row-word.ensures) (own_unlike c.args.all c.row-word.result c.args.column (sym c.has-2.ensures
    ∙ c.if-has.false))
