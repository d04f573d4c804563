use Rattle.std.proofs.Common.{rules, ◌≡◌, ◌∙◌, ◌<◌, refl, Bool, false, true, List, ap, sym, subst}
use Rattle.std.specs.Prelude.{nat_eq, if◌then◌else◌}
use Rattle.ps_board.specs.ColumnSets.{column_at}
use Rattle.ps_rows.specs.Planes.{IsSet, row_of}
use Rattle.ps_rows.proofs.Marked.{plane_indexed}
use Rattle.ps_rows.proofs.Sets.{set_where}
use Rattle.ps_rows.proofs.Untouched.{unmarked_stays}
use Rattle.ps_rows.proofs.UsedPlanes.{less_one}
use Rattle.ps_rows.proofs.planes.Planes.set_cell.Goals as goal

pub returns-then-on-clause-words : goal.returns-then-on-clause-words
returns-then-on-clause-words g c =
    rw (c.set_row.ensures.words, c.with-word.ensures, c.row.ensures, c.if-on.true) refl

pub set_row-requires-clause-set : goal.set_row-requires-clause-set
set_row-requires-clause-set g c =
    let P : List Bool → Type 0 = λ set. IsSet set in
    subst P (sym c.with-word.ensures) (set_where (λ x.
    if nat_eq x c.args.column then true else column_at c.row.result x))

pub returns-then-not-has-clause-words : goal.returns-then-not-has-clause-words
returns-then-not-has-clause-words g c =
    let p = c.args.self.now in
    let counted : c.args.plane < p.index.len =
    plane_indexed p.index.len p.height c.args.plane p.words.len p.some_row p.whole c.requires.plane in
    let clear : column_at (row_of p.index.items c.args.plane) c.args.row ≡ false =
    ap (λ (rows : List Bool). column_at rows c.args.row) (sym c.rows_of.ensures) ∙ sym c.has.ensures
    ∙ c.if-not-has.true in
    unmarked_stays p.index.len p.height p.words.items p.index.items c.args.plane c.args.row c.args.column c.args.on
    counted c.requires.row p.marked clear c.if-on.false

pub leave_in_row-requires-clause-set : goal.leave_in_row-requires-clause-set
leave_in_row-requires-clause-set g c =
    let P : List Bool → Type 0 = λ set. IsSet set in
    subst P (sym c.with-word-2.ensures) (set_where (λ x.
    if nat_eq x c.args.column then false else column_at c.row-2.result x))

pub leave_in_row-requires-clause-within : goal.leave_in_row-requires-clause-within
leave_in_row-requires-clause-within g c = λ x low off.
    ap (λ (w : List Bool). column_at w x) c.with-word-2.ensures
    ∙ less_one c.row-2.result c.args.column x low (ap (λ (w : List Bool). column_at w x) c.row-2.ensures ∙ off)

pub returns-clause-words : goal.returns-clause-words
returns-clause-words g c =
    rw (c.leave_in_row.ensures.words, c.with-word-2.ensures, c.row-2.ensures, c.if-on.false) refl
