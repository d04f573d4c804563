use Rattle.std.proofs.Common.{◌∙◌, ℕ, ◌+◌, ◌*◌, ◌<◌, ◌≤◌, Bool, List, length, sym, ap, arith, subst}
use Rattle.std.specs.Prelude.{slice_set}
use Rattle.std.proofs.Math.Nat.{mul-le-mul_left}
use Rattle.std.proofs.lemmas.Bool.{ltb-false}
use Rattle.ps_board.specs.ColumnSets.{unlike_columns}
use Rattle.ps_rows.specs.Planes.{IsSet}
use Rattle.ps_rows.proofs.RowDifferences.{changed_below, changed_beyond, changed_inside, unlike_set}
use Rattle.ps_rows.proofs.row_differences.change_row.Goals as goal

pub returns-then-planes-row-clause-words : goal.returns-then-planes-row-clause-words
returns-then-planes-row-clause-words g c =
    let p = c.args.planes.now in sym (changed_below p.height p.words.items c.args.difference.now c.if-planes-row.true)

pub returns-then-not-has_plane-clause-words : goal.returns-then-not-has_plane-clause-words
returns-then-not-has_plane-clause-words g c =
    let p = c.args.planes.now in
    let plane : ℕ = c.args.difference.now.plane in
    let beyond : p.index.len ≤ plane = ltb-false plane p.index.len (sym c.has_plane.ensures
    ∙ c.if-not-has_plane.true) in
    let more : p.height * p.index.len ≤ p.height * plane = mul-le-mul_left p.height beyond in
    let past : length p.words.items ≤ plane * p.height + c.args.difference.now.row =
    omega (arith, more, p.whole, p.words.ok.0) in
    sym (changed_beyond p.height p.words.items c.args.difference.now past)

pub set_row-requires-clause-set : goal.set_row-requires-clause-set
set_row-requires-clause-set g c =
    let P : List Bool → Type 0 = λ set. IsSet set in
    subst P (sym c.unlike-columns.ensures) (unlike_set c.row.result c.args.difference.now.columns)

pub returns-clause-words : goal.returns-clause-words
returns-clause-words g c =
    let p = c.args.planes.now in
    let difference = c.args.difference.now in
    let under : difference.row < p.height = omega (arith, c.if-planes-row.false) in
    c.set_row.ensures.words
    ∙ ap (slice_set p.words.items (difference.plane * p.height + difference.row))
    (c.unlike-columns.ensures ∙ ap (λ (set : List Bool). unlike_columns set difference.columns) c.row.ensures)
    ∙ sym (changed_inside p.height p.words.items difference under)
