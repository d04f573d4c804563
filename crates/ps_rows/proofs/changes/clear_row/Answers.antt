use Rattle.std.proofs.Common.{◌≡◌, ◌∙◌, ◌+◌, ◌*◌, ◌&&◌, Bool, List, true, not, sym, ap, subst}
use Rattle.std.specs.Prelude.{slice_set}
use Rattle.std.proofs.lemmas.Bool.{false≢true}
use Rattle.ps_board.specs.ColumnSets.{column_at, set_columns}
use Rattle.ps_rows.specs.Planes.{IsSet}
use Rattle.ps_rows.specs.RowChanges.{word_after}
use Rattle.ps_rows.proofs.RowChanges.{nothing_cleared, row_uncleared, word_cleared}
use Rattle.ps_rows.proofs.Sets.{set_where, true_by, without_at}
use Rattle.ps_rows.proofs.changes.clear_row.Goals as goal

pub returns-then-is_empty-clause-words : goal.returns-then-is_empty-clause-words
returns-then-is_empty-clause-words g c =
    let p = c.args.planes.now in
    row_uncleared p.height c.args.row c.args.change c.requires.row p.words.items c.args.plane c.row-word.result p.sets
    c.row-word.ensures c.requires.unset (ap set_columns (sym c.both.ensures) ∙ c.is_empty.ensures.none c.if-is_empty.true)

pub leave_in_row-requires-clause-set : goal.leave_in_row-requires-clause-set
leave_in_row-requires-clause-set g c =
    let P : List Bool → Type 0 = λ set. IsSet set in
    subst P (sym c.without.ensures)
    (set_where (λ x. column_at c.row-word.result x && not (column_at c.args.change.cleared x)))

pub leave_in_row-requires-clause-within : goal.leave_in_row-requires-clause-within
leave_in_row-requires-clause-within g c = λ x low off.
    ap (λ (w : List Bool). column_at w x) c.without.ensures
    ∙ without_at c.row-word.result c.args.change.cleared x low
    ∙ ap (λ (on : Bool). on && not (column_at c.args.change.cleared x))
    (ap (λ (w : List Bool). column_at w x) c.row-word.ensures ∙ off)

pub returns-clause-words : goal.returns-clause-words
returns-clause-words g c =
    let p = c.args.planes.now in
    c.leave_in_row.ensures.words
    ∙ ap (slice_set p.words.items (c.args.plane * p.height + c.args.row)) (c.without.ensures
    ∙ word_cleared c.args.change c.args.plane c.row-word.result c.requires.unset
    ∙ ap (word_after c.args.change c.args.plane) c.row-word.ensures)

pub returns-clause-left : goal.returns-clause-left
returns-clause-left g c = λ before left.
    let p = c.args.planes.now in
    let none = nothing_cleared p.height c.args.row c.args.change c.requires.row p.words.items c.args.plane
    c.row-word.result c.row-word.ensures c.requires.unset left in
    let yes : c.is_empty.result ≡ true =
    true_by c.is_empty.result (set_columns c.both.result) c.is_empty.ensures.some (ap set_columns c.both.ensures ∙ none)
    in
    absurd (false≢true (sym c.if-is_empty.false ∙ yes))
