use Rattle.std.proofs.Common.{◌≡◌, ◌∙◌, ◌+◌, ◌*◌, Bool, List, true, sym, ap, subst}
use Rattle.std.specs.Prelude.{slice_set}
use Rattle.std.proofs.lemmas.Bool.{false≢true}
use Rattle.ps_board.specs.ColumnSets.{either_columns, set_columns}
use Rattle.ps_rows.specs.Planes.{IsSet}
use Rattle.ps_rows.specs.RowChanges.{word_after}
use Rattle.ps_rows.proofs.RowChanges.{nothing_unlike, row_stays, set_after, word_filled}
use Rattle.ps_rows.proofs.Sets.{true_by}
use Rattle.ps_rows.proofs.changes.fill_row.Goals as goal

pub returns-then-is_empty-clause-words : goal.returns-then-is_empty-clause-words
returns-then-is_empty-clause-words g c =
    let p = c.args.planes.now in
    let made : c.either-after.result ≡ word_after c.args.change c.args.plane c.row-word.result =
    c.either-after.ensures ∙ ap (λ (kept : List Bool). either_columns kept c.args.change.set) c.without.ensures
    ∙ word_filled c.args.change c.args.plane c.row-word.result c.requires.chosen in
    row_stays p.height c.args.row c.args.change c.requires.row p.words.items c.args.plane c.row-word.result
    c.either-after.result p.sets c.row-word.ensures made
    (ap set_columns (sym c.unlike.ensures) ∙ c.is_empty.ensures.none c.if-is_empty.true)

pub set_row-requires-clause-set : goal.set_row-requires-clause-set
set_row-requires-clause-set g c =
    let made : c.either-after.result ≡ word_after c.args.change c.args.plane c.row-word.result =
    c.either-after.ensures ∙ ap (λ (kept : List Bool). either_columns kept c.args.change.set) c.without.ensures
    ∙ word_filled c.args.change c.args.plane c.row-word.result c.requires.chosen in
    let P : List Bool → Type 0 = λ set. IsSet set in
    subst P (sym made) (set_after c.args.change c.args.plane c.row-word.result)

pub returns-clause-words : goal.returns-clause-words
returns-clause-words g c =
    let p = c.args.planes.now in
    let made : c.either-after.result ≡ word_after c.args.change c.args.plane c.row-word.result =
    c.either-after.ensures ∙ ap (λ (kept : List Bool). either_columns kept c.args.change.set) c.without.ensures
    ∙ word_filled c.args.change c.args.plane c.row-word.result c.requires.chosen in
    c.set_row.ensures.words
    ∙ ap (slice_set p.words.items (c.args.plane * p.height + c.args.row)) (made
    ∙ ap (word_after c.args.change c.args.plane) c.row-word.ensures)

pub returns-clause-left : goal.returns-clause-left
returns-clause-left g c = λ before left.
    let p = c.args.planes.now in
    let made : c.either-after.result ≡ word_after c.args.change c.args.plane c.row-word.result =
    c.either-after.ensures ∙ ap (λ (kept : List Bool). either_columns kept c.args.change.set) c.without.ensures
    ∙ word_filled c.args.change c.args.plane c.row-word.result c.requires.chosen in
    let none = nothing_unlike p.height c.args.row c.args.change c.requires.row p.words.items c.args.plane
    c.row-word.result c.either-after.result c.row-word.ensures made left in
    let yes : c.is_empty.result ≡ true =
    true_by c.is_empty.result (set_columns c.unlike.result) c.is_empty.ensures.some (ap set_columns c.unlike.ensures
    ∙ none) in
    absurd (false≢true (sym c.if-is_empty.false ∙ yes))
