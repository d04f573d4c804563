use Rattle.ps_rows.proofs.RowChanges.{cleared_left, cleared_rows, rows_kept}
use Rattle.ps_rows.proofs.changes.change_rows.Goals as goal

pub returns-then-changes_nothing-clause-words : goal.returns-then-changes_nothing-clause-words
returns-then-changes_nothing-clause-words g c =
    rows_kept c.args.planes.now.height c.args.row c.args.change c.args.planes.now.words.items c.args.places.now
    (c.changes_nothing.ensures c.if-changes_nothing.true)

pub returns-then-only_clears-clause-words : goal.returns-then-only_clears-clause-words
returns-then-only_clears-clause-words g c =
    cleared_rows c.args.planes.now.height c.args.row c.args.change c.clearing.result c.args.planes.now.words.items
    c.change_each.new.planes.words.items c.args.places.now (c.only_clears.ensures c.if-only_clears.true)
    c.clearing.ensures c.change_each.ensures.words

pub returns-then-only_clears-clause-left : goal.returns-then-only_clears-clause-left
returns-then-only_clears-clause-left g c = λ before left.
    c.change_each.ensures.left before
    (cleared_left c.args.planes.now.height c.args.row c.args.change c.clearing.result c.args.planes.now.words.items
    c.args.places.now (c.only_clears.ensures c.if-only_clears.true) c.clearing.ensures left)
