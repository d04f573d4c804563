use Rattle.std.proofs.Common.{◌∙◌, sym}
use Rattle.ps_rows.specs.Showing.{motion_planes}
use Rattle.ps_rows.proofs.RowChanges.{rows_clear, rows_kept}
use Rattle.ps_rows.proofs.changes.change_motions.Goals as goal

pub returns-then-changes_nothing-clause-words : goal.returns-then-changes_nothing-clause-words
returns-then-changes_nothing-clause-words g c =
    rows_kept c.args.planes.now.height c.args.row c.args.change c.args.planes.now.words.items
    (motion_planes c.args.first) (c.changes_nothing.ensures c.if-changes_nothing.true)

pub returns-then-not-has-clause-words : goal.returns-then-not-has-clause-words
returns-then-not-has-clause-words g c =
    let p = c.args.planes.now in
    rows_clear p.height c.args.row c.args.change p.words.items (motion_planes c.args.first)
    (c.only_clears.ensures c.if-only_clears.true)
    (λ plane listed. c.five_rows_of.ensures plane c.args.row listed c.requires.row
    (sym c.has.ensures ∙ c.if-not-has.true))
