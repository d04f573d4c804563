use Rattle.std.proofs.Common.{◌∙◌, ℕ, List, Bool, ap, subst}
use Rattle.ps_board.specs.ColumnSets.{column_at}
use Rattle.ps_rows.specs.Sameness.{HasUnlikeOf}
use Rattle.ps_rows.proofs.SameRows.{columns_alike, itself_alike}
use Rattle.ps_rows.proofs.row_board.RowBoardBoard.alike.Goals as goal

pub returns-clause-own : goal.returns-clause-own
returns-clause-own g c =
    let b = c.args.self.now in
    ap (λ (set : List Bool). column_at set c.args.column) c.without.ensures
    ∙ itself_alike b.width b.all_columns c.unlike_row-unlike.result c.args.column c.requires.column b.columns b.all
    c.unlike_row-unlike.ensures.0

pub returns-clause-alike : goal.returns-clause-alike
returns-clause-alike g c =
    let b = c.args.self.now in
    let IsUnlike : ℕ → Type 0 = λ count. HasUnlikeOf b.planes.height c.args.row count b.planes.words.items
    b.all_columns c.args.column c.unlike_row-unlike.result in
    rw c.without.ensures
    (columns_alike b.members.table.items b.width b.planes.height b.layers b.planes.words.items c.args.row c.args.column
    b.all_columns c.unlike_row-unlike.result c.requires.row c.requires.column b.columns b.all
    (subst IsUnlike c.count-objects.ensures.value c.unlike_row-unlike.ensures))
