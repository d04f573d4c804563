use Rattle.std.proofs.Common.{Bool, List, ◌∙◌, ap}
use Rattle.ps_board.specs.ColumnSets.{column_at}
use Rattle.ps_board.proofs.OneOfWords.{tested, tested_past}
use Rattle.ps_board.proofs.many_words.ManyWordsColumnWords.has.Goals as goal

pub returns-then-index : goal.returns-then-index
returns-then-index g c =
    tested_past g.row.COUNT c.self.inside.words c.args.column c.self.invariant c.if-index.true
    ∙ ap (λ (columns : List Bool). column_at columns c.args.column) c.self.view_is

pub returns : goal.returns
returns g c =
    tested g.row.COUNT c.self.inside.words c.args.column c.self.invariant
    ∙ ap (λ (columns : List Bool). column_at columns c.args.column) c.self.view_is
