use Rattle.std.proofs.Common.{List, Bool, ◌∙◌, ap}
use Rattle.ps_board.specs.ColumnSets.{column_at}
use Rattle.ps_board.proofs.WordBits.{tested_word, tested_beyond}
use Rattle.ps_board.proofs.one_word.OneWordColumnWords.has.Goals as goal

pub returns-then-column-ge-WORD_BITS : goal.returns-then-column-ge-WORD_BITS
returns-then-column-ge-WORD_BITS c =
    tested_beyond c.self.inside.bits c.args.column c.self.invariant c.if-column-ge-WORD_BITS.true
    ∙ ap (λ (columns : List Bool). column_at columns c.args.column) c.self.view_is

pub returns : goal.returns
returns c =
    tested_word c.self.inside.bits c.args.column c.self.invariant
    ∙ ap (λ (columns : List Bool). column_at columns c.args.column) c.self.view_is
