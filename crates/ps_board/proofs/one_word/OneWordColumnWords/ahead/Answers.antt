use Rattle.std.proofs.Common.{List, Bool, ◌∙◌, ap}
use Rattle.ps_board.specs.ColumnSets.{both_columns, columns_ahead, columns_below}
use Rattle.ps_board.proofs.WordBits.{raised_word, raised_out}
use Rattle.ps_board.proofs.one_word.OneWordColumnWords.ahead.Goals as goal

pub returns-then-count-ge-WORD_BITS : goal.returns-then-count-ge-WORD_BITS
returns-then-count-ge-WORD_BITS c =
    raised_out c.self.inside.bits c.args.count c.if-count-ge-WORD_BITS.true
    ∙ ap (λ (columns : List Bool). both_columns (columns_below 64) (columns_ahead columns c.args.count)) c.self.view_is

pub returns : goal.returns
returns c = raised_word c.self.inside.bits c.args.count
    ∙ ap (λ (columns : List Bool). both_columns (columns_below 64) (columns_ahead columns c.args.count)) c.self.view_is
