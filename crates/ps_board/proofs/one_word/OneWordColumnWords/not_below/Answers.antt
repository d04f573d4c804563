use Rattle.std.proofs.Common.{List, Bool, ◌∙◌, ap}
use Rattle.ps_board.specs.ColumnSets.{columns_below, columns_without}
use Rattle.ps_board.proofs.WordBits.{kept_word, kept_out}
use Rattle.ps_board.proofs.one_word.OneWordColumnWords.not_below.Goals as goal

pub returns-then-count-ge-WORD_BITS : goal.returns-then-count-ge-WORD_BITS
returns-then-count-ge-WORD_BITS c =
    kept_out c.self.inside.bits c.args.count c.self.invariant c.if-count-ge-WORD_BITS.true
    ∙ ap (λ (columns : List Bool). columns_without columns (columns_below c.args.count)) c.self.view_is

pub returns : goal.returns
returns c = kept_word c.self.inside.bits c.args.count c.self.invariant
    ∙ ap (λ (columns : List Bool). columns_without columns (columns_below c.args.count)) c.self.view_is
