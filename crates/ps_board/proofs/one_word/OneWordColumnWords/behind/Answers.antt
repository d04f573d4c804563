use Rattle.std.proofs.Common.{List, Bool, ◌∙◌, ap}
use Rattle.ps_board.specs.ColumnSets.{columns_behind}
use Rattle.ps_board.proofs.WordBits.{moved_word, moved_out}
use Rattle.ps_board.proofs.one_word.OneWordColumnWords.behind.Goals as goal

pub returns-then-count-ge-WORD_BITS : goal.returns-then-count-ge-WORD_BITS
returns-then-count-ge-WORD_BITS c =
    moved_out c.self.inside.bits c.args.count c.self.invariant c.if-count-ge-WORD_BITS.true
    ∙ ap (λ (columns : List Bool). columns_behind columns c.args.count) c.self.view_is

pub returns : goal.returns
returns c = moved_word c.self.inside.bits c.args.count c.self.invariant
    ∙ ap (λ (columns : List Bool). columns_behind columns c.args.count) c.self.view_is
