use Rattle.std.proofs.Common.{◌∙◌, ap₂}
use Rattle.ps_board.specs.ColumnSets.{columns_without}
use Rattle.ps_board.proofs.WordBits.{minus_word}
use Rattle.ps_board.proofs.one_word.OneWordColumnWords.without.Goals as goal

pub returns : goal.returns
returns c = minus_word c.self.inside.bits c.other.inside.bits c.self.invariant c.other.invariant
    ∙ ap₂ columns_without c.self.view_is c.other.view_is
