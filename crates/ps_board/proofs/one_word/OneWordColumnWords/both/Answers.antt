use Rattle.std.proofs.Common.{◌∙◌, ap₂}
use Rattle.ps_board.specs.ColumnSets.{both_columns}
use Rattle.ps_board.proofs.WordBits.{and_word}
use Rattle.ps_board.proofs.one_word.OneWordColumnWords.both.Goals as goal

pub returns : goal.returns
returns c = and_word c.self.inside.bits c.other.inside.bits ∙ ap₂ both_columns c.self.view_is c.other.view_is
