use Rattle.std.proofs.Common.{◌∙◌, ap₂}
use Rattle.ps_board.specs.ColumnSets.{unlike_columns}
use Rattle.ps_board.proofs.WordBits.{xor_word, xor_below}
use Rattle.ps_board.proofs.one_word.OneWordColumnWords.unlike.Goals as goal

pub invariant_of-result : goal.invariant_of-result
invariant_of-result c = xor_below c.self.inside.bits c.other.inside.bits c.self.invariant c.other.invariant

pub returns : goal.returns
returns c = xor_word c.self.inside.bits c.other.inside.bits ∙ ap₂ unlike_columns c.self.view_is c.other.view_is
