use Rattle.std.proofs.Common.{◌∙◌, ap₂}
use Rattle.ps_board.specs.ColumnSets.{either_columns}
use Rattle.ps_board.proofs.WordBits.{or_word, or_below}
use Rattle.ps_board.proofs.one_word.OneWordColumnWords.either.Goals as goal

pub invariant_of-result : goal.invariant_of-result
invariant_of-result c = or_below c.self.inside.bits c.other.inside.bits c.self.invariant c.other.invariant

pub returns : goal.returns
returns c = or_word c.self.inside.bits c.other.inside.bits ∙ ap₂ either_columns c.self.view_is c.other.view_is
