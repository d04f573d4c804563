use Rattle.ps_board.proofs.WordBits.{below_some}
use Rattle.ps_board.proofs.one_word.OneWordColumnWords.below.Goals as goal

pub returns : goal.returns
returns c = below_some c.args.count c.requires
