use Rattle.ps_board.proofs.WordBits.{all_word}
use Rattle.ps_board.proofs.one_word.OneWordColumnWords.all.Goals as goal

pub returns : goal.returns
returns c = all_word
