use Rattle.ps_board.proofs.MovedWords.{behind_tells}
use Rattle.ps_board.proofs.many_words.word_behind.Goals as goal

pub returns-clause-tells : goal.returns-clause-tells
returns-clause-tells c =
    behind_tells c.args.words.now c.args.index c.args.count c.word_or_zero.result c.word_or_zero-2.result
    c.word_or_zero.type_inv c.word_or_zero.ensures c.word_or_zero-2.ensures
