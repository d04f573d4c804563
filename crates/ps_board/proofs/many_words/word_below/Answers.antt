use Rattle.ps_board.proofs.OneOfWords.{all_below, some_below}
use Rattle.ps_board.proofs.many_words.word_below.Goals as goal

pub returns-then-first-count-clause-tells : goal.returns-then-first-count-clause-tells
returns-then-first-count-clause-tells c = all_below c.args.index c.args.count c.if-first-count.true

pub returns-clause-tells : goal.returns-clause-tells
returns-clause-tells c = some_below c.args.index c.args.count c.if-count-first.false c.if-first-count.false
