use Rattle.ps_board.proofs.OneOfWords.{below_some}
use Rattle.ps_board.proofs.many_words.ManyWordsColumnWords.below.Goals as goal

pub returns : goal.returns
returns g c = below_some g.row.COUNT c.loop-index.index c.args.count c.loop-index.words
    c.loop-index.invariant c.loop-index-test.false c.requires
