use Rattle.ps_board.proofs.OneOfWords.{below_all}
use Rattle.ps_board.proofs.many_words.ManyWordsColumnWords.all.Goals as goal

pub returns : goal.returns
returns g c = below_all g.row.COUNT c.loop-index.index c.loop-index.words c.loop-index.invariant
    c.loop-index-test.false
