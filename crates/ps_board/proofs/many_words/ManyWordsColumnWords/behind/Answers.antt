use Rattle.std.proofs.Common.{Bool, List, ◌+◌, ◌∙◌, ap}
use Rattle.ps_board.specs.ColumnSets.{columns_behind}
use Rattle.ps_board.specs.WordLists.{words_have}
use Rattle.ps_board.proofs.WordSteps.{made-more}
use Rattle.ps_board.proofs.MovedWords.{behind_words}
use Rattle.ps_board.proofs.many_words.ManyWordsColumnWords.behind.Goals as goal

pub loop-index-preserved : goal.loop-index-preserved
loop-index-preserved g c =
    made-more (λ x. words_have c.self.inside.words (x + c.args.count)) g.row.COUNT c.loop-index.index
    c.word_behind.result
    c.loop-index.words c.loop-index.invariant c.loop-index-test.true c.word_behind.type_inv c.word_behind.ensures.none
    c.word_behind.ensures.tells

pub returns : goal.returns
returns g c =
    behind_words g.row.COUNT c.loop-index.index c.self.inside.words c.loop-index.words c.args.count c.self.invariant
    c.loop-index.invariant c.loop-index-test.false
    ∙ ap (λ (columns : List Bool). columns_behind columns c.args.count) c.self.view_is
