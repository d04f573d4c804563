use Rattle.std.proofs.Common.{Bool, List, ◌*◌, ◌-◌, ◌&&◌, ◌∙◌, ap}
use Rattle.std.specs.Prelude.{nat_le}
use Rattle.ps_board.specs.ColumnSets.{both_columns, columns_ahead, columns_below}
use Rattle.ps_board.specs.WordLists.{words_have}
use Rattle.ps_board.proofs.WordSteps.{made-more}
use Rattle.ps_board.proofs.MovedWords.{ahead_words}
use Rattle.ps_board.proofs.many_words.ManyWordsColumnWords.ahead.Goals as goal

pub loop-index-preserved : goal.loop-index-preserved
loop-index-preserved g c =
    made-more (λ x. nat_le c.args.count x && words_have c.self.inside.words (x - c.args.count)) g.row.COUNT
    c.loop-index.index c.word_ahead.result c.loop-index.words c.loop-index.invariant c.loop-index-test.true
    c.word_ahead.type_inv c.word_ahead.ensures.none c.word_ahead.ensures.tells

pub returns : goal.returns
returns g c =
    ahead_words g.row.COUNT c.loop-index.index c.self.inside.words c.loop-index.words c.args.count
    c.loop-index.invariant c.loop-index-test.false
    ∙ ap (λ (columns : List Bool). both_columns (columns_below (64 * g.row.COUNT)) (columns_ahead columns c.args.count))
    c.self.view_is
