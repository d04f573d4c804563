use Rattle.std.proofs.Common.{Bool, List, ◌&&◌, ◌∙◌, ap, not}
use Rattle.std.specs.Prelude.{nat_lt}
use Rattle.ps_board.specs.ColumnSets.{columns_below, columns_without}
use Rattle.ps_board.specs.WordLists.{words_have}
use Rattle.ps_board.proofs.HighWords.{high_tells, high_words}
use Rattle.ps_board.proofs.WordSteps.{made-more, made-none}
use Rattle.ps_board.proofs.many_words.ManyWordsColumnWords.not_below.Goals as goal

pub loop-index-init : goal.loop-index-init
loop-index-init g c =
    made-none (λ x. words_have c.self.inside.words x && not (nat_lt x c.args.count)) g.row.COUNT

pub loop-index-preserved : goal.loop-index-preserved
loop-index-preserved g c =
    made-more (λ x. words_have c.self.inside.words x && not (nat_lt x c.args.count)) g.row.COUNT c.loop-index.index
    c.joined_word.result c.loop-index.words c.loop-index.invariant c.loop-index-test.true c.joined_word.type_inv
    (λ far. c.joined_word.ensures.none (c.self.invariant.beyond c.loop-index.index far) (c.word_below.ensures.none far))
    (high_tells c.self.inside.words c.loop-index.index c.args.count c.joined_word.result c.word_below.result
    c.joined_word.ensures.bits c.word_below.ensures.tells)

pub returns : goal.returns
returns g c =
    high_words g.row.COUNT c.loop-index.index c.args.count c.self.inside.words c.loop-index.words c.self.invariant
    c.loop-index.invariant c.loop-index-test.false
    ∙ ap (λ (columns : List Bool). columns_without columns (columns_below c.args.count)) c.self.view_is
