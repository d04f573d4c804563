use Rattle.std.proofs.Common.{◌∙◌, ap₂}
use Rattle.ps_board.specs.Joinings.{joined_columns, words_joined}
use Rattle.ps_board.proofs.WordSteps.{made-none, made-more}
use Rattle.ps_board.proofs.JoinedWords.{joined_tells, joined_words}
use Rattle.ps_board.proofs.many_words.ManyWords.joined.Goals as goal

pub loop-index-init : goal.loop-index-init
loop-index-init g c = made-none (words_joined c.args.joining c.self.inside.words c.other.inside.words) g.row.COUNT

pub loop-index-preserved : goal.loop-index-preserved
loop-index-preserved g c =
    made-more (words_joined c.args.joining c.self.inside.words c.other.inside.words) g.row.COUNT c.loop-index.index
    c.joined_word.result c.loop-index.words c.loop-index.invariant c.loop-index-test.true c.joined_word.type_inv
    (λ far. c.joined_word.ensures.none (c.self.invariant.beyond c.loop-index.index far)
    (c.other.invariant.beyond c.loop-index.index far))
    (joined_tells c.args.joining c.self.inside.words c.other.inside.words c.loop-index.index c.joined_word.result
    c.joined_word.ensures.bits)

pub invariant_of-result : goal.invariant_of-result
invariant_of-result g c = c.loop-index.invariant.sound

pub returns : goal.returns
returns g c =
    joined_words c.args.joining g.row.COUNT c.loop-index.index c.self.inside.words c.other.inside.words
    c.loop-index.words
    c.loop-index.invariant c.loop-index-test.false c.self.invariant.long c.other.invariant.long
    ∙ ap₂ (joined_columns c.args.joining) c.self.view_is c.other.view_is
