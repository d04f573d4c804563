use Rattle.std.proofs.Common.{Bool, List, ◌∙◌, ap, arith}
use Rattle.ps_board.specs.ColumnSets.{with_column}
use Rattle.ps_board.proofs.OneOfWords.{with_beyond, with_words}
use Rattle.ps_board.proofs.many_words.ManyWordsColumnWords.with.Goals as goal

pub returns-then-index-ge-WORDS_LIMIT : goal.returns-then-index-ge-WORDS_LIMIT
returns-then-index-ge-WORDS_LIMIT g c =
    with_beyond c.self.inside.words c.args.column c.args.set c.if-index-ge-WORDS_LIMIT.true
    ∙ ap (λ (columns : List Bool). with_column columns c.args.column c.args.set) c.self.view_is

pub returns : goal.returns
returns g c =
    with_words c.self.inside.words c.args.column c.word_with.result c.args.set
    (rw c.self.invariant.long (omega (arith, c.requires)))
    c.word_with.ensures
    ∙ ap (λ (columns : List Bool). with_column columns c.args.column c.args.set) c.self.view_is
