use Rattle.std.proofs.Common.{List, ℕ, ◌∷◌, ◌-◌, ◌*◌, ◌+◌, ◌<◌, ◌∙◌, ap, sym, arith, w64}
use Rattle.std.specs.Prelude.{◌≡◌, bit_and, slice_set}
use Rattle.std.specs.Int.{trailing_zeros}
use Rattle.ps_board.specs.ColumnSets.{set_columns}
use Rattle.ps_board.specs.WordLists.{word_at, words_columns}
use Rattle.ps_board.proofs.EmptyWords.{none_set}
use Rattle.ps_board.proofs.FirstOfWords.{first_taken}
use Rattle.ps_board.proofs.many_words.ManyWordsColumnWords.take_first.Goals as goal

pub returns-then-word-ne0-clause-some : goal.returns-then-word-ne0-clause-some
returns-then-word-ne0-clause-some g c =
    let index : ℕ = c.loop-index.index in
    let same : c.loop-index.self-inside.words ≡ c.self.inside.words = c.loop-index.invariant.same in
    let some : 0 < word_at c.self.inside.words index = rw (sym same) (omega (arith, c.if-word-ne0.true)) in
    ap set_columns (sym c.self.view_is)
    ∙ first_taken g.row.COUNT c.self.inside.words index c.self.invariant c.loop-index-test.true some
    c.loop-index.invariant.none
    ∙ ap (λ (words : List ℕ). (index * 64 + trailing_zeros w64 (word_at words index)) ∷
    set_columns (words_columns (slice_set words index (bit_and (word_at words index) (word_at words index - 1)))))
    (sym same)

pub returns-clause-none : goal.returns-clause-none
returns-clause-none g c = λ e. ap set_columns (sym c.self.view_is)
    ∙ none_set c.self.inside.words g.row.COUNT c.self.invariant.long
    (λ k low. c.loop-index.invariant.none k (omega (arith, low, c.loop-index-test.false)))
