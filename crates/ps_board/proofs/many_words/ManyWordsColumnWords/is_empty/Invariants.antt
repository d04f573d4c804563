use Rattle.std.proofs.Common.{◌≡◌, ◌<◌, ℕ}
use Rattle.ps_board.specs.WordLists.{word_at}
use Rattle.ps_board.proofs.many_words.ManyWordsColumnWords.is_empty.Given as goal

abbrev pub invariant-loop-index : goal.invariant-loop-index
invariant-loop-index g l =
    record {
      none : l.all ≡ 0 → (k : ℕ) → k < l.index → word_at l.self-inside.words k ≡ 0;
      all : ((k : ℕ) → k < l.index → word_at l.self-inside.words k ≡ 0) → l.all ≡ 0;
    }
