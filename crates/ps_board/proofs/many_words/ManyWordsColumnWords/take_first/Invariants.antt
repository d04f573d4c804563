use Rattle.std.proofs.Common.{◌≡◌, ◌<◌, ℕ}
use Rattle.ps_board.specs.WordLists.{word_at}
use Rattle.ps_board.proofs.many_words.ManyWordsColumnWords.take_first.Given as goal

abbrev pub invariant-loop-index : goal.invariant-loop-index
invariant-loop-index g l =
    record {
      same : l.self-inside.words ≡ l.initial.self-inside.words;
      none : (k : ℕ) → k < l.index → word_at l.initial.self-inside.words k ≡ 0;
    }
