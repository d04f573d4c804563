-- A set of columns as the bits of several words, those of the lowest columns in the first word.
use Rattle.std.specs.Prelude.{ℕ, ◌*◌, ◌/◌, ◌%◌, ◌^◌, ◌≡◌, ◌<◌, ◌≤◌, Bool, List, map, length, take, drop, slice_index_or}
use Rattle.std.specs.List.{range_with_len}
use Rattle.ps_board.specs.declared.many_words.TheConstants.{WORDS_LIMIT}
use Rattle.ps_board.specs.ColumnSets.{bit_is_set, columns_where, columns_word}

-- the word at an index, and zero beyond the last one
abbrev pub word_at : List ℕ → ℕ → ℕ
word_at words index = slice_index_or words index 0

-- whether a column is one of the words' bits
abbrev pub words_have : List ℕ → ℕ → Bool
words_have words x = bit_is_set (word_at words (x / 64)) (x % 64)

abbrev pub words_columns : List ℕ → List Bool
words_columns words = columns_where (words_have words)

-- so many words with these bits
abbrev pub columns_words : ℕ → List Bool → List ℕ
columns_words count columns = map (λ k. columns_word (take 64 (drop (k * 64) columns))) (range_with_len 0 count)

-- words of a set: so many, each a word, and zero beyond those that columns have
pub record AreWords (count : ℕ) (words : List ℕ) : Type 0 where
  pub long : length words ≡ count
  pub each : (k : ℕ) → word_at words k < 2 ^ 64
  pub beyond : (k : ℕ) → WORDS_LIMIT ≤ k → word_at words k ≡ 0
