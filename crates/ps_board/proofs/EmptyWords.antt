-- Words of which none has a bit.
use Rattle.std.proofs.Common.{◌≡◌, ◌≢◌, ◌∙◌, ℕ, ◌+◌, ◌*◌, ◌/◌, ◌%◌, ◌<◌, Bool, true, false, List, [], ◌∷◌, length}
use Rattle.std.proofs.Common.{refl, sym, ap, arith, bit_or}
use Rattle.std.specs.Prelude.{nat_eq, nat_lt}
use Rattle.std.proofs.lemmas.Bool.Decides.{nat_tests}
use Rattle.std.proofs.lemmas.List.{get_or_past}
use Rattle.std.proofs.lemmas.Nat.Bits.{bit_at-zero}
use Rattle.ps_model.specs.declared.limits.TheConstants.{SIDE_LIMIT}
use Rattle.ps_board.specs.declared.many_words.TheConstants.{WORDS_LIMIT}
use Rattle.ps_board.specs.ColumnSets.{bit_is_set, set_columns}
use Rattle.ps_board.specs.WordLists.{word_at, words_columns, words_have, AreWords}
use Rattle.ps_board.proofs.ColumnLaws.{column_at-where, columns-agree, none_in, set_columns-none}
use Rattle.ps_board.proofs.Bits.{no_bits, or_none}
use Rattle.ps_board.proofs.WordSteps.{have_at}

-- one more word that has none
zero_more_by : (words : List ℕ) (index k : ℕ) (same : Bool) → nat_eq k index ≡ same → k < index + 1 →
    word_at words index ≡ 0 → (k < index → word_at words k ≡ 0) → word_at words k ≡ 0
zero_more_by words index k true t near here before = let is : k ≡ index = grind (arith, nat_tests) in rw is here
zero_more_by words index k false t near here before =
    let other : k ≢ index = grind (arith, nat_tests) in before (omega (arith, near, other))

pub zero_more : (words : List ℕ) (all index k : ℕ) → (all ≡ 0 → (k : ℕ) → k < index → word_at words k ≡ 0) →
    bit_or all (word_at words index) ≡ 0 → k < index + 1 → word_at words k ≡ 0
zero_more words all index k before none near =
    let both = or_none all (word_at words index) none in
    zero_more_by words index k (nat_eq k index) refl near both.1 (before both.0 k)

-- no word has a bit: no column is in the set
zero_at : (words : List ℕ) (count k : ℕ) (low : Bool) → nat_lt k count ≡ low → length words ≡ count →
    ((k : ℕ) → k < count → word_at words k ≡ 0) → word_at words k ≡ 0
zero_at words count k true t long none = none k (grind (arith, nat_tests))
zero_at words count k false t long none = get_or_past words k 0 (rw long (grind (arith, nat_tests)))

pub none_set : (words : List ℕ) (count : ℕ) → length words ≡ count → ((k : ℕ) → k < count → word_at words k ≡ 0) →
    set_columns (words_columns words) ≡ []
none_set words count long none =
    ap set_columns (columns-agree (words_have words) (λ x. false)
    (λ x low. ap (λ (word : ℕ). bit_is_set word (x % 64))
    (zero_at words count (x / 64) (nat_lt (x / 64) count) refl long none)
    ∙ ap (λ (bit : ℕ). nat_eq bit 1) (bit_at-zero (x % 64))))
    ∙ set_columns-none

-- no column is in the set: no word has a bit
zero_by : (words : List ℕ) (count k : ℕ) (low : Bool) → nat_lt k WORDS_LIMIT ≡ low → AreWords count words →
    set_columns (words_columns words) ≡ [] → word_at words k ≡ 0
zero_by words count k true t sound none =
    let near : k < WORDS_LIMIT = grind (arith, nat_tests) in
    no_bits (word_at words k) (sound.each k)
    (λ x small. let within : k * 64 + x < SIDE_LIMIT = omega (arith, near, small) in
    sym (have_at words k x small) ∙ sym (column_at-where (words_have words) (k * 64 + x) within)
    ∙ none_in (words_columns words) (k * 64 + x) none within)
zero_by words count k false t sound none = sound.beyond k (grind (arith, nat_tests))

some_by : (words : List ℕ) (count all : ℕ) (columns : List ℕ) → set_columns (words_columns words) ≡ columns →
    AreWords count words → nat_eq all 0 ≡ false → (((k : ℕ) → k < count → word_at words k ≡ 0) → all ≡ 0) →
    0 < length columns
some_by words count all [] e sound some none =
    let zero : all ≡ 0 = none (λ k low. zero_by words count k (nat_lt k WORDS_LIMIT) refl sound e) in
    absurd (grind (arith, nat_tests, some, zero))
some_by words count all (k ∷ ks) e sound some none = omega arith

pub some_set : (words : List ℕ) (count all : ℕ) → AreWords count words → nat_eq all 0 ≡ false →
    (((k : ℕ) → k < count → word_at words k ≡ 0) → all ≡ 0) → 0 < length (set_columns (words_columns words))
some_set words count all sound some none =
    some_by words count all (set_columns (words_columns words)) refl sound some none
