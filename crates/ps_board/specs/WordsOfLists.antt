-- Several words are known by the columns of their bits.
use Rattle.std.proofs.Common.{◌≡◌, ◌∙◌, ℕ, ◌+◌, ◌-◌, ◌*◌, ◌%◌, ◌^◌, ◌<◌, ◌≤◌, suc, zero, map, sym, ap, ap₂}
use Rattle.std.proofs.Common.{List, ◌∷◌, take, drop, arith, Bool, true, false, refl}
use Rattle.std.specs.Prelude.{nat_lt}
use Rattle.std.specs.List.{range_with_len}
use Rattle.std.proofs.Math.Nat.{mod-eq_of_lt, div-one}
use Rattle.std.proofs.lemmas.Bool.Decides.{nat_tests}
use Rattle.std.proofs.lemmas.Nat.{div-mul-add, mod-mul-add}
use Rattle.std.proofs.lemmas.List.{drop_all}
use Rattle.std.proofs.lemmas.List.FromFn.{length-map-range_with_len, get_or-map-range_with_len}
use Rattle.std.proofs.lemmas.List.FromFn.{take-map-range_with_len}
use Rattle.std.proofs.lemmas.Grind.{same_number_lists}
use Rattle.ps_model.specs.declared.limits.TheConstants.{SIDE_LIMIT}
use Rattle.ps_board.specs.declared.many_words.TheConstants.{WORDS_LIMIT}
use Rattle.ps_board.specs.ColumnSets.{bit_is_set, columns_where, columns_word}
use Rattle.ps_board.specs.WordLists.{columns_words, words_columns, words_have, word_at, AreWords}
use Rattle.ps_board.specs.WordsOfColumns.{bits_from}

word_again : (word : ℕ) → word < 2 ^ 64 → columns_word (map (bit_is_set word) (range_with_len 0 64)) ≡ word
word_again word within = bits_from word 0 64 ∙ ap (λ (n : ℕ). n % 2 ^ 64) (div-one word) ∙ mod-eq_of_lt within

-- values of numbers in a row, from one on
dropped : (f : ℕ → Bool) (a n m : ℕ) → drop n (map f (range_with_len a (n + m))) ≡ map f (range_with_len (a + n) m)
dropped f a zero m = let first : a ≡ a + 0 = omega arith in let all : 0 + m ≡ m = omega arith in
    ap₂ (λ (b n : ℕ). map f (range_with_len b n)) first all
dropped f a (suc n) m =
    let more : suc n + m ≡ suc (n + m) = omega arith in
    let first : a + 1 + n ≡ a + suc n = omega arith in
    ap (λ (k : ℕ). drop (suc n) (map f (range_with_len a k))) more ∙ dropped f (a + 1) n m
    ∙ ap (λ (b : ℕ). map f (range_with_len b m)) first

shifted : (f g : ℕ → Bool) (a b n : ℕ) → ((i : ℕ) → i < n → f (a + i) ≡ g (b + i)) →
    map f (range_with_len a n) ≡ map g (range_with_len b n)
shifted f g a b zero e = refl
shifted f g a b (suc n) e =
    let first : f a ≡ g b =
    let here : a ≡ a + 0 = omega arith in
    let there : b ≡ b + 0 = omega arith in
    ap f here ∙ e 0 (omega arith) ∙ sym (ap g there) in
    ap₂ (λ (x : Bool) (xs : List Bool). x ∷ xs) first
    (shifted f g (a + 1) (b + 1) n (λ i low. let here : a + 1 + i ≡ a + suc i = omega arith in
    let there : b + 1 + i ≡ b + suc i = omega arith in ap f here ∙ e (suc i) (omega (arith, low)) ∙ sym (ap g there)))

-- the word of an index is made of the values of its columns
word_of_index : (words : List ℕ) (k : ℕ) → word_at words k < 2 ^ 64 → k < WORDS_LIMIT →
    columns_word (take 64 (drop (k * 64) (words_columns words))) ≡ word_at words k
unfolding columns_where
word_of_index words k within low =
    let whole : SIDE_LIMIT ≡ k * 64 + (SIDE_LIMIT - k * 64) = omega (arith, low) in
    ap (λ (n : ℕ). columns_word (take 64 (drop (k * 64) (map (words_have words) (range_with_len 0 n))))) whole
    ∙ ap (λ (columns : List Bool). columns_word (take 64 columns))
    (dropped (words_have words) 0 (k * 64) (SIDE_LIMIT - k * 64))
    ∙ ap columns_word
    (take-map-range_with_len (words_have words) (0 + k * 64) (SIDE_LIMIT - k * 64) 64 (omega (arith, low)))
    ∙ ap columns_word (shifted (words_have words) (bit_is_set (word_at words k)) (0 + k * 64) 0 64
    (λ i small. let same : i ≡ 0 + i = omega arith in
    let here : 0 + k * 64 + i ≡ k * 64 + i = omega arith in
    ap (words_have words) here
    ∙ ap₂ (λ (index bit : ℕ). bit_is_set (word_at words index) bit) (div-mul-add k 64 i small)
    (mod-mul-add k 64 i small ∙ same)))
    ∙ word_again (word_at words k) within

-- there are no columns of a word beyond the last one
word_beyond : (words : List ℕ) (k : ℕ) → word_at words k ≡ 0 → WORDS_LIMIT ≤ k →
    columns_word (take 64 (drop (k * 64) (words_columns words))) ≡ word_at words k
unfolding columns_where
word_beyond words k none high =
    ap (λ (columns : List Bool). columns_word (take 64 columns))
    (drop_all (k * 64) (map (words_have words) (range_with_len 0 SIDE_LIMIT))
    (rw (length-map-range_with_len (words_have words) 0 SIDE_LIMIT) (omega (arith, high))))
    ∙ sym none

word_of : (words : List ℕ) (k : ℕ) (low : Bool) → nat_lt k WORDS_LIMIT ≡ low →
    word_at words k < 2 ^ 64 → (WORDS_LIMIT ≤ k → word_at words k ≡ 0) →
    columns_word (take 64 (drop (k * 64) (words_columns words))) ≡ word_at words k
word_of words k true t within far = word_of_index words k within (grind (arith, nat_tests))
word_of words k false t within far =
    let high : WORDS_LIMIT ≤ k = grind (arith, nat_tests) in word_beyond words k (far high) high

pub words-of : (count : ℕ) (words : List ℕ) → AreWords count words → columns_words count (words_columns words) ≡ words
words-of count words sound =
    let f : ℕ → ℕ = λ k. columns_word (take 64 (drop (k * 64) (words_columns words))) in
    same_number_lists (columns_words count (words_columns words)) words
    (length-map-range_with_len f 0 count ∙ sym sound.long)
    (λ k low. let short : k < count = rw (sym (length-map-range_with_len f 0 count)) low in
    get_or-map-range_with_len f 0 count k k 0 short (omega arith)
    ∙ word_of words k (nat_lt k WORDS_LIMIT) refl (sound.each k) (sound.beyond k))
