-- The words of a set that are made one after the other.
use Rattle.std.proofs.Common.{◌≡◌, ◌≢◌, ◌∙◌, ℕ, ◌+◌, ◌*◌, ◌/◌, ◌%◌, ◌^◌}
use Rattle.std.proofs.Common.{◌<◌, ◌≤◌, ◌&&◌, suc, zero, Bool, true, false, List}
use Rattle.std.proofs.Common.{length, replicate, refl, sym, ap, ap₂, arith}
use Rattle.std.specs.Prelude.{nat_eq, nat_lt, slice_set}
use Rattle.std.proofs.lemmas.Bool.Decides.{nat_tests}
use Rattle.std.proofs.lemmas.Nat.{div-mul-add, mod-mul-add}
use Rattle.std.proofs.lemmas.List.{get_or-set_same, get_or-set_other, get_or_past, length-replicate, length-set}
use Rattle.std.proofs.lemmas.Nat.Bits.{bit_at-zero}
use Rattle.ps_model.specs.declared.limits.TheConstants.{SIDE_LIMIT}
use Rattle.ps_board.specs.declared.many_words.TheConstants.{WORDS_LIMIT}
use Rattle.ps_board.specs.ColumnSets.{bit_is_set, columns_where}
use Rattle.ps_board.specs.WordLists.{word_at, words_columns, words_have, AreWords}
use Rattle.ps_board.specs.WordSteps.{TellsAt, Tell, AreMade}
use Rattle.ps_board.proofs.ColumnLaws.{columns-agree}

-- one more word is a word of a set
below_by : (words : List ℕ) (index value k : ℕ) (same : Bool) → nat_eq k index ≡ same → index < length words →
    value < 2 ^ 64 → word_at words k < 2 ^ 64 → word_at (slice_set words index value) k < 2 ^ 64
below_by words index value k true t low fits before =
    let is : k ≡ index = grind (arith, nat_tests) in
    rw (is, get_or-set_same words index value 0 low) fits
below_by words index value k false t low fits before =
    let other : k ≢ index = grind (arith, nat_tests) in
    rw (get_or-set_other words index k value 0 other) before

zero_by : (words : List ℕ) (index value k : ℕ) (same : Bool) → nat_eq k index ≡ same → index < length words →
    (WORDS_LIMIT ≤ index → value ≡ 0) → (WORDS_LIMIT ≤ k → word_at words k ≡ 0) → WORDS_LIMIT ≤ k →
    word_at (slice_set words index value) k ≡ 0
zero_by words index value k true t low none before far =
    let is : k ≡ index = grind (arith, nat_tests) in
    rw (is, get_or-set_same words index value 0 low) (none (omega (arith, far)))
zero_by words index value k false t low none before far =
    let other : k ≢ index = grind (arith, nat_tests) in
    rw (get_or-set_other words index k value 0 other) (before far)

pub sound-more : (count : ℕ) (words : List ℕ) (index value : ℕ) → AreWords count words → index < count →
    value < 2 ^ 64 → (WORDS_LIMIT ≤ index → value ≡ 0) → AreWords count (slice_set words index value)
sound-more count words index value sound low fits none =
    let within : index < length words = rw sound.long low in
    record {
      long = length-set words index value ∙ sound.long;
      each = λ k. below_by words index value k (nat_eq k index) refl within fits (sound.each k);
      beyond = λ k far. zero_by words index value k (nat_eq k index) refl within none (sound.beyond k) far;
    }

-- one more word tells
tell_by : (holds : ℕ → Bool) (words : List ℕ) (index value k : ℕ) (same : Bool) → nat_eq k index ≡ same →
    index < length words → k < index + 1 → TellsAt holds index value → (k < index → TellsAt holds k (word_at words k)) →
    TellsAt holds k (word_at (slice_set words index value) k)
tell_by holds words index value k true t low near here before x small within =
    let is : k ≡ index = grind (arith, nat_tests) in
    rw is (ap (λ (word : ℕ). bit_is_set word x) (get_or-set_same words index value 0 low)
    ∙ here x small (rw (sym is) within))
tell_by holds words index value k false t low near here before x small within =
    let other : k ≢ index = grind (arith, nat_tests) in
    ap (λ (word : ℕ). bit_is_set word x) (get_or-set_other words index k value 0 other)
    ∙ before (omega (arith, near, other)) x small within

tell-more : (holds : ℕ → Bool) (words : List ℕ) (index value : ℕ) → index < length words →
    Tell holds index words → TellsAt holds index value → Tell holds (index + 1) (slice_set words index value)
tell-more holds words index value low before here k near =
    tell_by holds words index value k (nat_eq k index) refl low near here (before k)

-- the columns of all words that tell
told_by : (holds : ℕ → Bool) (count : ℕ) (words : List ℕ) (x : ℕ) (low : Bool) → nat_lt x (64 * count) ≡ low →
    Tell holds count words → length words ≡ count → x < SIDE_LIMIT → words_have words x ≡ (low && holds x)
told_by holds count words x true t tell long within =
    let near : x < 64 * count = grind (arith, nat_tests) in
    let small : x % 64 < 64 = omega arith in
    let again : x / 64 * 64 + x % 64 ≡ x = omega arith in
    tell (x / 64) (omega arith) (x % 64) small (rw again within) ∙ ap holds again
told_by holds count words x false t tell long within =
    let far : 64 * count ≤ x = grind (arith, nat_tests) in
    ap (λ (word : ℕ). bit_is_set word (x % 64)) (get_or_past words (x / 64) 0 (omega arith))
    ∙ ap (λ (bit : ℕ). nat_eq bit 1) (bit_at-zero (x % 64))

told : (holds : ℕ → Bool) (count : ℕ) (words : List ℕ) → Tell holds count words → length words ≡ count →
    words_columns words ≡ columns_where (λ x. nat_lt x (64 * count) && holds x)
told holds count words tell long = columns-agree (words_have words) (λ x. nat_lt x (64 * count) && holds x)
    (λ x low. told_by holds count words x (nat_lt x (64 * count)) refl tell long low)

-- words of which none is made yet
zero_words : (count k : ℕ) → word_at (replicate count 0) k ≡ 0
zero_words zero k = refl
zero_words (suc count) zero = refl
zero_words (suc count) (suc k) = zero_words count k

pub made-none : (holds : ℕ → Bool) (count : ℕ) → AreMade holds count 0 (replicate count 0)
made-none holds count =
    record {
      sound =
          record {
            long = length-replicate count 0;
            each = λ k. rw (zero_words count k) (omega arith);
            beyond = λ k far. zero_words count k;
          };
      tell = λ k low. absurd (omega (arith, low));
    }

pub made-more : (holds : ℕ → Bool) (count index value : ℕ) (words : List ℕ) → AreMade holds count index words →
    index < count → value < 2 ^ 64 → (WORDS_LIMIT ≤ index → value ≡ 0) → TellsAt holds index value →
    AreMade holds count (index + 1) (slice_set words index value)
made-more holds count index value words made low fits none here =
    record {
      sound = sound-more count words index value made.sound low fits none;
      tell = tell-more holds words index value (rw made.sound.long low) made.tell here;
    }

-- the columns of words that are all made
pub made-all : (holds : ℕ → Bool) (count index : ℕ) (words : List ℕ) → AreMade holds count index words → count ≤ index →
    words_columns words ≡ columns_where (λ x. nat_lt x (64 * count) && holds x)
made-all holds count index words made end =
    told holds count words (λ k low. made.tell k (omega (arith, low, end))) made.sound.long

-- a column of a word, and one beyond all words
pub have_at : (words : List ℕ) (index x : ℕ) → x < 64 →
    words_have words (index * 64 + x) ≡ bit_is_set (word_at words index) x
have_at words index x small = ap₂ (λ (k bit : ℕ). bit_is_set (word_at words k) bit) (div-mul-add index 64 x small)
    (mod-mul-add index 64 x small)

pub have_past : (words : List ℕ) (x : ℕ) → 64 * length words ≤ x → words_have words x ≡ false
have_past words x far =
    ap (λ (word : ℕ). bit_is_set word (x % 64)) (get_or_past words (x / 64) 0 (omega (arith, far)))
    ∙ ap (λ (bit : ℕ). nat_eq bit 1) (bit_at-zero (x % 64))

pub have_beyond : (count : ℕ) (words : List ℕ) (x : ℕ) → AreWords count words → SIDE_LIMIT ≤ x →
    words_have words x ≡ false
have_beyond count words x sound far =
    ap (λ (word : ℕ). bit_is_set word (x % 64)) (sound.beyond (x / 64) (omega (arith, far)))
    ∙ ap (λ (bit : ℕ). nat_eq bit 1) (bit_at-zero (x % 64))
