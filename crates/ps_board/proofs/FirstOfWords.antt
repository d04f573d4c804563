-- The first column of several words.
use Rattle.std.proofs.Common.{◌≡◌, ◌∙◌, ℕ, ◌+◌, ◌-◌, ◌*◌, ◌/◌, ◌%◌, ◌^◌}
use Rattle.std.proofs.Common.{◌<◌, ◌≤◌, Bool, true, false, List, ◌∷◌, length}
use Rattle.std.proofs.Common.{refl, sym, ap, arith, w64}
use Rattle.std.specs.Prelude.{nat_eq, nat_lt, if◌then◌else◌, bit_and, slice_set}
use Rattle.std.specs.Int.{bit_at, trailing_zeros}
use Rattle.std.proofs.lemmas.Bool.Decides.{nat_tests}
use Rattle.std.proofs.lemmas.Nat.{div-mul-add, mod-mul-add}
use Rattle.std.proofs.lemmas.Nat.Bits.{bit_at-zero, bit_at-trailing_zeros}
use Rattle.ps_model.specs.declared.limits.TheConstants.{SIDE_LIMIT}
use Rattle.ps_board.specs.declared.many_words.TheConstants.{WORDS_LIMIT}
use Rattle.ps_board.specs.ColumnSets.{bit_is_set, set_columns}
use Rattle.ps_board.specs.WordLists.{word_at, words_columns, words_have, AreWords}
use Rattle.ps_board.proofs.ColumnLaws.{set_columns-first}
use Rattle.ps_board.proofs.OneOfWords.{HasBit, with_by}
use Rattle.ps_board.proofs.Bits.{clear_lowest}
use Rattle.ps_board.proofs.WordSteps.{have_at}

-- a word that isn't zero is none of those beyond the last one
near_by : (count : ℕ) (words : List ℕ) (index : ℕ) (near : Bool) → nat_lt index WORDS_LIMIT ≡ near →
    AreWords count words → 0 < word_at words index → index < WORDS_LIMIT
near_by count words index true t sound some = grind (arith, nat_tests)
near_by count words index false t sound some =
    let none : word_at words index ≡ 0 = sound.beyond index (grind (arith, nat_tests)) in
    absurd (omega (arith, none, some))

pub near : (count : ℕ) (words : List ℕ) (index : ℕ) → AreWords count words → 0 < word_at words index →
    index < WORDS_LIMIT
near count words index sound some = near_by count words index (nat_lt index WORDS_LIMIT) refl sound some

pub low_first : (word : ℕ) → 0 < word → word < 2 ^ 64 → trailing_zeros w64 word < 64
low_first word some fits = let says = bit_at-trailing_zeros w64 word some fits in says.0

-- the set without its first column
without_one : (words : List ℕ) (column word x : ℕ) → column / 64 < length words →
    HasBit (word_at words (column / 64)) (column % 64) false word →
    words_have (slice_set words (column / 64) word) x ≡ (if nat_eq x column then false else words_have words x)
without_one words column word x low changed =
    with_by words column word x false (nat_eq (x / 64) (column / 64)) refl low changed

first_out : (words : List ℕ) (column word : ℕ) → column < SIDE_LIMIT → column / 64 < length words →
    HasBit (word_at words (column / 64)) (column % 64) false word → words_have words column ≡ true →
    ((x : ℕ) → x < column → words_have words x ≡ false) →
    set_columns (words_columns words) ≡ column ∷ set_columns (words_columns (slice_set words (column / 64) word))
first_out words column word within low changed here none =
    set_columns-first (words_have words) (words_have (slice_set words (column / 64) word)) column within here
    (let is : nat_eq column column ≡ true = grind (arith, nat_tests) in
    without_one words column word column low changed
    ∙ ap (λ (same : Bool). if same then false else words_have words column) is)
    none
    (λ x small after. let other : nat_eq x column ≡ false = grind (arith, nat_tests, after) in
    sym (without_one words column word x low changed
    ∙ ap (λ (same : Bool). if same then false else words_have words x) other))
    (λ x before. let other : nat_eq x column ≡ false = grind (arith, nat_tests, before) in
    without_one words column word x low changed
    ∙ ap (λ (same : Bool). if same then false else words_have words x) other ∙ none x before)

none_by : (words : List ℕ) (index first x : ℕ) (earlier : Bool) → nat_lt (x / 64) index ≡ earlier → first < 64 →
    x < index * 64 + first → ((k : ℕ) → k < index → word_at words k ≡ 0) →
    ((bit : ℕ) → bit < first → bit_at (word_at words index) bit ≡ 0) → words_have words x ≡ false
none_by words index first x true t low before none least =
    ap (λ (word : ℕ). bit_is_set word (x % 64)) (none (x / 64) (grind (arith, nat_tests)))
    ∙ ap (λ (bit : ℕ). nat_eq bit 1) (bit_at-zero (x % 64))
none_by words index first x false t low before none least =
    let high : index ≤ x / 64 = grind (arith, nat_tests) in
    let here : x / 64 ≡ index = omega (arith, high, before, low) in
    ap (λ (k : ℕ). bit_is_set (word_at words k) (x % 64)) here
    ∙ ap (λ (bit : ℕ). nat_eq bit 1) (least (x % 64) (omega (arith, here, before)))

pub first_taken : (count : ℕ) (words : List ℕ) (index : ℕ) → AreWords count words → index < count →
    0 < word_at words index → ((k : ℕ) → k < index → word_at words k ≡ 0) →
    set_columns (words_columns words) ≡ (index * 64 + trailing_zeros w64 (word_at words index)) ∷
    set_columns (words_columns (slice_set words index (bit_and (word_at words index) (word_at words index - 1))))
first_taken count words index sound low some none =
    let word : ℕ = word_at words index in
    let first : ℕ = trailing_zeros w64 word in
    let says = bit_at-trailing_zeros w64 word some (sound.each index) in
    let small : first < 64 = says.0 in
    let least : (x : ℕ) → x < first → bit_at word x ≡ 0 = says.2 in
    let column : ℕ = index * 64 + first in
    let limit : index < WORDS_LIMIT = near count words index sound some in
    let here : column / 64 ≡ index = div-mul-add index 64 first small in
    let place : column % 64 ≡ first = mod-mul-add index 64 first small in
    let changed : HasBit (word_at words (column / 64)) (column % 64) false (bit_and word (word - 1)) =
    λ x within. clear_lowest word first x says.1 least
    ∙ sym (ap (λ (bit : ℕ). if nat_eq x bit then false else bit_is_set (word_at words (column / 64)) x) place
    ∙ ap (λ (k : ℕ). if nat_eq x first then false else bit_is_set (word_at words k) x) here) in
    first_out words column (bit_and word (word - 1)) (omega (arith, limit, small)) (rw (here, sound.long) low) changed
    (have_at words index first small ∙ ap (λ (bit : ℕ). nat_eq bit 1) says.1)
    (λ x before. none_by words index first x (nat_lt (x / 64) index) refl small before none least)
    ∙ ap (λ (k : ℕ). column ∷ set_columns (words_columns (slice_set words k (bit_and word (word - 1))))) here
