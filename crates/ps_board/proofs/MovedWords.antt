-- The words of a set whose columns move.
use Rattle.std.proofs.Common.{◌≡◌, ◌∙◌, ℕ, ◌+◌, ◌-◌, ◌*◌, ◌/◌, ◌%◌, ◌^◌, ◌<◌}
use Rattle.std.proofs.Common.{◌≤◌, ◌&&◌, ◌||◌, ◌⊎◌, inl, inr, Bool, true, false}
use Rattle.std.proofs.Common.{List, refl, sym, ap, ap₂, arith, bit_or}
use Rattle.std.specs.Prelude.{nat_le, nat_lt}
use Rattle.std.proofs.lemmas.Bool.Decides.{nat_tests}
use Rattle.ps_board.specs.ColumnSets.{bit_is_set, both_columns, column_at, columns_ahead, columns_behind, columns_below}
use Rattle.ps_board.specs.WordLists.{word_at, words_columns, words_have, AreWords}
use Rattle.ps_board.specs.WordSteps.{AreMade, TellsAt}
use Rattle.ps_board.proofs.ColumnLaws.{column_at-all, column_at-where, columns-agree}
use Rattle.ps_board.proofs.Bits.{moved_bit, no_bit_above, or_bit, raised_high, raised_low}
use Rattle.ps_board.proofs.WordSteps.{have_at, have_beyond, have_past, made-all}

or_false : (b : Bool) → (b || false) ≡ b
or_false true = refl
or_false false = refl

-- a word of columns that move down is made of two
behind_by : (words : List ℕ) (index count x first second : ℕ) (low : Bool) → nat_lt (x + count % 64) 64 ≡ low → x < 64 →
    first < 2 ^ 64 → first ≡ word_at words (index + count / 64) → second ≡ word_at words (index + count / 64 + 1) →
    bit_is_set (bit_or (first / 2 ^ (count % 64)) (second * 2 ^ (64 - count % 64) % 2 ^ 64)) x
    ≡ words_have words (index * 64 + x + count)
behind_by words index count x first second true t small fits is next =
    let low : x + count % 64 < 64 = grind (arith, nat_tests) in
    let place : (index + count / 64) * 64 + (x + count % 64) ≡ index * 64 + x + count = omega arith in
    or_bit (first / 2 ^ (count % 64)) (second * 2 ^ (64 - count % 64) % 2 ^ 64) x
    ∙ ap₂ (λ (p q : Bool). p || q) (moved_bit first (count % 64) x)
    (raised_low second (64 - count % 64) x (omega (arith, low)) small)
    ∙ or_false (bit_is_set first (x + count % 64))
    ∙ ap (λ (word : ℕ). bit_is_set word (x + count % 64)) is
    ∙ sym (have_at words (index + count / 64) (x + count % 64) low) ∙ ap (words_have words) place
behind_by words index count x first second false t small fits is next =
    let high : 64 ≤ x + count % 64 = grind (arith, nat_tests) in
    let place : (index + count / 64 + 1) * 64 + (x - (64 - count % 64)) ≡ index * 64 + x + count =
    omega (arith, high) in
    or_bit (first / 2 ^ (count % 64)) (second * 2 ^ (64 - count % 64) % 2 ^ 64) x
    ∙ ap₂ (λ (p q : Bool). p || q)
    (moved_bit first (count % 64) x ∙ no_bit_above first (x + count % 64) fits high)
    (raised_high second (64 - count % 64) x (omega (arith, high)) small)
    ∙ ap (λ (word : ℕ). bit_is_set word (x - (64 - count % 64))) next
    ∙ sym (have_at words (index + count / 64 + 1) (x - (64 - count % 64)) (omega (arith, small)))
    ∙ ap (words_have words) place

pub behind_tells : (words : List ℕ) (index count first second : ℕ) → first < 2 ^ 64 →
    first ≡ word_at words (index + count / 64) → second ≡ word_at words (index + count / 64 + 1) →
    TellsAt (λ x. words_have words (x + count)) index
    (bit_or (first / 2 ^ (count % 64)) (second * 2 ^ (64 - count % 64) % 2 ^ 64))
behind_tells words index count first second fits is next x small within =
    behind_by words index count x first second (nat_lt (x + count % 64) 64) refl small fits is next

kept_behind : (limit : ℕ) (words : List ℕ) (count x : ℕ) (low : Bool) → nat_lt x (64 * limit) ≡ low →
    AreWords limit words →
    (low && words_have words (x + count)) ≡ column_at (words_columns words) (x + count)
kept_behind limit words count x true t sound =
    sym (column_at-all (words_have words) (x + count) (λ far. have_beyond limit words (x + count) sound far))
kept_behind limit words count x false t sound =
    let far : 64 * limit ≤ x = grind (arith, nat_tests) in
    sym (column_at-all (words_have words) (x + count) (λ beyond. have_beyond limit words (x + count) sound beyond)
    ∙ have_past words (x + count) (rw sound.long (omega (arith, far))))

pub behind_words : (limit index : ℕ) (words made : List ℕ) (count : ℕ) → AreWords limit words →
    AreMade (λ x. words_have words (x + count)) limit index made → limit ≤ index →
    words_columns made ≡ columns_behind (words_columns words) count
behind_words limit index words made count sound so end =
    made-all (λ x. words_have words (x + count)) limit index made so end
    ∙ columns-agree (λ x. nat_lt x (64 * limit) && words_have words (x + count))
    (λ x. column_at (words_columns words) (x + count))
    (λ x low. kept_behind limit words count x (nat_lt x (64 * limit)) refl sound)

-- a word of columns that move up is made of two
ahead_high : (words : List ℕ) (index count x : ℕ) → count / 64 ≤ index → count % 64 ≤ x → x < 64 →
    bit_is_set (word_at words (index - count / 64) * 2 ^ (count % 64) % 2 ^ 64) x
    ≡ (nat_le count (index * 64 + x) && words_have words (index * 64 + x - count))
ahead_high words index count x from high small =
    let place : (index - count / 64) * 64 + (x - count % 64) ≡ index * 64 + x - count = omega (arith, from, high) in
    let behind : count ≤ index * 64 + x = omega (arith, from, high) in
    let yes : nat_le count (index * 64 + x) ≡ true = grind (arith, nat_tests, behind) in
    raised_high (word_at words (index - count / 64)) (count % 64) x high small
    ∙ sym (have_at words (index - count / 64) (x - count % 64) (omega (arith, small)))
    ∙ ap (words_have words) place
    ∙ sym (ap (λ (b : Bool). b && words_have words (index * 64 + x - count)) yes)

ahead_off : (words : List ℕ) (index count x : ℕ) → index ≡ count / 64 → x < count % 64 →
    false ≡ (nat_le count (index * 64 + x) && words_have words (index * 64 + x - count))
ahead_off words index count x is low =
    let before : index * 64 + x < count = omega (arith, is, low) in
    let no : nat_le count (index * 64 + x) ≡ false = grind (arith, nat_tests, before) in
    sym (ap (λ (b : Bool). b && words_have words (index * 64 + x - count)) no)

ahead_low : (words : List ℕ) (index count x : ℕ) → count / 64 < index → x < count % 64 →
    bit_is_set (word_at words (index - count / 64 - 1) / 2 ^ (64 - count % 64)) x
    ≡ (nat_le count (index * 64 + x) && words_have words (index * 64 + x - count))
ahead_low words index count x from low =
    let place : (index - count / 64 - 1) * 64 + (x + (64 - count % 64)) ≡ index * 64 + x - count =
    omega (arith, from, low) in
    let behind : count ≤ index * 64 + x = omega (arith, from) in
    let yes : nat_le count (index * 64 + x) ≡ true = grind (arith, nat_tests, behind) in
    moved_bit (word_at words (index - count / 64 - 1)) (64 - count % 64) x
    ∙ sym (have_at words (index - count / 64 - 1) (x + (64 - count % 64)) (omega (arith, low)))
    ∙ ap (words_have words) place
    ∙ sym (ap (λ (b : Bool). b && words_have words (index * 64 + x - count)) yes)

one_by : (words : List ℕ) (index count x : ℕ) (high : Bool) → nat_le (count % 64) x ≡ high → count / 64 ≤ index →
    (count % 64 ≡ 0) ⊎ (index ≡ count / 64) → x < 64 →
    bit_is_set (word_at words (index - count / 64) * 2 ^ (count % 64) % 2 ^ 64) x
    ≡ (nat_le count (index * 64 + x) && words_have words (index * 64 + x - count))
one_by words index count x true t from one small = ahead_high words index count x from (grind (arith, nat_tests)) small
one_by words index count x false t from one small =
    let low : x < count % 64 = grind (arith, nat_tests) in
    elim one [
      | inl whole ↦ absurd (omega (arith, whole, low))
      | inr is ↦ raised_low (word_at words (index - count / 64)) (count % 64) x low small
          ∙ ahead_off words index count x is low
    ]

pub ahead_one : (words : List ℕ) (index count : ℕ) → count / 64 ≤ index → (count % 64 ≡ 0) ⊎ (index ≡ count / 64) →
    TellsAt (λ x. nat_le count x && words_have words (x - count)) index
    (word_at words (index - count / 64) * 2 ^ (count % 64) % 2 ^ 64)
ahead_one words index count from one x small within =
    one_by words index count x (nat_le (count % 64) x) refl from one small

two_by : (words : List ℕ) (index count x : ℕ) (high : Bool) → nat_le (count % 64) x ≡ high → count / 64 < index →
    word_at words (index - count / 64 - 1) < 2 ^ 64 → x < 64 →
    bit_is_set (bit_or (word_at words (index - count / 64) * 2 ^ (count % 64) % 2 ^ 64)
    (word_at words (index - count / 64 - 1) / 2 ^ (64 - count % 64))) x
    ≡ (nat_le count (index * 64 + x) && words_have words (index * 64 + x - count))
two_by words index count x true t from fits small =
    let high : count % 64 ≤ x = grind (arith, nat_tests) in
    or_bit (word_at words (index - count / 64) * 2 ^ (count % 64) % 2 ^ 64)
    (word_at words (index - count / 64 - 1) / 2 ^ (64 - count % 64)) x
    ∙ ap₂ (λ (p q : Bool). p || q) (ahead_high words index count x (omega (arith, from)) high small)
    (moved_bit (word_at words (index - count / 64 - 1)) (64 - count % 64) x
    ∙ no_bit_above (word_at words (index - count / 64 - 1)) (x + (64 - count % 64)) fits (omega (arith, high)))
    ∙ or_false (nat_le count (index * 64 + x) && words_have words (index * 64 + x - count))
two_by words index count x false t from fits small =
    let low : x < count % 64 = grind (arith, nat_tests) in
    or_bit (word_at words (index - count / 64) * 2 ^ (count % 64) % 2 ^ 64)
    (word_at words (index - count / 64 - 1) / 2 ^ (64 - count % 64)) x
    ∙ ap₂ (λ (p q : Bool). p || q)
    (raised_low (word_at words (index - count / 64)) (count % 64) x low small) (ahead_low words index count x from low)

pub ahead_two : (words : List ℕ) (index count : ℕ) → count / 64 < index →
    word_at words (index - count / 64 - 1) < 2 ^ 64 →
    TellsAt (λ x. nat_le count x && words_have words (x - count)) index
    (bit_or (word_at words (index - count / 64) * 2 ^ (count % 64) % 2 ^ 64)
    (word_at words (index - count / 64 - 1) / 2 ^ (64 - count % 64)))
ahead_two words index count from fits x small within =
    two_by words index count x (nat_le (count % 64) x) refl from fits small

pub ahead_words : (limit index : ℕ) (words made : List ℕ) (count : ℕ) →
    AreMade (λ x. nat_le count x && words_have words (x - count)) limit index made → limit ≤ index →
    words_columns made ≡ both_columns (columns_below (64 * limit)) (columns_ahead (words_columns words) count)
ahead_words limit index words made count so end =
    made-all (λ x. nat_le count x && words_have words (x - count)) limit index made so end
    ∙ columns-agree (λ x. nat_lt x (64 * limit) && (nat_le count x && words_have words (x - count)))
    (λ x. column_at (columns_below (64 * limit)) x && column_at (columns_ahead (words_columns words) count) x)
    (λ x low. ap₂ (λ (p q : Bool). p && q) (sym (column_at-where (λ x. nat_lt x (64 * limit)) x low))
    (ap (λ (has : Bool). nat_le count x && has)
    (sym (column_at-where (words_have words) (x - count) (omega (arith, low))))
    ∙ sym (column_at-where (λ x. nat_le count x && column_at (words_columns words) (x - count)) x low)))
