-- The bits of a word: joined with those of another, set and cleared, moved, and the lowest one taken out.
use Rattle.std.proofs.Common.{◌≡◌, ◌≢◌, ◌∙◌, ℕ, ◌+◌, ◌-◌, ◌*◌, ◌/◌, ◌%◌, ◌^◌, ◌<◌}
use Rattle.std.proofs.Common.{◌≤◌, ◌&&◌, ◌||◌, ◌⊎◌, inl, inr, not, suc, zero, Bool}
use Rattle.std.proofs.Common.{true, false, min, max, refl, sym, ap, arith, bit_or, bit_xor, w64}
use Rattle.std.specs.Prelude.{nat_eq, nat_lt, if◌then◌else◌, bit_and}
use Rattle.std.specs.Int.{bit_at, bit_not}
use Rattle.std.proofs.Math.Bool.{and-false}
use Rattle.std.proofs.Math.Nat.{div-div-eq-div-mul, mod-lt}
use Rattle.std.proofs.lemmas.Nat.{pow-add, pow_pos, shr_split}
use Rattle.std.proofs.lemmas.Nat.Bits.{bit_at_cat_low, bit_at_cat_high}
use Rattle.std.proofs.lemmas.Bool.Decides.{nat_tests}
use Rattle.std.proofs.lemmas.Nat.Bits.{bit_at_above, bit_at_ones, bit_at_ones_above}
use Rattle.std.proofs.lemmas.Nat.Bits.{bit_at-zero, ones_shr, same_from_bits}
use Rattle.std.proofs.lemmas.Nat.Bits.{bit_at_set_same, bit_at_set_other, bit_at_clear_same, bit_at_clear_other}
use Rattle.std.proofs.lemmas.Nat.Bits.{bit_at-lt, bit_at_and, bit_at_or, bit_at_xor, bit_at_not}
use Rattle.ps_board.specs.ColumnSets.{bit_is_set}

-- a bit is 0 or 1
bit_value : (bit : ℕ) → bit < 2 → (bit ≡ 0) ⊎ (bit ≡ 1)
bit_value zero low = inl refl
bit_value (suc zero) low = inr refl
bit_value (suc (suc bit)) low = absurd (omega arith)

min_bits : (p q : ℕ) → p < 2 → q < 2 → nat_eq (min p q) 1 ≡ (nat_eq p 1 && nat_eq q 1)
min_bits p q hp hq = elim (bit_value p hp) [
  | inl e ↦ elim (bit_value q hq) [ inl d ↦ rw (e, d) refl | inr d ↦ rw (e, d) refl ]
  | inr e ↦ elim (bit_value q hq) [ inl d ↦ rw (e, d) refl | inr d ↦ rw (e, d) refl ]
]

max_bits : (p q : ℕ) → p < 2 → q < 2 → nat_eq (max p q) 1 ≡ (nat_eq p 1 || nat_eq q 1)
max_bits p q hp hq = elim (bit_value p hp) [
  | inl e ↦ elim (bit_value q hq) [ inl d ↦ rw (e, d) refl | inr d ↦ rw (e, d) refl ]
  | inr e ↦ elim (bit_value q hq) [ inl d ↦ rw (e, d) refl | inr d ↦ rw (e, d) refl ]
]

sum_bits : (p q : ℕ) → p < 2 → q < 2 →
    nat_eq ((p + q) % 2) 1 ≡ (if nat_eq p 1 then not (nat_eq q 1) else nat_eq q 1)
sum_bits p q hp hq = elim (bit_value p hp) [
  | inl e ↦ elim (bit_value q hq) [ inl d ↦ rw (e, d) refl | inr d ↦ rw (e, d) refl ]
  | inr e ↦ elim (bit_value q hq) [ inl d ↦ rw (e, d) refl | inr d ↦ rw (e, d) refl ]
]

pub and_bit : (a b x : ℕ) → bit_is_set (bit_and a b) x ≡ (bit_is_set a x && bit_is_set b x)
and_bit a b x = ap (λ (bit : ℕ). nat_eq bit 1) (bit_at_and a b x)
    ∙ min_bits (bit_at a x) (bit_at b x) (bit_at-lt a x) (bit_at-lt b x)

pub or_bit : (a b x : ℕ) → bit_is_set (bit_or a b) x ≡ (bit_is_set a x || bit_is_set b x)
or_bit a b x = ap (λ (bit : ℕ). nat_eq bit 1) (bit_at_or a b x)
    ∙ max_bits (bit_at a x) (bit_at b x) (bit_at-lt a x) (bit_at-lt b x)

pub xor_bit : (a b x : ℕ) → bit_is_set (bit_xor a b) x
    ≡ (if bit_is_set a x then not (bit_is_set b x) else bit_is_set b x)
xor_bit a b x = ap (λ (bit : ℕ). nat_eq bit 1) (bit_at_xor a b x)
    ∙ sum_bits (bit_at a x) (bit_at b x) (bit_at-lt a x) (bit_at-lt b x)

-- the bits of a word turned round
not_bit : (word x : ℕ) → word < 2 ^ 64 → x < 64 → bit_is_set (18446744073709551615 - word) x ≡ not (bit_is_set word x)
not_bit word x fits low = elim (bit_value (bit_at word x) (bit_at-lt word x)) [
  | inl e ↦ rw (bit_at_not w64 word x fits low, e) refl
  | inr e ↦ rw (bit_at_not w64 word x fits low, e) refl
]

pub minus_bit : (a b x : ℕ) → b < 2 ^ 64 → x < 64 →
    bit_is_set (bit_and a (18446744073709551615 - b)) x ≡ (bit_is_set a x && not (bit_is_set b x))
minus_bit a b x fits low = and_bit a (18446744073709551615 - b) x
    ∙ ap (λ (set : Bool). bit_is_set a x && set) (not_bit b x fits low)

-- one more bit, and one less
set_bit_by : (word place x : ℕ) (same : Bool) → nat_eq x place ≡ same → place < 64 →
    bit_is_set (bit_or word (1 * 2 ^ place % 2 ^ 64)) x ≡ (if same then true else bit_is_set word x)
set_bit_by word place x true t low =
    let is : x ≡ place = grind (arith, nat_tests) in
    rw is (ap (λ (bit : ℕ). nat_eq bit 1) (bit_at_set_same w64 word place low))
set_bit_by word place x false t low =
    let other : x ≢ place = grind (arith, nat_tests) in
    ap (λ (bit : ℕ). nat_eq bit 1) (bit_at_set_other w64 word place low x other)

clear_bit_by : (word place x : ℕ) (same : Bool) → nat_eq x place ≡ same → place < 64 → x < 64 →
    bit_is_set (bit_and word (bit_not w64 (1 * 2 ^ place % 2 ^ 64))) x ≡ (if same then false else bit_is_set word x)
clear_bit_by word place x true t low within =
    let is : x ≡ place = grind (arith, nat_tests) in
    rw is (ap (λ (bit : ℕ). nat_eq bit 1) (bit_at_clear_same w64 word place low))
clear_bit_by word place x false t low within =
    let other : x ≢ place = grind (arith, nat_tests) in
    ap (λ (bit : ℕ). nat_eq bit 1) (bit_at_clear_other w64 word place low x within other)

pub set_bit : (word place x : ℕ) → place < 64 →
    bit_is_set (bit_or word (1 * 2 ^ place % 2 ^ 64)) x ≡ (if nat_eq x place then true else bit_is_set word x)
set_bit word place x low = set_bit_by word place x (nat_eq x place) refl low

pub clear_bit : (word place x : ℕ) → place < 64 → x < 64 →
    bit_is_set (bit_and word (bit_not w64 (1 * 2 ^ place % 2 ^ 64))) x
    ≡ (if nat_eq x place then false else bit_is_set word x)
clear_bit word place x low within = clear_bit_by word place x (nat_eq x place) refl low within

-- the lowest bits of a word
pub full_bit : (x : ℕ) → x < 64 → bit_is_set (2 ^ 64 - 1) x ≡ true
full_bit x low = ap (λ (bit : ℕ). nat_eq bit 1) (bit_at_ones 64 x low)

low_ones : (count x : ℕ) (low : Bool) → nat_lt x count ≡ low → bit_is_set (2 ^ count - 1) x ≡ low
low_ones count x true t = ap (λ (bit : ℕ). nat_eq bit 1) (bit_at_ones count x (grind (arith, nat_tests)))
low_ones count x false t = ap (λ (bit : ℕ). nat_eq bit 1) (bit_at_ones_above count x (grind (arith, nat_tests)))

pub low_bit : (less x : ℕ) → less ≤ 64 → bit_is_set ((2 ^ 64 - 1) / 2 ^ less) x ≡ nat_lt x (64 - less)
low_bit less x few = ap (λ (word : ℕ). bit_is_set word x) (ones_shr 64 less few)
    ∙ low_ones (64 - less) x (nat_lt x (64 - less)) refl

-- a word without bits
no_bit_by : (word x : ℕ) (low : Bool) → nat_lt x 64 ≡ low → word < 2 ^ 64 → (x < 64 → bit_is_set word x ≡ false) →
    bit_at word x ≡ 0
no_bit_by word x true t fits none =
    let here : bit_is_set word x ≡ false = none (grind (arith, nat_tests)) in
    let low : bit_at word x < 2 = bit_at-lt word x in
    grind (arith, nat_tests, here, low)
no_bit_by word x false t fits none = bit_at_above word 64 x fits (grind (arith, nat_tests))

pub no_bits : (word : ℕ) → word < 2 ^ 64 → ((x : ℕ) → x < 64 → bit_is_set word x ≡ false) → word ≡ 0
no_bits word fits none = same_from_bits word 0
    (λ x. no_bit_by word x (nat_lt x 64) refl fits (none x) ∙ sym (bit_at-zero x))

-- two words of which none has a bit
pub or_none : (a b : ℕ) → bit_or a b ≡ 0 → (a ≡ 0) × (b ≡ 0)
or_none a b e =
    let neither : (x : ℕ) → max (bit_at a x) (bit_at b x) ≡ 0 = λ x. sym (bit_at_or a b x)
    ∙ ap (λ (word : ℕ). bit_at word x) e ∙ bit_at-zero x in (
      same_from_bits a 0
          (λ x. let here : max (bit_at a x) (bit_at b x) ≡ 0 = neither x in rw (bit_at-zero x) (omega (arith, here))),
      same_from_bits b 0
          (λ x. let here : max (bit_at a x) (bit_at b x) ≡ 0 = neither x in rw (bit_at-zero x) (omega (arith, here))),
    )

-- the bits of a word moved down, and up
pub no_bit_above : (word x : ℕ) → word < 2 ^ 64 → 64 ≤ x → bit_is_set word x ≡ false
no_bit_above word x fits high = ap (λ (bit : ℕ). nat_eq bit 1) (bit_at_above word 64 x fits high)

pub moved_bit : (word count x : ℕ) → bit_is_set (word / 2 ^ count) x ≡ bit_is_set word (x + count)
moved_bit word count x =
    let turned : count + x ≡ x + count = omega arith in
    ap (λ (n : ℕ). nat_eq (n % 2) 1)
    (div-div-eq-div-mul word (2 ^ count) (2 ^ x)
    ∙ ap (λ (n : ℕ). word / n) (sym (pow-add 2 count x) ∙ ap (λ (n : ℕ). 2 ^ n) turned))

kept_bit : (word x : ℕ) → x < 64 → bit_at (word % 2 ^ 64) x ≡ bit_at word x
kept_bit word x low = sym (bit_at_cat_low (word / 2 ^ 64) 64 (word % 2 ^ 64) x low)
    ∙ ap (λ (n : ℕ). bit_at n x) (shr_split word 64)

pub raised_low : (word count x : ℕ) → x < count → x < 64 → bit_is_set (word * 2 ^ count % 2 ^ 64) x ≡ false
raised_low word count x near low =
    let plain : word * 2 ^ count + 0 ≡ word * 2 ^ count = omega arith in
    ap (λ (bit : ℕ). nat_eq bit 1) (kept_bit (word * 2 ^ count) x low ∙ ap (λ (n : ℕ). bit_at n x) (sym plain)
    ∙ bit_at_cat_low word count 0 x near ∙ bit_at-zero x)

pub raised_high : (word count x : ℕ) → count ≤ x → x < 64 →
    bit_is_set (word * 2 ^ count % 2 ^ 64) x ≡ bit_is_set word (x - count)
raised_high word count x far low =
    let plain : word * 2 ^ count + 0 ≡ word * 2 ^ count = omega arith in
    ap (λ (bit : ℕ). nat_eq bit 1) (kept_bit (word * 2 ^ count) x low ∙ ap (λ (n : ℕ). bit_at n x) (sym plain)
    ∙ bit_at_cat_high word count 0 x (pow_pos count) far)

-- the lowest bit of a word taken out
low_part_by : (word count x : ℕ) (low : Bool) → nat_lt x count ≡ low → ((x : ℕ) → x < count → bit_at word x ≡ 0) →
    bit_at (word % 2 ^ count) x ≡ 0
low_part_by word count x true t none =
    let low : x < count = grind (arith, nat_tests) in
    sym (bit_at_cat_low (word / 2 ^ count) count (word % 2 ^ count) x low)
    ∙ ap (λ (n : ℕ). bit_at n x) (shr_split word count) ∙ none x low
low_part_by word count x false t none =
    bit_at_above (word % 2 ^ count) count x (mod-lt word (pow_pos count)) (grind (arith, nat_tests))

low_part : (word count : ℕ) → ((x : ℕ) → x < count → bit_at word x ≡ 0) → word % 2 ^ count ≡ 0
low_part word count none = same_from_bits (word % 2 ^ count) 0
    (λ x. low_part_by word count x (nat_lt x count) refl none ∙ sym (bit_at-zero x))

one_less : (even power word : ℕ) → 0 < power → (even + 1) * power + 0 ≡ word →
    (even + 0) * power + (power - 1) ≡ word - 1
one_less even power word some is = omega (arith, some, is)

-- a word, and one less, by the half of what stands from the lowest bit on
word_again : (word first : ℕ) → bit_at word first ≡ 1 → ((x : ℕ) → x < first → bit_at word x ≡ 0) →
    (word / 2 ^ first / 2 * 2 ^ 1 + 1) * 2 ^ first + 0 ≡ word
word_again word first here least =
    let odd : word / 2 ^ first / 2 * 2 ^ 1 + 1 ≡ word / 2 ^ first = omega (arith, here) in
    ap (λ (n : ℕ). n * 2 ^ first + 0) odd
    ∙ ap (λ (n : ℕ). word / 2 ^ first * 2 ^ first + n) (sym (low_part word first least)) ∙ shr_split word first

less_again : (word first : ℕ) → bit_at word first ≡ 1 → ((x : ℕ) → x < first → bit_at word x ≡ 0) →
    (word / 2 ^ first / 2 * 2 ^ 1 + 0) * 2 ^ first + (2 ^ first - 1) ≡ word - 1
less_again word first here least =
    one_less (word / 2 ^ first / 2 * 2 ^ 1) (2 ^ first) word (pow_pos first) (word_again word first here least)

above_lowest : (word first x : ℕ) → bit_at word first ≡ 1 → ((x : ℕ) → x < first → bit_at word x ≡ 0) → first < x →
    bit_at (word - 1) x ≡ bit_at word x
above_lowest word first x here least far =
    let half : ℕ = word / 2 ^ first / 2 in
    let some : 0 < 2 ^ first = pow_pos first in
    let up : 1 ≤ x - first = omega (arith, far) in
    ap (λ (n : ℕ). bit_at n x) (sym (less_again word first here least))
    ∙ bit_at_cat_high (half * 2 ^ 1 + 0) first (2 ^ first - 1) x (omega (arith, some)) (omega (arith, far))
    ∙ bit_at_cat_high half 1 0 (x - first) (omega arith) up
    ∙ sym (bit_at_cat_high half 1 1 (x - first) (omega arith) up)
    ∙ sym (bit_at_cat_high (half * 2 ^ 1 + 1) first 0 x some (omega (arith, far)))
    ∙ ap (λ (n : ℕ). bit_at n x) (word_again word first here least)

at_lowest : (word first : ℕ) → bit_at word first ≡ 1 → ((x : ℕ) → x < first → bit_at word x ≡ 0) →
    bit_at (word - 1) first ≡ 0
at_lowest word first here least =
    let half : ℕ = word / 2 ^ first / 2 in
    let some : 0 < 2 ^ first = pow_pos first in
    let down : first - first ≡ 0 = omega arith in
    ap (λ (n : ℕ). bit_at n first) (sym (less_again word first here least))
    ∙ bit_at_cat_high (half * 2 ^ 1 + 0) first (2 ^ first - 1) first (omega (arith, some)) (omega arith)
    ∙ ap (λ (x : ℕ). bit_at (half * 2 ^ 1 + 0) x) down ∙ bit_at_cat_low half 1 0 0 (omega arith) ∙ bit_at-zero 0

and_same : (b : Bool) → (b && b) ≡ b
and_same true = refl
and_same false = refl

lowest_by : (word first x : ℕ) (same before : Bool) → nat_eq x first ≡ same → nat_lt x first ≡ before →
    bit_at word first ≡ 1 → ((x : ℕ) → x < first → bit_at word x ≡ 0) →
    (bit_is_set word x && bit_is_set (word - 1) x) ≡ (if same then false else bit_is_set word x)
lowest_by word first x true before t low here least =
    let is : x ≡ first = grind (arith, nat_tests) in
    ap (λ (set : Bool). bit_is_set word x && set)
    (ap (λ (k : ℕ). bit_is_set (word - 1) k) is ∙ ap (λ (bit : ℕ). nat_eq bit 1) (at_lowest word first here least))
    ∙ and-false (bit_is_set word x)
lowest_by word first x false true t low here least =
    let none : bit_is_set word x ≡ false = ap (λ (bit : ℕ). nat_eq bit 1) (least x (grind (arith, nat_tests))) in
    rw none refl
lowest_by word first x false false t low here least =
    let far : first < x = grind (arith, nat_tests) in
    ap (λ (set : Bool). bit_is_set word x && set)
    (ap (λ (bit : ℕ). nat_eq bit 1) (above_lowest word first x here least far))
    ∙ and_same (bit_is_set word x)

pub clear_lowest : (word first x : ℕ) → bit_at word first ≡ 1 → ((x : ℕ) → x < first → bit_at word x ≡ 0) →
    bit_is_set (bit_and word (word - 1)) x ≡ (if nat_eq x first then false else bit_is_set word x)
clear_lowest word first x here least =
    and_bit word (word - 1) x ∙ lowest_by word first x (nat_eq x first) (nat_lt x first) refl refl here least
