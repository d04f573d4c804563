-- Sets of columns as the bits of one word.
use Rattle.std.proofs.Common.{◌≡◌, ◌≢◌, ◌∙◌, ℕ, ◌+◌, ◌-◌, ◌*◌, ◌/◌, ◌%◌, ◌^◌, ◌<◌, ◌≤◌, ◌&&◌, ◌||◌, not, Bool, true}
use Rattle.std.proofs.Common.{false}
use Rattle.std.proofs.Common.{List, [], ◌∷◌, length, refl, sym, ap, ap₂, arith, bit_or, bit_xor, w64}
use Rattle.std.specs.Prelude.{nat_eq, nat_le, nat_lt, if◌then◌else◌, bit_and}
use Rattle.std.specs.Int.{bit_at, bit_not, trailing_zeros}
use Rattle.std.proofs.Math.Bool.{and-false, and-true}
use Rattle.std.proofs.Math.Nat.{mod-lt}
use Rattle.std.proofs.lemmas.Bool.Decides.{nat_tests}
use Rattle.std.proofs.lemmas.Nat.{and_le_l, or_lt, xor_lt}
use Rattle.std.proofs.lemmas.Nat.Bits.{bit_at-zero, bit_at-trailing_zeros, bit_at_clear_same, bit_at_clear_other}
use Rattle.std.proofs.lemmas.Nat.Bits.{shr_and_one}
use Rattle.ps_model.specs.declared.limits.TheConstants.{SIDE_LIMIT}
use Rattle.ps_board.specs.ColumnSets.{column_at, set_columns, bit_is_set, word_columns, with_column, both_columns}
use Rattle.ps_board.specs.ColumnSets.{either_columns, columns_ahead, columns_behind, columns_below, columns_without}
use Rattle.ps_board.specs.ColumnSets.{no_columns, unlike_columns}
use Rattle.ps_board.proofs.Bits.{and_bit, clear_bit, full_bit, low_bit, minus_bit, moved_bit, no_bit_above, or_bit}
use Rattle.ps_board.proofs.Bits.{raised_high, raised_low, set_bit, xor_bit}
use Rattle.ps_board.proofs.ColumnLaws.{below_at, column_at-where, column_at-all, columns-agree}
use Rattle.ps_board.proofs.ColumnLaws.{set_columns-first, set_columns-none}

-- any column of a word
word_column : (word x : ℕ) → word < 2 ^ 64 → column_at (word_columns word) x ≡ bit_is_set word x
word_column word x within =
    column_at-all (bit_is_set word) x (λ high. no_bit_above word x within (omega (arith, high)))

word_beyond : (word x : ℕ) → word < 2 ^ 64 → 64 ≤ x → column_at (word_columns word) x ≡ false
word_beyond word x within high = word_column word x within ∙ no_bit_above word x within high

-- the bits of two words, taken together
pub and_word : (a b : ℕ) → word_columns (bit_and a b) ≡ both_columns (word_columns a) (word_columns b)
and_word a b =
    columns-agree (bit_is_set (bit_and a b)) (λ x. column_at (word_columns a) x && column_at (word_columns b) x)
    (λ x low. and_bit a b x
    ∙ sym (ap₂ (λ (p q : Bool). p && q) (column_at-where (bit_is_set a) x low) (column_at-where (bit_is_set b) x low)))

pub or_word : (a b : ℕ) → word_columns (bit_or a b) ≡ either_columns (word_columns a) (word_columns b)
or_word a b =
    columns-agree (bit_is_set (bit_or a b)) (λ x. column_at (word_columns a) x || column_at (word_columns b) x)
    (λ x low. or_bit a b x
    ∙ sym (ap₂ (λ (p q : Bool). p || q) (column_at-where (bit_is_set a) x low) (column_at-where (bit_is_set b) x low)))

pub xor_word : (a b : ℕ) → word_columns (bit_xor a b) ≡ unlike_columns (word_columns a) (word_columns b)
xor_word a b =
    columns-agree (bit_is_set (bit_xor a b))
    (λ x. if column_at (word_columns a) x then not (column_at (word_columns b) x) else column_at (word_columns b) x)
    (λ x low. xor_bit a b x
    ∙ sym (ap₂ (λ (p q : Bool). if p then not q else q) (column_at-where (bit_is_set a) x low)
    (column_at-where (bit_is_set b) x low)))

-- no bit
pub zero_word : word_columns 0 ≡ no_columns
zero_word = columns-agree (bit_is_set 0) (λ x. false) (λ x low. ap (λ (bit : ℕ). nat_eq bit 1) (bit_at-zero x))

-- the bits of a word moved down
pub moved_word : (word count : ℕ) → word < 2 ^ 64 →
    word_columns (word / 2 ^ count) ≡ columns_behind (word_columns word) count
moved_word word count within =
    columns-agree (bit_is_set (word / 2 ^ count)) (λ x. column_at (word_columns word) (x + count))
    (λ x low. moved_bit word count x ∙ sym (word_column word (x + count) within))

pub moved_out : (word count : ℕ) → word < 2 ^ 64 → 64 ≤ count →
    word_columns 0 ≡ columns_behind (word_columns word) count
moved_out word count within far =
    zero_word
    ∙ columns-agree (λ x. false) (λ x. column_at (word_columns word) (x + count))
    (λ x low. sym (word_beyond word (x + count) within (omega (arith, far))))

-- the bits of a word moved up, and what leaves the word
raised_bit : (word count x : ℕ) (behind : Bool) → nat_le count x ≡ behind → x < 64 →
    bit_is_set (word * 2 ^ count % 2 ^ 64) x ≡ (behind && column_at (word_columns word) (x - count))
raised_bit word count x true t low =
    raised_high word count x (grind (arith, nat_tests)) low
    ∙ sym (column_at-where (bit_is_set word) (x - count) (omega (arith, low)))
raised_bit word count x false t low = raised_low word count x (grind (arith, nat_tests)) low

is_ahead : (columns : List Bool) (count x : ℕ) → x < SIDE_LIMIT →
    column_at (columns_ahead columns count) x ≡ (nat_le count x && column_at columns (x - count))
is_ahead columns count x low = column_at-where (λ y. nat_le count y && column_at columns (y - count)) x low

raised_there : (word count x : ℕ) (here : Bool) → nat_lt x 64 ≡ here → x < SIDE_LIMIT →
    bit_is_set (word * 2 ^ count % 2 ^ 64) x
    ≡ (column_at (columns_below 64) x && column_at (columns_ahead (word_columns word) count) x)
raised_there word count x true t low =
    raised_bit word count x (nat_le count x) refl (grind (arith, nat_tests))
    ∙ sym (is_ahead (word_columns word) count x low)
    ∙ ap (λ (b : Bool). b && column_at (columns_ahead (word_columns word) count) x) (sym (below_at 64 x low ∙ t))
raised_there word count x false t low =
    no_bit_above (word * 2 ^ count % 2 ^ 64) x (mod-lt (word * 2 ^ count) (omega arith)) (grind (arith, nat_tests))
    ∙ ap (λ (b : Bool). b && column_at (columns_ahead (word_columns word) count) x) (sym (below_at 64 x low ∙ t))

pub raised_word : (word count : ℕ) → word_columns (word * 2 ^ count % 2 ^ 64)
    ≡ both_columns (columns_below 64) (columns_ahead (word_columns word) count)
raised_word word count = columns-agree (bit_is_set (word * 2 ^ count % 2 ^ 64))
    (λ x. column_at (columns_below 64) x && column_at (columns_ahead (word_columns word) count) x)
    (λ x low. raised_there word count x (nat_lt x 64) refl low)

raised_off : (columns : List Bool) (count x : ℕ) (here : Bool) → nat_lt x 64 ≡ here → 64 ≤ count → x < SIDE_LIMIT →
    false ≡ (column_at (columns_below 64) x && column_at (columns_ahead columns count) x)
raised_off columns count x true t far low =
    let short : nat_le count x ≡ false = grind (arith, nat_tests, far) in
    ap (λ (b : Bool). b && column_at columns (x - count)) (sym short)
    ∙ sym (is_ahead columns count x low)
    ∙ ap (λ (b : Bool). b && column_at (columns_ahead columns count) x) (sym (below_at 64 x low ∙ t))
raised_off columns count x false t far low =
    ap (λ (b : Bool). b && column_at (columns_ahead columns count) x) (sym (below_at 64 x low ∙ t))

pub raised_out : (word count : ℕ) → 64 ≤ count →
    word_columns 0 ≡ both_columns (columns_below 64) (columns_ahead (word_columns word) count)
raised_out word count far = zero_word ∙ columns-agree (λ x. false)
    (λ x. column_at (columns_below 64) x && column_at (columns_ahead (word_columns word) count) x)
    (λ x low. raised_off (word_columns word) count x (nat_lt x 64) refl far low)

-- the bits of a word that aren't below a number
kept_bit : (word count x : ℕ) (behind : Bool) → nat_le count x ≡ behind → x < 64 →
    bit_is_set (word / 2 ^ count * 2 ^ count % 2 ^ 64) x ≡ (bit_is_set word x && not (nat_lt x count))
kept_bit word count x true t low =
    let above : nat_lt x count ≡ false = grind (arith, nat_tests) in
    let far : count ≤ x = grind (arith, nat_tests) in
    let same : x - count + count ≡ x = omega (arith, far) in
    raised_high (word / 2 ^ count) count x far low
    ∙ moved_bit word count (x - count)
    ∙ ap (bit_is_set word) same
    ∙ sym (ap (λ (b : Bool). bit_is_set word x && not b) above ∙ and-true (bit_is_set word x))
kept_bit word count x false t low =
    let under : nat_lt x count ≡ true = grind (arith, nat_tests) in
    raised_low (word / 2 ^ count) count x (grind (arith, nat_tests)) low
    ∙ sym (ap (λ (b : Bool). bit_is_set word x && not b) under ∙ and-false (bit_is_set word x))

-- a column beyond the word is in no set
off_word : (word count x : ℕ) → word < 2 ^ 64 → 64 ≤ x →
    false ≡ (column_at (word_columns word) x && not (column_at (columns_below count) x))
off_word word count x within high =
    sym (ap (λ (b : Bool). b && not (column_at (columns_below count) x)) (word_beyond word x within high))

kept_there : (word count x : ℕ) (here : Bool) → nat_lt x 64 ≡ here → word < 2 ^ 64 → x < SIDE_LIMIT →
    bit_is_set (word / 2 ^ count * 2 ^ count % 2 ^ 64) x
    ≡ (column_at (word_columns word) x && not (column_at (columns_below count) x))
kept_there word count x true t within low =
    kept_bit word count x (nat_le count x) refl (grind (arith, nat_tests))
    ∙ sym (ap₂ (λ (p q : Bool). p && not q) (column_at-where (bit_is_set word) x low) (below_at count x low))
kept_there word count x false t within low =
    let high : 64 ≤ x = grind (arith, nat_tests) in
    no_bit_above (word / 2 ^ count * 2 ^ count % 2 ^ 64) x (mod-lt (word / 2 ^ count * 2 ^ count) (omega arith)) high
    ∙ off_word word count x within high

pub kept_word : (word count : ℕ) → word < 2 ^ 64 →
    word_columns (word / 2 ^ count * 2 ^ count % 2 ^ 64) ≡ columns_without (word_columns word) (columns_below count)
kept_word word count within =
    columns-agree (bit_is_set (word / 2 ^ count * 2 ^ count % 2 ^ 64))
    (λ x. column_at (word_columns word) x && not (column_at (columns_below count) x))
    (λ x low. kept_there word count x (nat_lt x 64) refl within low)

kept_off : (word count x : ℕ) (here : Bool) → nat_lt x 64 ≡ here → word < 2 ^ 64 → 64 ≤ count → x < SIDE_LIMIT →
    false ≡ (column_at (word_columns word) x && not (column_at (columns_below count) x))
kept_off word count x true t within far low =
    let below : nat_lt x count ≡ true = grind (arith, nat_tests, far) in
    sym (ap (λ (b : Bool). column_at (word_columns word) x && not b) (below_at count x low ∙ below)
    ∙ and-false (column_at (word_columns word) x))
kept_off word count x false t within far low = off_word word count x within (grind (arith, nat_tests))

pub kept_out : (word count : ℕ) → word < 2 ^ 64 → 64 ≤ count →
    word_columns 0 ≡ columns_without (word_columns word) (columns_below count)
kept_out word count within far = zero_word ∙ columns-agree (λ x. false)
    (λ x. column_at (word_columns word) x && not (column_at (columns_below count) x))
    (λ x low. kept_off word count x (nat_lt x 64) refl within far low)

-- all bits
all_bit : (x : ℕ) (here : Bool) → nat_lt x 64 ≡ here → bit_is_set (2 ^ 64 - 1) x ≡ here
all_bit x true t = full_bit x (grind (arith, nat_tests))
all_bit x false t = no_bit_above (2 ^ 64 - 1) x (omega arith) (grind (arith, nat_tests))

pub all_word : word_columns (2 ^ 64 - 1) ≡ columns_below 64
all_word = columns-agree (bit_is_set (2 ^ 64 - 1)) (λ x. nat_lt x 64) (λ x low. all_bit x (nat_lt x 64) refl)

-- the lowest bits
pub below_none : (count : ℕ) → count ≡ 0 → word_columns 0 ≡ columns_below count
below_none count e = zero_word ∙ columns-agree (λ x. false) (λ x. nat_lt x count) (λ x low. grind (arith, nat_tests))

pub below_some : (count : ℕ) → count ≤ 64 → word_columns ((2 ^ 64 - 1) / 2 ^ (64 - count)) ≡ columns_below count
below_some count few =
    let same : 64 - (64 - count) ≡ count = omega (arith, few) in
    columns-agree (bit_is_set ((2 ^ 64 - 1) / 2 ^ (64 - count))) (λ x. nat_lt x count)
    (λ x low. low_bit (64 - count) x (omega arith) ∙ ap (nat_lt x) same)

-- a bit tested
pub tested_word : (word column : ℕ) → word < 2 ^ 64 →
    nat_eq (bit_and (word / 2 ^ column) 1) 1 ≡ column_at (word_columns word) column
tested_word word column within = ap (λ (bit : ℕ). nat_eq bit 1) (shr_and_one word column)
    ∙ sym (word_column word column within)

pub tested_beyond : (word column : ℕ) → word < 2 ^ 64 → 64 ≤ column → false ≡ column_at (word_columns word) column
tested_beyond word column within high = sym (word_beyond word column within high)

-- one more bit, and one less
abbrev pub with_bit : ℕ → ℕ → ℕ
with_bit word column = bit_or word (1 * 2 ^ column % 2 ^ 64)

abbrev pub without_bit : ℕ → ℕ → ℕ
without_bit word column = bit_and word (bit_not w64 (1 * 2 ^ column % 2 ^ 64))

without_below : (word column : ℕ) → word < 2 ^ 64 → without_bit word column < 2 ^ 64
without_below word column fits =
    omega (arith, fits, and_le_l word (bit_not w64 (1 * 2 ^ column % 2 ^ 64)))

-- another bit than the one that is cleared
other_bit : (word column x : ℕ) (here : Bool) → nat_lt x 64 ≡ here → word < 2 ^ 64 → column < 64 → x ≢ column →
    bit_is_set (without_bit word column) x ≡ bit_is_set word x
other_bit word column x true t fits low other =
    ap (λ (bit : ℕ). nat_eq bit 1) (bit_at_clear_other w64 word column low x (grind (arith, nat_tests)) other)
other_bit word column x false t fits low other =
    let high : 64 ≤ x = grind (arith, nat_tests) in
    no_bit_above (without_bit word column) x (without_below word column fits) high ∙ sym (no_bit_above word x fits high)

cleared_there : (word column x : ℕ) (here : Bool) → nat_lt x 64 ≡ here → word < 2 ^ 64 → column < 64 →
    bit_is_set (without_bit word column) x ≡ (if nat_eq x column then false else bit_is_set word x)
cleared_there word column x true t fits low = clear_bit word column x low (grind (arith, nat_tests))
cleared_there word column x false t fits low =
    let other : x ≢ column = grind (arith, nat_tests, low) in
    let apart : nat_eq x column ≡ false = grind (arith, nat_tests, other) in
    other_bit word column x false t fits low other
    ∙ sym (ap (λ (same : Bool). if same then false else bit_is_set word x) apart)

pub set_word : (word column : ℕ) → column < 64 →
    word_columns (with_bit word column) ≡ with_column (word_columns word) column true
set_word word column low =
    columns-agree (bit_is_set (with_bit word column))
    (λ x. if nat_eq x column then true else column_at (word_columns word) x)
    (λ x within. set_bit word column x low
    ∙ ap (λ (set : Bool). if nat_eq x column then true else set) (sym (column_at-where (bit_is_set word) x within)))

pub cleared_word : (word column : ℕ) → word < 2 ^ 64 → column < 64 →
    word_columns (without_bit word column) ≡ with_column (word_columns word) column false
cleared_word word column fits low =
    columns-agree (bit_is_set (without_bit word column))
    (λ x. if nat_eq x column then false else column_at (word_columns word) x)
    (λ x within. cleared_there word column x (nat_lt x 64) refl fits low
    ∙ ap (λ (set : Bool). if nat_eq x column then false else set) (sym (column_at-where (bit_is_set word) x within)))

-- the lowest bit taken out
pub first_taken : (word : ℕ) → 0 < word → word < 2 ^ 64 →
    set_columns (word_columns word) ≡ trailing_zeros w64 word ∷ set_columns
    (word_columns (without_bit word (trailing_zeros w64 word)))
first_taken word some within =
    let first : ℕ = trailing_zeros w64 word in
    let says = bit_at-trailing_zeros w64 word some within in
    let small : first < 64 = says.0 in
    let least : (x : ℕ) → x < first → bit_at word x ≡ 0 = says.2 in
    set_columns-first (bit_is_set word) (bit_is_set (without_bit word first)) first (omega (arith, small))
    (ap (λ (bit : ℕ). nat_eq bit 1) says.1)
    (ap (λ (bit : ℕ). nat_eq bit 1) (bit_at_clear_same w64 word first small))
    (λ x before. ap (λ (bit : ℕ). nat_eq bit 1) (least x before))
    (λ x low after. sym (other_bit word first x (nat_lt x 64) refl within small (λ e. omega arith)))
    (λ x before.
    ap (λ (bit : ℕ). nat_eq bit 1)
    (bit_at_clear_other w64 word first small x (omega (arith, before, small)) (λ e. omega arith) ∙ least x before))

pub none_set : (word : ℕ) → word ≡ 0 → set_columns (word_columns word) ≡ []
none_set word e = rw e (ap set_columns zero_word ∙ set_columns-none)

pub some_set : (word : ℕ) → 0 < word → word < 2 ^ 64 → 0 < length (set_columns (word_columns word))
some_set word some within = rw (first_taken word some within) (omega arith)

pub none_tested : (word : ℕ) → nat_eq word 0 ≡ true → set_columns (word_columns word) ≡ []
none_tested word e = none_set word (grind (arith, nat_tests))

pub some_tested : (word : ℕ) → nat_eq word 0 ≡ false → word < 2 ^ 64 → 0 < length (set_columns (word_columns word))
some_tested word e within = some_set word (grind (arith, nat_tests)) within

-- the bits of a word turned round
minus_there : (a b x : ℕ) (here : Bool) → nat_lt x 64 ≡ here → a < 2 ^ 64 → b < 2 ^ 64 →
    bit_is_set (bit_and a (18446744073709551615 - b)) x ≡ (bit_is_set a x && not (bit_is_set b x))
minus_there a b x true t fits other = minus_bit a b x other (grind (arith, nat_tests))
minus_there a b x false t fits other =
    let none : bit_is_set a x ≡ false = no_bit_above a x fits (grind (arith, nat_tests)) in
    and_bit a (18446744073709551615 - b) x
    ∙ ap (λ (set : Bool). set && bit_is_set (18446744073709551615 - b) x) none
    ∙ sym (ap (λ (set : Bool). set && not (bit_is_set b x)) none)

pub minus_word : (a b : ℕ) → a < 2 ^ 64 → b < 2 ^ 64 → word_columns (bit_and a (18446744073709551615 - b))
    ≡ columns_without (word_columns a) (word_columns b)
minus_word a b fits other =
    columns-agree (bit_is_set (bit_and a (18446744073709551615 - b)))
    (λ x. column_at (word_columns a) x && not (column_at (word_columns b) x))
    (λ x low. minus_there a b x (nat_lt x 64) refl fits other
    ∙ sym (ap₂ (λ (p q : Bool). p && not q) (column_at-where (bit_is_set a) x low)
    (column_at-where (bit_is_set b) x low)))

-- a word with more bits is still a word
pub or_below : (a b : ℕ) → a < 2 ^ 64 → b < 2 ^ 64 → bit_or a b < 2 ^ 64
or_below a b = or_lt 64 a b

pub xor_below : (a b : ℕ) → a < 2 ^ 64 → b < 2 ^ 64 → bit_xor a b < 2 ^ 64
xor_below a b = xor_lt 64 a b

pub set_below : (word column : ℕ) → word < 2 ^ 64 → with_bit word column < 2 ^ 64
set_below word column within = or_lt 64 word (1 * 2 ^ column % 2 ^ 64) within (mod-lt (1 * 2 ^ column) (omega arith))
