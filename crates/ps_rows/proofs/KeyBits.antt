-- The bits of keys.
use Rattle.std.proofs.Common.{◌≡◌, ◌≢◌, ◌∙◌, ℕ, ◌+◌, ◌*◌, ◌/◌, ◌%◌, ◌<◌, inl, inr, Bool, true, false, not, List, length}
use Rattle.std.proofs.Common.{refl, sym, ap, ap₂, arith}
use Rattle.std.specs.Prelude.{if◌then◌else◌, nat_eq, slice_set}
use Rattle.std.proofs.lemmas.Bool.{cases_eq, eq-eqb, ne_eqb}
use Rattle.std.proofs.lemmas.List.{get_or-set_same, get_or-set_other}
use Rattle.std.proofs.lemmas.Nat.{div-mul-add, mod-mul-add}
use Rattle.ps_model.specs.declared.limits.TheConstants.{SIDE_LIMIT}
use Rattle.ps_board.specs.ColumnSets.{bit_is_set, column_at, unlike_columns, with_column, word_columns}
use Rattle.ps_board.specs.WordLists.{word_at}
use Rattle.ps_board.proofs.ColumnLaws.{column_at-where, with_here, with_other}
use Rattle.ps_rows.specs.PackedKeys.{flipped, key_bit}

-- the number of a bit by its word and its place there
same_number : (k number : ℕ) → k / 64 ≡ number / 64 → k % 64 ≡ number % 64 → k ≡ number
same_number k number word place = omega (arith, word, place)

bit_of : (word x : ℕ) → x < 64 → bit_is_set word x ≡ column_at (word_columns word) x
bit_of word x low = sym (column_at-where (bit_is_set word) x (omega (arith, low)))

-- a bit of a word that is turned round, and each other one
pub bit_turned : (words : List ℕ) (number word k : ℕ) → number / 64 < length words →
    word_columns word ≡ with_column (word_columns (word_at words (number / 64))) (number % 64)
    (not (column_at (word_columns (word_at words (number / 64))) (number % 64))) →
    key_bit (slice_set words (number / 64) word) k ≡ flipped (nat_eq k number) (key_bit words k)
unfolding key_bit
bit_turned words number word k within is =
    let index : ℕ = number / 64 in
    let place : ℕ = number % 64 in
    let old : List Bool = word_columns (word_at words index) in
    let small : k % 64 < 64 = omega arith in
    let low : place < SIDE_LIMIT = omega arith in
    let under : k % 64 < SIDE_LIMIT = omega arith in
    elim (cases_eq (k / 64) index) [
      | inl here ↦
          ap (λ (i : ℕ). bit_is_set (word_at (slice_set words index word) i) (k % 64)) here
          ∙ ap (λ (w : ℕ). bit_is_set w (k % 64)) (get_or-set_same words index word 0 within)
          ∙ bit_of word (k % 64) small
          ∙ ap (λ (set : List Bool). column_at set (k % 64)) is
          ∙ elim (cases_eq (k % 64) place) [
            | inl same ↦
                ap (column_at (with_column old place (not (column_at old place)))) same
                ∙ with_here old place (not (column_at old place)) low
                ∙ ap not (ap (column_at old) (sym same) ∙ sym (bit_of (word_at words index) (k % 64) small)
                ∙ ap (λ (i : ℕ). bit_is_set (word_at words i) (k % 64)) (sym here))
                ∙ ap (λ (b : Bool). flipped b (bit_is_set (word_at words (k / 64)) (k % 64)))
                (sym (eq-eqb k number (same_number k number here same)))
            | inr other ↦
                let apart : k ≢ number = λ e. other (ap (λ (n : ℕ). n % 64) e) in
                with_other old place (k % 64) (not (column_at old place)) under other
                ∙ sym (bit_of (word_at words index) (k % 64) small)
                ∙ ap (λ (i : ℕ). bit_is_set (word_at words i) (k % 64)) (sym here)
                ∙ ap (λ (b : Bool). flipped b (bit_is_set (word_at words (k / 64)) (k % 64)))
                (sym (ne_eqb k number apart))
          ]
      | inr away ↦
          let apart : k ≢ number = λ e. away (ap (λ (n : ℕ). n / 64) e) in
          ap (λ (w : ℕ). bit_is_set w (k % 64)) (get_or-set_other words index (k / 64) word 0 away)
          ∙ ap (λ (b : Bool). flipped b (bit_is_set (word_at words (k / 64)) (k % 64))) (sym (ne_eqb k number apart))
    ]

pub if_flipped : (p q : Bool) → (if p then not q else q) ≡ flipped p q
if_flipped true q = refl
if_flipped false q = refl

bit_at_place : (words : List ℕ) (index x : ℕ) → x < 64 →
    column_at (word_columns (word_at words index)) x ≡ key_bit words (index * 64 + x)
unfolding key_bit
bit_at_place words index x low =
    sym (bit_of (word_at words index) x low)
    ∙ ap₂ (λ (i b : ℕ). bit_is_set (word_at words i) b) (sym (div-mul-add index 64 x low))
    (sym (mod-mul-add index 64 x low))

-- the bits of a word in which two keys differ
pub bits_differing : (words others : List ℕ) (index x : ℕ) (found : List Bool) → x < 64 →
    found ≡ unlike_columns (word_columns (word_at words index)) (word_columns (word_at others index)) →
    column_at found x ≡ flipped (key_bit words (index * 64 + x)) (key_bit others (index * 64 + x))
bits_differing words others index x found low is =
    let a : List Bool = word_columns (word_at words index) in
    let b : List Bool = word_columns (word_at others index) in
    ap (λ (set : List Bool). column_at set x) is
    ∙ column_at-where (λ y. if column_at a y then not (column_at b y) else column_at b y) x (omega (arith, low))
    ∙ if_flipped (column_at a x) (column_at b x)
    ∙ ap₂ flipped (bit_at_place words index x low) (bit_at_place others index x low)
