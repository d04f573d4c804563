-- One column of several words, and the columns below a number.
use Rattle.std.proofs.Common.{◌≡◌, ◌≢◌, ◌∙◌, ℕ, ◌+◌, ◌-◌, ◌*◌, ◌/◌, ◌%◌}
use Rattle.std.proofs.Common.{◌^◌, ◌<◌, ◌≤◌, ◌&&◌, Bool, true, false, List, length}
use Rattle.std.proofs.Common.{refl, sym, ap, arith}
use Rattle.std.specs.Prelude.{nat_eq, nat_lt, if◌then◌else◌, bit_and, slice_set}
use Rattle.std.proofs.Math.Bool.{and-false, and-true}
use Rattle.std.proofs.lemmas.Bool.Decides.{nat_tests}
use Rattle.std.proofs.lemmas.List.{get_or-set_same, get_or-set_other}
use Rattle.std.proofs.lemmas.Nat.Bits.{shr_and_one}
use Rattle.ps_model.specs.declared.limits.TheConstants.{SIDE_LIMIT}
use Rattle.ps_board.specs.declared.many_words.TheConstants.{WORDS_LIMIT}
use Rattle.ps_board.specs.ColumnSets.{bit_is_set, column_at, columns_below}
use Rattle.ps_board.specs.WordLists.{word_at}
use Rattle.ps_board.specs.ColumnSets.{with_column}
use Rattle.ps_board.specs.WordLists.{words_columns, words_have, AreWords}
use Rattle.ps_board.specs.WordSteps.{TellsAt, AreMade}
use Rattle.ps_board.proofs.ColumnLaws.{column_at-all, column_at-where, columns-agree}
use Rattle.ps_board.proofs.Bits.{full_bit, low_bit}
use Rattle.ps_board.proofs.WordSteps.{have_beyond, have_past, made-all}

-- a column tested
pub tested : (count : ℕ) (words : List ℕ) (column : ℕ) → AreWords count words →
    nat_eq (bit_and (word_at words (column / 64) / 2 ^ (column % 64)) 1) 1 ≡ column_at (words_columns words) column
tested count words column sound =
    ap (λ (bit : ℕ). nat_eq bit 1) (shr_and_one (word_at words (column / 64)) (column % 64))
    ∙ sym (column_at-all (words_have words) column (λ far. have_beyond count words column sound far))

pub tested_past : (count : ℕ) (words : List ℕ) (column : ℕ) → AreWords count words → count ≤ column / 64 →
    false ≡ column_at (words_columns words) column
tested_past count words column sound far =
    sym (column_at-all (words_have words) column (λ beyond. have_beyond count words column sound beyond)
    ∙ have_past words column (rw sound.long (omega (arith, far))))

-- a column put into a set, or taken out
pub with_beyond : (words : List ℕ) (column : ℕ) (set : Bool) → WORDS_LIMIT ≤ column / 64 →
    words_columns words ≡ with_column (words_columns words) column set
with_beyond words column set far =
    columns-agree (words_have words) (λ x. if nat_eq x column then set else column_at (words_columns words) x)
    (λ x low. let high : SIDE_LIMIT ≤ column = omega (arith, far) in
    let other : nat_eq x column ≡ false = grind (arith, nat_tests, high, low) in
    rw other (sym (column_at-where (words_have words) x low)))

abbrev pub HasBit : ℕ → ℕ → Bool → ℕ → Type 0
HasBit word place set changed =
    (x : ℕ) → x < 64 → bit_is_set changed x ≡ (if nat_eq x place then set else bit_is_set word x)

same_place : (x column : ℕ) (same : Bool) → nat_eq (x % 64) (column % 64) ≡ same → x / 64 ≡ column / 64 →
    nat_eq x column ≡ same
same_place x column true t here = grind (arith, nat_tests, here, t)
same_place x column false t here = grind (arith, nat_tests, here, t)

pub with_by : (words : List ℕ) (column word x : ℕ) (set here : Bool) → nat_eq (x / 64) (column / 64) ≡ here →
    column / 64 < length words → HasBit (word_at words (column / 64)) (column % 64) set word →
    words_have (slice_set words (column / 64) word) x ≡ (if nat_eq x column then set else words_have words x)
with_by words column word x set true t low changed =
    let is : x / 64 ≡ column / 64 = grind (arith, nat_tests) in
    let small : x % 64 < 64 = omega arith in
    ap (λ (k : ℕ). bit_is_set (word_at (slice_set words (column / 64) word) k) (x % 64)) is
    ∙ ap (λ (w : ℕ). bit_is_set w (x % 64)) (get_or-set_same words (column / 64) word 0 low)
    ∙ changed (x % 64) small
    ∙ ap (λ (same : Bool). if same then set else bit_is_set (word_at words (column / 64)) (x % 64))
    (sym (same_place x column (nat_eq (x % 64) (column % 64)) refl is))
    ∙ ap (λ (k : ℕ). if nat_eq x column then set else bit_is_set (word_at words k) (x % 64)) (sym is)
with_by words column word x set false t low changed =
    let other : x / 64 ≢ column / 64 = grind (arith, nat_tests) in
    let apart : nat_eq x column ≡ false = grind (arith, nat_tests, other) in
    ap (λ (w : ℕ). bit_is_set w (x % 64)) (get_or-set_other words (column / 64) (x / 64) word 0 other) ∙ rw apart refl

pub with_words : (words : List ℕ) (column word : ℕ) (set : Bool) → column / 64 < length words →
    HasBit (word_at words (column / 64)) (column % 64) set word →
    words_columns (slice_set words (column / 64) word) ≡ with_column (words_columns words) column set
with_words words column word set low changed =
    columns-agree (words_have (slice_set words (column / 64) word))
    (λ x. if nat_eq x column then set else column_at (words_columns words) x)
    (λ x within. with_by words column word x set (nat_eq (x / 64) (column / 64)) refl low changed
    ∙ ap (λ (has : Bool). if nat_eq x column then set else has) (sym (column_at-where (words_have words) x within)))

-- the columns below a number
pub all_below : (index count : ℕ) → index * 64 + 64 ≤ count → TellsAt (λ x. nat_lt x count) index (2 ^ 64 - 1)
all_below index count many x small within =
    let low : nat_lt (index * 64 + x) count ≡ true = grind (arith, nat_tests, many, small) in full_bit x small ∙ sym low

moved_test : (index count x : ℕ) (low : Bool) → nat_lt x (64 - (index * 64 + 64 - count)) ≡ low → index * 64 < count →
    count < index * 64 + 64 → low ≡ nat_lt (index * 64 + x) count
moved_test index count x true t some few =
    let low : x < 64 - (index * 64 + 64 - count) = grind (arith, nat_tests) in
    let behind : index * 64 + x < count = omega (arith, low, some, few) in grind (arith, nat_tests, behind)
moved_test index count x false t some few =
    let high : 64 - (index * 64 + 64 - count) ≤ x = grind (arith, nat_tests) in
    let beyond : count ≤ index * 64 + x = omega (arith, high, some, few) in grind (arith, nat_tests, beyond)

pub some_below : (index count : ℕ) → index * 64 < count → count < index * 64 + 64 →
    TellsAt (λ x. nat_lt x count) index ((2 ^ 64 - 1) / 2 ^ (index * 64 + 64 - count))
some_below index count some few x small within =
    low_bit (index * 64 + 64 - count) x (omega (arith, some, few))
    ∙ moved_test index count x (nat_lt x (64 - (index * 64 + 64 - count))) refl some few

pub below_all : (count index : ℕ) (words : List ℕ) → AreMade (λ x. nat_lt x SIDE_LIMIT) count index words →
    count ≤ index → words_columns words ≡ columns_below (64 * count)
below_all count index words made end =
    made-all (λ x. nat_lt x SIDE_LIMIT) count index words made end
    ∙ columns-agree (λ x. nat_lt x (64 * count) && nat_lt x SIDE_LIMIT) (λ x. nat_lt x (64 * count))
    (λ x low. let within : nat_lt x SIDE_LIMIT ≡ true = grind (arith, nat_tests, low) in
    ap (λ (b : Bool). nat_lt x (64 * count) && b) within ∙ and-true (nat_lt x (64 * count)))

both_below : (a b x : ℕ) (low : Bool) → nat_lt x b ≡ low → b ≤ a → (nat_lt x a && low) ≡ low
both_below a b x true t few = let low : nat_lt x a ≡ true = grind (arith, nat_tests) in rw low refl
both_below a b x false t few = and-false (nat_lt x a)

pub below_some : (count index limit : ℕ) (words : List ℕ) → AreMade (λ x. nat_lt x limit) count index words →
    count ≤ index → limit ≤ 64 * count → words_columns words ≡ columns_below limit
below_some count index limit words made end few =
    made-all (λ x. nat_lt x limit) count index words made end
    ∙ columns-agree (λ x. nat_lt x (64 * count) && nat_lt x limit) (λ x. nat_lt x limit)
    (λ x low. both_below (64 * count) limit x (nat_lt x limit) refl few)
