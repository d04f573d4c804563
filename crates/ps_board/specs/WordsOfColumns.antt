-- A word is known by the columns of its bits.
use Rattle.std.proofs.Common.{◌≡◌, ◌∙◌, ℕ, ◌+◌, ◌*◌, ◌/◌, ◌%◌, ◌^◌, ◌<◌, suc, zero, map, refl, sym, ap, ap₂, mod-lt}
use Rattle.std.proofs.Common.{arith}
use Rattle.std.proofs.Common.{zero-lt-suc, le_of_suc-le-suc, not-suc-le-zero, add-one}
use Rattle.std.specs.Prelude.{nat_eq, if◌then◌else◌}
use Rattle.std.specs.List.{range_with_len}
use Rattle.std.specs.Int.{bit_at}
use Rattle.std.proofs.Math.Nat.{mod-one, mod-eq_of_lt, div-one, div-div-eq-div-mul}
use Rattle.std.proofs.lemmas.Nat.{pow-add, mod-pow-add}
use Rattle.ps_model.specs.declared.limits.TheConstants.{SIDE_LIMIT}
use Rattle.ps_board.specs.ColumnSets.{bit_is_set, columns_where, columns_word, word_columns}

-- a bit is 0 or 1
bit_again : (bit : ℕ) → bit < 2 → (if nat_eq bit 1 then 1 else 0) ≡ bit
bit_again zero small = refl
bit_again (suc zero) small = refl
bit_again (suc (suc bit)) small = absurd (not-suc-le-zero (le_of_suc-le-suc (le_of_suc-le-suc small)))

-- the bits of a word from one on
pub bits_from : (word from count : ℕ) → columns_word (map (bit_is_set word) (range_with_len from count))
    ≡ word / 2 ^ from % 2 ^ count
bits_from word from zero = sym (mod-one (word / 2 ^ from))
bits_from word from (suc count) =
    ap₂ (λ (others bit : ℕ). others * 2 ^ 1 + bit)
    (bits_from word (from + 1) count
    ∙ ap (λ (n : ℕ). word / n % 2 ^ count) (pow-add 2 from 1)
    ∙ ap (λ (n : ℕ). n % 2 ^ count) (sym (div-div-eq-div-mul word (2 ^ from) (2 ^ 1))))
    (bit_again (bit_at word from) (mod-lt (word / 2 ^ from) (zero-lt-suc 1)))
    ∙ sym (mod-pow-add (word / 2 ^ from) count 1)
    ∙ ap (λ (n : ℕ). word / 2 ^ from % 2 ^ n) (add-one count)

pub columns_word-of : (word : ℕ) → word < 2 ^ 64 → columns_word (word_columns word) ≡ word
unfolding columns_where
columns_word-of word within = bits_from word 0 SIDE_LIMIT ∙ ap (λ (n : ℕ). n % 2 ^ SIDE_LIMIT) (div-one word)
    ∙ mod-eq_of_lt (omega (arith, within))
