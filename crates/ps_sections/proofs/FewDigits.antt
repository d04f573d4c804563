-- The number that few digits write, digit by digit.
use Rattle.std.proofs.Common.{◌≡◌, ℕ, ◌+◌, ◌*◌, ◌<◌, ◌≤◌, Bool, true, ◌&&◌, List, [], ◌∷◌, length, drop, get_or, refl}
use Rattle.std.proofs.Common.{ap, arith}
use Rattle.std.specs.Char.{digit_value, is_ascii_digit}
use Rattle.std.specs.Int.{IsInRange}
use Rattle.std.specs.List.{list_all}
use Rattle.std.specs.Str.{all_ascii_digits}
use Rattle.std.specs.Str.Parse.{digits_value, digits_value_after}
use Rattle.std.proofs.lemmas.Str.Parse.{IsNumeralModel, numerals_by_value, tells_all_ascii_digits, digits_value_short}
use Rattle.std.proofs.lemmas.Str.Parse.{digit_at}

-- the bytes are digits
abbrev pub AreDigits : List ℕ → Type 0
AreDigits bytes = all_ascii_digits bytes ≡ true

pub each-digit : (bytes : List ℕ) → list_all is_ascii_digit bytes ≡ all_ascii_digits bytes
each-digit [] = refl
each-digit (byte ∷ bytes) = ap (λ (b : Bool). is_ascii_digit byte && b) (each-digit bytes)

digits : IsNumeralModel AreDigits (digits_value 10)
digits = numerals_by_value AreDigits tells_all_ascii_digits

-- each digit is one
pub digit-range : (bytes : List ℕ) (i : ℕ) → AreDigits bytes → i < length bytes → IsInRange 48 57 (get_or bytes i 0)
digit-range bytes i all within = digit_at bytes i (digits.to bytes all) within

-- digits after a number write none that is less
no_less : (number : ℕ) (bytes : List ℕ) → number ≤ digits_value_after 10 number bytes
no_less number [] = omega arith
no_less number (byte ∷ bytes) = omega (arith, no_less (number * 10 + digit_value byte) bytes)

-- so the number that the first of few digits write is small
pub still-small : (number : ℕ) (bytes : List ℕ) (i : ℕ) → AreDigits bytes → length bytes ≤ 3 →
    digits_value_after 10 number (drop i bytes) ≡ digits_value 10 bytes → number < 1000
still-small number bytes i all few same =
    let whole : digits_value 10 bytes < 1000 = digits_value_short digits bytes 3 all few in
    omega (arith, no_less number (drop i bytes), same)
