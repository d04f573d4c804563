-- How many bytes two words begin with both, past all bytes of one of them.
use Rattle.std.proofs.Common.{◌≡◌, ◌+◌, ◌≤◌, ℕ, zero, suc, List, [], ◌∷◌, length, drop, refl, min, arith}
use Rattle.ps_warnings.specs.NearWords.{common}

-- with a word of no byte
none : (word : List ℕ) → common word [] ≡ 0
none [] = refl
none (byte ∷ word) = refl

past : (word other : List ℕ) (at : ℕ) → min (length word) (length other) ≤ at →
    common (drop at word) (drop at other) ≡ 0
past [] other zero end = refl
past (byte ∷ word) [] zero end = refl
past (byte ∷ word) (first ∷ other) zero end = absurd (omega arith)
past [] other (suc at) end = refl
past (byte ∷ word) [] (suc at) end = none (drop at word)
past (byte ∷ word) (first ∷ other) (suc at) end = past word other at (omega arith)

pub all_common : (word other : List ℕ) (at shorter : ℕ) → shorter ≡ min (length word) (length other) → at ≡ shorter →
    common (drop at word) (drop at other) + at ≡ common word other → shorter ≡ common word other
all_common word other at shorter is all so_far =
    let none_left : common (drop at word) (drop at other) ≡ 0 = past word other at (omega arith) in
    omega (arith, none_left, so_far, all)
