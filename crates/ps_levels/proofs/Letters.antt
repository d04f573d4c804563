-- A character's bytes once its letter is folded.
use Rattle.std.proofs.Common.{◌≡◌, ℕ, ◌<◌, ◌≤◌, ◌⊎◌, inl, inr, Bool, true, false, cond, List, [], ◌∷◌, map, ap, ◌∙◌}
use Rattle.std.proofs.Common.{arith}
use Rattle.std.specs.Prelude.{nat_lt}
use Rattle.std.specs.Char.{to_ascii_lowercase}
use Rattle.std.specs.Str.{str_to_ascii_lowercase}
use Rattle.std.proofs.Math.Utf8.{encode}
use Rattle.std.proofs.lemmas.Str.{encode_ascii}
use Rattle.std.proofs.lemmas.Bool.Decides.{nat_tests}
use Rattle.std.proofs.lemmas.Bool.{cases_lt}
use Rattle.ps_text.proofs.NamedWords.{high_stays}

two : (a b : ℕ) → 128 ≤ a → 128 ≤ b → map to_ascii_lowercase (a ∷ b ∷ []) ≡ a ∷ b ∷ []
two a b h i = ap (λ (x : ℕ). x ∷ to_ascii_lowercase b ∷ []) (high_stays a h)
    ∙ ap (λ (x : ℕ). a ∷ x ∷ []) (high_stays b i)

more : (a : ℕ) (bs : List ℕ) → 128 ≤ a → map to_ascii_lowercase bs ≡ bs → map to_ascii_lowercase (a ∷ bs) ≡ a ∷ bs
more a bs h e = ap (λ (x : ℕ). x ∷ map to_ascii_lowercase bs) (high_stays a h) ∙ ap (λ (xs : List ℕ). a ∷ xs) e

by_tests : (y z : Bool) (two' three four : List ℕ) → map to_ascii_lowercase two' ≡ two' →
    map to_ascii_lowercase three ≡ three → map to_ascii_lowercase four ≡ four →
    map to_ascii_lowercase (cond y two' (cond z three four)) ≡ cond y two' (cond z three four)
by_tests true z two' three four e f g = e
by_tests false true two' three four e f g = f
by_tests false false two' three four e f g = g

-- a character that isn't ASCII has no ASCII byte
kept : (c : ℕ) → 128 ≤ c → map to_ascii_lowercase (encode c) ≡ encode c
unfolding encode
kept c h =
    let large : nat_lt c 128 ≡ false = grind (arith, nat_tests) in
    rw large (by_tests (nat_lt c 2048) (nat_lt c 65536) _ _ _
    (two _ _ (omega arith) (omega arith))
    (more _ _ (omega arith) (two _ _ (omega arith) (omega arith)))
    (more _ _ (omega arith) (more _ _ (omega arith) (two _ _ (omega arith) (omega arith)))))

folded_by : (c : ℕ) → (c < 128) ⊎ (128 ≤ c) → to_ascii_lowercase c ≡ c → str_to_ascii_lowercase (encode c) ≡ encode c
folded_by c (inl low) e = rw (encode_ascii c low) (ap (λ (x : ℕ). x ∷ []) e)
folded_by c (inr h) e = kept c h

pub folded_character : (c : ℕ) → to_ascii_lowercase c ≡ c → str_to_ascii_lowercase (encode c) ≡ encode c
folded_character c e = folded_by c (cases_lt c 128) e
