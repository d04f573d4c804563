-- A text of one character.
use Rattle.std.proofs.Common.{◌≡◌, ℕ, List, [], ◌∷◌, ◌++◌, None, Some, refl, sym}
use Rattle.std.specs.Str.{chars, IsUtf8}
use Rattle.std.proofs.Math.Utf8.{encode, encodes}
use Rattle.std.proofs.lemmas.Str.{chars_past_char, encodes-chars, chars-nil}
use Rattle.ps_model.specs.names.ObjectLines.{only, one_character}

pub no_character : (bs : List ℕ) → bs ≡ [] → one_character bs ≡ None
no_character bs e = rw (e, chars-nil) refl

pub one_alone : (bs rest : List ℕ) (c : ℕ) → IsUtf8 bs → bs ≡ encode c ++ rest → rest ≡ [] → one_character bs ≡ Some c
one_alone bs rest c u e n = rw (chars_past_char bs rest c u e, n, chars-nil) refl

only-more : (c : ℕ) (cs bs : List ℕ) → encodes cs ≡ bs → (bs ≡ [] → ⊥) → only (c ∷ cs) ≡ None
only-more c [] bs e n = absurd (n (sym e))
only-more c (d ∷ cs) bs e n = refl

pub more_than_one : (bs rest : List ℕ) (c : ℕ) → IsUtf8 bs → IsUtf8 rest → bs ≡ encode c ++ rest → (rest ≡ [] → ⊥) →
    one_character bs ≡ None
more_than_one bs rest c u v e n = rw (chars_past_char bs rest c u e)
    (only-more c (chars rest) rest (encodes-chars rest v) n)
