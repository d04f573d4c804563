-- What stands on a page below and beside a line.
use Rattle.std.proofs.Common.{◌≡◌, ◌∙◌, ℕ, List, [], ◌∷◌, take, true, refl, ap}
use Rattle.std.proofs.Math.Seq.{take-length}
use Rattle.std.proofs.lemmas.Str.{utf8_valid_len-IsUtf8}
use Rattle.std.specs.Prelude.{nat_le}
use Rattle.std.specs.Str.{IsUtf8}
use Rattle.ps_why.specs.declared.marks.Marks.{Marks}
use Rattle.ps_why.specs.Lines.{behind_feeds}
use Rattle.ps_why.specs.Page.{carets, valid_front}

-- bytes that are UTF-8 are their own front
pub whole_front : (bytes : List ℕ) → IsUtf8 bytes → valid_front bytes ≡ bytes
whole_front bytes valid =
    ap (λ (n : ℕ). take n bytes) (utf8_valid_len-IsUtf8 bytes valid) ∙ take-length bytes

-- after no line feed lies the place itself
at_once : (place : ℕ) (bytes : List ℕ) → behind_feeds place 0 bytes ≡ place
at_once place [] = refl
at_once place (byte ∷ bytes) = refl

pub none_left : (place left : ℕ) (bytes : List ℕ) → left ≡ 0 → behind_feeds place left bytes ≡ place
none_left place left bytes none = rw none (at_once place bytes)

-- after the end of the first mark stands nothing
pub none_behind : (marks : Marks) (place : ℕ) (bytes : List ℕ) → nat_le marks.mark.to place ≡ true →
    carets marks place bytes ≡ []
none_behind marks place [] past = refl
none_behind marks place (byte ∷ bytes) past = rw past refl
