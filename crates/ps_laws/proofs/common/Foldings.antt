-- A name whose letters are folded stays as it is where they are folded again.
use Rattle.std.proofs.Common.{◌≡◌, ℕ, List, [], ◌∷◌, refl, ap₂}
use Rattle.std.proofs.lemmas.Str.Ascii.{lowercase-lowercase}
use Rattle.ps_model.specs.text.Lines.{folded}

pub folded_again : (name : List ℕ) → folded (folded name) ≡ folded name
folded_again [] = refl
folded_again (byte ∷ name) = ap₂ (λ first others. first ∷ others) (lowercase-lowercase byte) (folded_again name)
