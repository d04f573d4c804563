-- A word that is looked for among others.
use Rattle.std.proofs.Common.{◌≡◌, ℕ, Bool, List, [], ◌∷◌, refl, ap₂}
use Rattle.std.specs.Prelude.{◌||◌}
use Rattle.std.specs.List.{list_any}
use Rattle.std.specs.Str.{bytes_eq}
use Rattle.ps_laws.proofs.common.SameThings.{bytes_eq-sym}

-- whether a word is one of others, each of which is asked
pub sought : {R : Type 0} (now : R → List ℕ) (word : List ℕ) (items : List R) →
    list_any (λ y. bytes_eq (now y) word) items ≡ list_any (λ y. bytes_eq word (now y)) items
sought now word [] = refl
sought now word (y ∷ items) = ap₂ (λ (a b : Bool). a || b) (bytes_eq-sym (now y) word) (sought now word items)
