-- The first fault of two lists.
use Rattle.std.proofs.Common.{◌≡◌, true, List, [], ◌∷◌, ◌++◌, Option, None, is_some, refl}
use Rattle.ps_model.specs.declared.faults.Fault.{Fault}
use Rattle.ps_model.specs.text.Faults.{first_fault}

-- it stands in the front
pub first-here : (a b : List Fault) (f : Option Fault) → is_some f ≡ true → f ≡ first_fault a → f ≡ first_fault (a ++ b)
first-here [] b f s e = let none : f ≡ None = e in cc
first-here (x ∷ a) b f s e = e

-- the front has none
pub first-behind : (a b : List Fault) → None ≡ first_fault a → first_fault (a ++ b) ≡ first_fault b
first-behind [] b e = refl
first-behind (x ∷ a) b e = cc

-- there is none
pub no-first : (a : List Fault) → None ≡ first_fault a → a ≡ []
no-first [] e = refl
no-first (x ∷ a) e = cc

pub none-first : (a : List Fault) → a ≡ [] → None ≡ first_fault a
none-first [] e = refl
none-first (x ∷ a) e = cc
