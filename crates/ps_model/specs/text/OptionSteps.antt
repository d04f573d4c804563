-- Steps of which each may fail, one after the other: with `do`, a step that gives nothing makes the whole give nothing.
use Rattle.std.specs.Prelude.{Option, Some, None, Bool, true, false, List, [], ◌∷◌, option_and_then, option_map}

-- a step after one that gave a value
infixl 10 ◌>>=◌
abbrev pub ◌>>=◌ : {A B : Type 0} → Option A → (A → Option B) → Option B
o >>= f = option_and_then f o

-- the value, if the test holds
abbrev pub only_if : {A : Type 0} → Bool → A → Option A
only_if true a = Some a
only_if false a = None

-- all values of a list, if each is there
abbrev pub all_there : {A : Type 0} → List (Option A) → Option (List A)
all_there [] = Some []
all_there (None ∷ os) = None
all_there (Some a ∷ os) = option_map (λ as'. a ∷ as') (all_there os)
