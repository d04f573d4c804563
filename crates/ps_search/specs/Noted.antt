-- What keeping a key does.
use Rattle.std.specs.Prelude.{◌≡◌, ℕ, Bool, true, List, [], ◌∷◌, ◌++◌, Some, slice_get}
use Rattle.std.specs.Prelude.{◌⊎◌}
use Rattle.ps_search.specs.declared.visited.Link.{Link}
use Rattle.ps_search.specs.declared.visited.Refused.{Refused}
use Rattle.ps_search.specs.declared.visited.Refused.TheVariants.{Limit, Memory}

-- the key is equal to one of the keys
abbrev pub IsKnown : {Key : Type 0} → (Key → Key → Bool) → List Key → Key → Type 0
IsKnown {Key} eq keys key = (number : ℕ) × (known : Key) × (slice_get keys number ≡ Some known) × (eq key known ≡ true)

-- a known key leaves all as it was, and another one goes last, with its link
abbrev pub IsNoted : {Key Input : Type 0} → (Key → Key → Bool) → List Key → List (Link Input) → Key → Link Input → List Key → List (Link Input) → Type 0
IsNoted eq keys links key link new_keys new_links =
    ((new_keys ≡ keys) × (new_links ≡ links) × IsKnown eq keys key) ⊎ ((new_keys ≡ keys ++ key ∷ []) × (new_links ≡ links ++ link ∷ []))

-- the limit is a reason only where as many keys are kept
abbrev pub IsRefusal : ℕ → ℕ → Refused → Type 0
IsRefusal limit count Limit = count ≡ limit
IsRefusal limit count Memory = Unit {0}
