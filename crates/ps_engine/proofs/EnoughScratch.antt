-- What holds of the elements of a list before one.
use Rattle.std.proofs.Common.{ℕ, ◌<◌, List, length, get_or}

abbrev pub AllBefore : {X : Type 0} → (X → Type 0) → List X → ℕ → Type 0
AllBefore {X} P xs n = (i : ℕ) (d : X) → i < n → i < length xs → P (get_or xs i d)
