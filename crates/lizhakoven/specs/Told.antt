-- Answers that are told at the front of memory, as far as there is room for them.
use Rattle.std.specs.Prelude.{◌≡◌, ℕ, ◌<◌, ◌≤◌, Bool, true, false, List, ◌++◌, drop, length}

-- numbers are told at the front of memory, and the rest of it stays; or there is no room for them, and all of it stays
abbrev pub IsTold : List ℕ → List ℕ → List ℕ → Bool → Type 0
IsTold numbers before after true =
    (length numbers ≤ length before) × (after ≡ numbers ++ drop (length numbers) before)
IsTold numbers before after false = (length before < length numbers) × (after ≡ before)
