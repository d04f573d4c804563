-- What a call of a device does to the bytes that the device tells of. A device that doesn't tell has None in
-- place of its bytes, before a call and after it: then a word below says only that it goes on not telling.
use Rattle.std.specs.Prelude.{◌≡◌, ℕ, ◌-◌, ◌^◌, List, [], ◌++◌, Option, Some, option_map}

-- a writer that had taken old has taken old and then bytes
abbrev pub Grows : Option (List ℕ) → Option (List ℕ) → List ℕ → Type 0
Grows old new bytes = new ≡ option_map (λ known. known ++ bytes) old

-- a reader that had old to give has given bytes of it, and has new left
abbrev pub Loses : Option (List ℕ) → Option (List ℕ) → List ℕ → Type 0
Loses old new bytes = old ≡ option_map (λ known. bytes ++ known) new

-- a reader has nothing left to give, as far as it tells
abbrev pub IsSpent : Option (List ℕ) → Type 0
IsSpent left = (known : List ℕ) → left ≡ Some known → known ≡ []

-- how many calls a device counts
abbrev pub most_calls : ℕ
most_calls = 2 ^ 64 - 1
