-- How far a search is.
use Rattle.std.specs.Prelude.{◌≡◌, ℕ, ◌+◌, ◌<◌, ◌≤◌, List, [], ◌∷◌, ◌++◌, length, Bool, true, false, Option, Some, None, map, slice_get}
use Rattle.std.specs.List.{All, Contains}
use Rattle.ps_search.specs.declared.visited.Link.{Link}
use Rattle.ps_search.specs.Leads.{led, AreGiven, WinsInFewest}
use Rattle.ps_search.specs.Ways.{way, AreOrdered}

-- the place is one of those that have a number
abbrev pub IsNumbered : {Place : Type 0} → List Place → Option Place → Type 0
IsNumbered places place = (number : ℕ) × (number < length places) × (place ≡ slice_get places number)

-- an input leads past, or to a place with a number
abbrev pub IsLed : {Place : Type 0} → List Place → Option Place → Bool → Type 0
IsLed places place true = place ≡ None
IsLed places place false = IsNumbered places place

module _ {Place Input : Type 0} (next : Place → Input → Option Place) (start : Place) (inputs : List Input) where
  -- the list that the link with this number spells leads to the place with this number
  pub record IsSpelled (places : List Place) (links : List (Link Input)) (number : ℕ) : Type 0 where
    pub given : AreGiven next start inputs (way links number)
    pub leads : led next start (way links number) ≡ slice_get places number

  -- Places are numbered as they are met. Lists of at most `depth` inputs lead to numbers below `end` alone.
  -- All that one more input leads to from places below `at` has a number too.
  pub record Searched (places : List Place) (links : List (Link Input)) (at end depth : ℕ) : Type 0 where
    pub long : length links ≡ length places
    pub ordered : AreOrdered links
    pub spelled : (number : ℕ) → number < length places → IsSpelled places links number
    pub shallow : (number : ℕ) → number < end → length (way links number) ≤ depth
    pub deeper : (number : ℕ) → number < length places → length (way links number) ≤ depth + 1
    pub covered : (list : List Input) → AreGiven next start inputs list → length list ≤ depth
        → (number : ℕ) × (number < end) × (led next start list ≡ slice_get places number)
    pub closed : (number : ℕ) (place : Place) → number < at → slice_get places number ≡ Some place
        → (input : Input) → Contains inputs input → IsNumbered places (next place input)
    pub within : end ≤ length places

  module _ {Key : Type 0} (is_key : Key → Type 0) (place : Key → Place) where
    -- the same of the places that keys stand for
    pub record Kept (keys : List Key) (links : List (Link Input)) (at end depth : ℕ) : Type 0 where
      pub known : All is_key keys
      pub searched : Searched (map place keys) links at end depth

    -- and the place under work was gone to
    pub record UnderWork (here : Place) (keys : List Key) (links : List (Link Input)) (at end depth : ℕ) : Type 0 where
      pub kept : Kept keys links at end depth
      pub below : at < end
      pub stands : slice_get (map place keys) at ≡ Some here

    -- a place is done, unless an input from it leads past: then the list of its link and this input win
    abbrev pub IsDone : List Key → List (Link Input) → ℕ → ℕ → ℕ → Option Input → Type 0
    IsDone keys links at end depth None = Kept keys links (at + 1) end depth
    IsDone keys links at end depth (Some input) = Kept keys links at end depth × WinsInFewest next start inputs (way links at ++ input ∷ [])
