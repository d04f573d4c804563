-- How many places a search keeps: those to which lists of inputs lead.
use Rattle.std.specs.Prelude.{◌≡◌, ◌⊎◌, ℕ, ◌+◌, ◌≤◌, List, length, Option, Some}
use Rattle.std.specs.List.{All, Contains}
use Rattle.ps_search.specs.Leads.{led, AreGiven}

module _ {Place Input : Type 0} (next : Place → Input → Option Place) (start : Place) (inputs : List Input) where
  -- a list leads to the place
  abbrev pub IsLedTo : Place → Type 0
  IsLedTo place = (list : List Input) × AreGiven next start inputs list × (led next start list ≡ Some place)

  -- a list of at most `depth` inputs leads to the place
  abbrev pub IsLedWithin : ℕ → Place → Type 0
  IsLedWithin depth place =
      (list : List Input) × AreGiven next start inputs list × (length list ≤ depth)
      × (led next start list ≡ Some place)

  -- `states` places can be listed so that inputs lead to each of them, and to no other place
  pub record CoversAll (states : ℕ) : Type 0 where
    pub places : List Place
    pub many : length places ≡ states
    pub each_led : All IsLedTo places
    pub all_listed : (place : Place) → IsLedTo place → Contains places place

  -- `states` places can be listed so that at most `depth + 1` inputs lead to each of them. At most `depth` lead to no
  -- other place
  pub record CoversWithin (depth states : ℕ) : Type 0 where
    pub places : List Place
    pub many : length places ≡ states
    pub each_led : All (IsLedWithin (depth + 1)) places
    pub all_listed : (place : Place) → IsLedWithin depth place → Contains places place

  -- a search that stopped at a depth keeps `states` places: none where it couldn't begin
  abbrev pub AreKept : ℕ → ℕ → Type 0
  AreKept depth states = CoversWithin depth states ⊎ ((depth ≡ 0) × (states ≡ 0))
