-- Where lists of inputs lead in a graph of places.
use Rattle.std.specs.Prelude.{◌≡◌, ℕ, ◌≤◌, List, [], ◌∷◌, length, Option, Some, None}
use Rattle.std.specs.List.{All, Contains}
use Rattle.std.specs.Option.{option_and_then}

module _ {Place Input : Type 0} (next : Place → Input → Option Place) where
  -- the place that inputs lead to, one after the other, or none where one of them leads past
  abbrev pub led : Place → List Input → Option Place
  led place [] = Some place
  led place (input ∷ rest) = option_and_then (λ then. led then rest) (next place input)

module _ {Place Input : Type 0} (next : Place → Input → Option Place) (start : Place) (inputs : List Input) where
  -- a list of the inputs that may be given
  abbrev pub AreGiven : List Input → Type 0
  AreGiven list = All (Contains inputs) list

  -- the list leads past, and no shorter one does
  pub record WinsInFewest (list : List Input) : Type 0 where
    pub given : AreGiven list
    pub wins : led next start list ≡ None
    pub fewest : (others : List Input) → AreGiven others → led next start others ≡ None → length list ≤ length others

  -- no list leads past
  abbrev pub NeverWins : Type 0
  NeverWins = (list : List Input) → AreGiven list → led next start list ≡ None → ⊥

  -- no list of at most `depth` inputs leads past
  abbrev pub NotWithin : ℕ → Type 0
  NotWithin depth = (list : List Input) → AreGiven list → length list ≤ depth → led next start list ≡ None → ⊥
