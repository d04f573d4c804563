-- How many spots of a level a search keeps: those to which inputs lead from a session on.
use Rattle.std.specs.Prelude.{◌≡◌, ◌⊎◌, ℕ, ◌+◌, ◌≤◌, List, length, Some}
use Rattle.std.specs.List.{All, Contains}
use Rattle.ps_model.specs.declared.play.Input.{Input}
use Rattle.ps_model.specs.board.Turns.{Script}
use Rattle.ps_model.specs.session.Sessions.{Session}
use Rattle.ps_model.specs.session.Solving.{Spot, session_after_inputs, spot}

module _ (script : Script) (entry : ℕ) (session : Session) where
  -- inputs lead to the spot of the entry's level
  abbrev pub IsLedTo : Spot → Type 0
  IsLedTo here = (inputs : List Input) × (spot entry (session_after_inputs script session inputs) ≡ Some here)

  -- at most `depth` inputs lead to the spot
  abbrev pub IsLedWithin : ℕ → Spot → Type 0
  IsLedWithin depth here =
      (inputs : List Input) × (length inputs ≤ depth)
      × (spot entry (session_after_inputs script session inputs) ≡ Some here)

  -- `states` spots can be listed so that inputs lead to each of them, and to no other spot
  pub record CoversAll (states : ℕ) : Type 0 where
    pub spots : List Spot
    pub many : length spots ≡ states
    pub each_led : All IsLedTo spots
    pub all_listed : (here : Spot) → IsLedTo here → Contains spots here

  -- `states` spots can be listed so that at most `depth + 1` inputs lead to each of them. At most `depth` lead to no
  -- other spot
  pub record CoversWithin (depth states : ℕ) : Type 0 where
    pub spots : List Spot
    pub many : length spots ≡ states
    pub each_led : All (IsLedWithin (depth + 1)) spots
    pub all_listed : (here : Spot) → IsLedWithin depth here → Contains spots here

  -- a search that stopped at a depth keeps `states` spots: none where it couldn't begin
  abbrev pub AreKept : ℕ → ℕ → Type 0
  AreKept depth states = CoversWithin depth states ⊎ ((depth ≡ 0) × (states ≡ 0))
