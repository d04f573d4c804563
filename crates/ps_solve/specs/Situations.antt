-- What spots have besides their boards, by numbers.
use Rattle.std.specs.Prelude.{◌≡◌, ℕ, List, None, Some, slice_get, slice_index_or}
use Rattle.ps_model.specs.session.Solving.{Spot}
use Rattle.ps_solve.specs.SpotKeys.{IsSpotKey, KeyTable, spot_at}
use Rattle.ps_solve.specs.declared.situations.Situation.{Situation}
use Rattle.ps_solve.specs.declared.spot_keys.SpotKey.{SpotKey}

-- that of the spot of a key
abbrev pub situation_of : {n : ℕ} → SpotKey n → Situation
situation_of key = record { restart = key.restart; waits = key.waits }

-- the one with a number
abbrev pub situation_at : List Situation → ℕ → Situation
situation_at situations number = slice_index_or situations number (record { restart = 0; waits = None })

-- each keeps its number
abbrev pub KeepsSituations : List Situation → List Situation → Type 0
KeepsSituations old new = (number : ℕ) (situation : Situation) → slice_get old number ≡ Some situation →
    slice_get new number ≡ Some situation

-- the spot of which the key of a board and the number of a situation are kept
abbrev pub spot_kept : KeyTable → List Situation → List ℕ → ℕ → Spot
spot_kept keys situations words number =
    spot_at keys words (situation_at situations number).restart (situation_at situations number).waits

-- what is kept stands for a spot
abbrev pub IsKept : KeyTable → List Situation → List ℕ → ℕ → Type 0
IsKept keys situations words number =
    (situation : Situation) × (slice_get situations number ≡ Some situation) × IsSpotKey keys words situation.restart
