-- What an answer about a level claims.
use Rattle.std.specs.Prelude.{◌≡◌, ⊤, ℕ, ◌≤◌, Bool, true, false, Some, None}
use Rattle.ps_model.specs.board.Turns.{Script}
use Rattle.ps_model.specs.session.Sessions.{Session}
use Rattle.ps_model.specs.session.Solving.{WinsInFewest, NeverWins, NotWithin, Spot, spot}
use Rattle.ps_answers.specs.CoveredSpots.{AreKept, CoversAll}
use Rattle.ps_answers.specs.declared.solved.Solved.{Solved}
use Rattle.ps_answers.specs.declared.solved.Solved.TheVariants.{Won, Never, Unknown}
use Rattle.ps_answers.specs.declared.solved.Unsolved.{Unsolved}
use Rattle.ps_answers.specs.declared.solved.Unsolved.TheVariants as unsolved

-- the session is in the level of the entry
abbrev pub IsIn : ℕ → Session → Type 0
IsIn entry session = (here : Spot) × (spot entry session ≡ Some here)

-- the session is in no level
abbrev pub IsNowhere : Session → Type 0
IsNowhere session = (entry : ℕ) → spot entry session ≡ None

-- the answer is that the level can be won
abbrev pub is_won : Solved → Bool
is_won (Won inputs) = true
is_won (Never states) = false
is_won (Unknown states depth why) = false

-- the limit is a reason only where as many states are kept
abbrev pub IsUnsolved : ℕ → ℕ → Unsolved → Type 0
IsUnsolved limit states unsolved.Limit = states ≡ limit
IsUnsolved limit states unsolved.Memory = ⊤
IsUnsolved limit states unsolved.Stopped = ⊤
IsUnsolved limit states unsolved.Full = ⊤
IsUnsolved limit states unsolved.Boards = ⊤

-- an answer is true of the level of an entry, from a session on, and no more states than the limit are kept. So is the
-- number of them that it tells
module _ (script : Script) (entry : ℕ) (session : Session) (limit : ℕ) where
  abbrev pub IsSolved : Solved → Type 0
  IsSolved (Won inputs) = WinsInFewest script entry session inputs.items
  IsSolved (Never states) =
      NeverWins script entry session × (states ≤ limit) × CoversAll script entry session states
  IsSolved (Unknown states depth why) =
      NotWithin script entry session depth × (states ≤ limit) × IsUnsolved limit states why
      × AreKept script entry session depth states
