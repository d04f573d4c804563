-- What answers about a level claim: those of a search over its spots, and those that are told.
use Rattle.std.specs.Prelude.{◌≡◌, ⊤, ℕ, ◌≤◌, Option, Some, None, Result, Ok, Err, List, [], ◌∷◌}
use Rattle.ps_model.specs.declared.play.Input.{Input}
use Rattle.ps_model.specs.declared.play.Input.TheVariants.{Up, Down, Left, Right, Action}
use Rattle.ps_model.specs.board.Turns.{Script}
use Rattle.ps_model.specs.session.Sessions.{Session, Playing, Waiting, AtMessage, Ended}
use Rattle.ps_model.specs.session.Solving.{WinsInFewest, NeverWins, NotWithin, spot}
use Rattle.ps_answers.specs.CoveredSpots.{AreKept, CoversAll}
use Rattle.ps_answers.specs.SolvedLevels.{IsSolved}
pub use Rattle.ps_answers.specs.SolvedLevels.{IsIn, IsNowhere}
use Rattle.ps_answers.specs.declared.solved.Solved.{Solved}
use Rattle.ps_search.specs.declared.answers.Found.{Found}
use Rattle.ps_search.specs.declared.answers.Found.TheVariants.{Won, Never, Unknown}
use Rattle.ps_search.specs.Answers.{IsReason}
use Rattle.ps_solve.specs.declared.solved.NotSearched.{NotSearched}
use Rattle.ps_solve.specs.declared.solved.NotSearched.TheVariants as not_searched
use Rattle.ps_solve.specs.declared.solved.SolvedHere.{SolvedHere}

-- the inputs, in the order of the keys `w`, `a`, `s`, `d` and `x`
abbrev pub all_inputs : List Input
all_inputs = Up ∷ Left ∷ Down ∷ Right ∷ Action ∷ []

-- the entry where a session is
abbrev pub entry_in : Session → ℕ
entry_in (Playing play) = play.entry
entry_in (Waiting play pending) = play.entry
entry_in (AtMessage at) = at
entry_in (Ended ending) = 0

module _ (script : Script) (entry : ℕ) (session : Session) (limit : ℕ) where
  -- what a search found is true of the level of an entry from a session on, and keeps the limit. So is the number of
  -- spots that it tells
  abbrev pub IsFound : {Fault : Type 0} → Found Input Fault → Type 0
  IsFound (Won found) = WinsInFewest script entry session found.items
  IsFound (Never states) =
      NeverWins script entry session × (states ≤ limit) × CoversAll script entry session states
  IsFound (Unknown states depth why) =
      NotWithin script entry session depth × (states ≤ limit) × IsReason limit states why
      × AreKept script entry session depth states

  -- the session is in the level of the entry, and what is told is true of it; or it isn't in that level
  abbrev pub IsSolvedAt : Result Solved NotSearched → Type 0
  IsSolvedAt (Ok solved) = IsIn entry session × IsSolved script entry session limit solved
  IsSolvedAt (Err not_searched.NoLevel) = spot entry session ≡ None
  IsSolvedAt (Err not_searched.Memory) = ⊤

module _ (script : Script) (session : Session) (limit : ℕ) where
  -- the session is in a level, and what is told is true of it; or it is in none
  abbrev pub IsSolvedIn : Option Solved → Type 0
  IsSolvedIn None = IsNowhere session
  IsSolvedIn (Some solved) =
      IsIn (entry_in session) session × IsSolved script (entry_in session) session limit solved

  -- the same, where the level is told
  abbrev pub IsSolvedHere : Option SolvedHere → Type 0
  IsSolvedHere None = IsNowhere session
  IsSolvedHere (Some here) = IsIn here.entry session × IsSolved script here.entry session limit here.solved

  -- the same, or memory ran out before
  abbrev pub IsSolvedAfter : Result SolvedHere NotSearched → Type 0
  IsSolvedAfter (Ok here) = IsIn here.entry session × IsSolved script here.entry session limit here.solved
  IsSolvedAfter (Err not_searched.NoLevel) = IsNowhere session
  IsSolvedAfter (Err not_searched.Memory) = ⊤
