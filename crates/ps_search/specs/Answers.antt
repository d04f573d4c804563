-- What an answer of a search claims.
use Rattle.std.specs.Prelude.{◌≡◌, ℕ, ◌≤◌, List, Option}
use Rattle.ps_search.specs.declared.answers.Found.{Found}
use Rattle.ps_search.specs.declared.answers.Found.TheVariants.{Won, Never, Unknown}
use Rattle.ps_search.specs.declared.answers.Why.{Why}
use Rattle.ps_search.specs.declared.answers.Why.TheVariants.{Limit, Memory, Stopped, Moves}
use Rattle.ps_search.specs.Leads.{WinsInFewest, NeverWins, NotWithin}
use Rattle.ps_search.specs.Covers.{CoversAll, AreKept}

-- the limit is a reason only where as many keys are kept
abbrev pub IsReason : {Fault : Type 0} → ℕ → ℕ → Why Fault → Type 0
IsReason limit states Limit = states ≡ limit
IsReason limit states Memory = Unit {0}
IsReason limit states Stopped = Unit {0}
IsReason limit states (Moves fault) = Unit {0}

module _ {Place Input Fault : Type 0} (next : Place → Input → Option Place) (start : Place) (inputs : List Input) (limit : ℕ) where
  -- the answer is true of the graph, and keeps the limit. So is the number of places that it tells
  abbrev pub IsAnswer : Found Input Fault → Type 0
  IsAnswer (Won found) = WinsInFewest next start inputs found.items
  IsAnswer (Never states) = NeverWins next start inputs × (states ≤ limit) × CoversAll next start inputs states
  IsAnswer (Unknown states depth why) =
      NotWithin next start inputs depth × (states ≤ limit) × IsReason limit states why
      × AreKept next start inputs depth states

-- the list is told, or that memory ran out
abbrev pub IsWon : {Input Fault : Type 0} → List Input → ℕ → ℕ → Found Input Fault → Type 0
IsWon won depth count (Won told) = told.items ≡ won
IsWon won depth count (Never states) = ⊥
IsWon won depth count (Unknown states told Memory) = (states ≡ count) × (told ≡ depth)
IsWon won depth count (Unknown states told why) = ⊥
