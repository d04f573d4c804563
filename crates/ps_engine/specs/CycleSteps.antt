-- What a finder over steps knows of them: whether it keeps a state, the queue of that state, and how many steps ago it
-- was. The grid of
-- the state is kept apart, if there is one.
use Rattle.std.specs.Prelude.{◌≡◌, ◌+◌, ◌%◌, ◌⊎◌, ℕ, true, Option, Some}
use Rattle.ps_model.specs.board.Grid.{Grid}
use Rattle.ps_model.specs.rules.SourceRules.{Commands}
use Rattle.ps_engine.specs.declared.cycle_finder.CycleFinder.{CycleFinder}

-- a step has come back to the state that is kept, behind so many steps
pub record IsBack (finder : CycleFinder) (kept : Option Grid) (grid : Grid) (queue : Commands) (period : ℕ) : Type 0 where
  pub keeps : finder.keeps ≡ true
  pub same_board : kept ≡ Some grid
  pub same_queue : finder.queue ≡ queue
  pub steps : period ≡ finder.age + 1

-- what is kept is one step older
pub record IsOlder (before after : CycleFinder) (kept kept_after : Option Grid) : Type 0 where
  pub keeps : after.keeps ≡ before.keeps
  pub same_board : kept_after ≡ kept
  pub queue : after.queue ≡ before.queue
  pub age : after.age ≡ before.age + 1

-- the state that a step has come to is kept
pub record IsRenewed (after : CycleFinder) (kept_after : Option Grid) (grid : Grid) (queue : Commands) : Type 0 where
  pub same_board : kept_after ≡ Some grid
  pub same_queue : after.queue ≡ queue
  pub age : after.age ≡ 0

-- of the steps that are left all are to be made, or, where a step has come back, those without whole periods
abbrev pub AreLeft : CycleFinder → Option Grid → Grid → Commands → ℕ → ℕ → Type 0
AreLeft finder kept grid queue left rest =
    (rest ≡ left) ⊎ ((period : ℕ) × (IsBack finder kept grid queue period × (rest ≡ left % period)))

-- behind a step either
abbrev pub HasStepped : CycleFinder → CycleFinder → Option Grid → Option Grid → Grid → Commands → Type 0
HasStepped before after kept kept_after grid queue =
    IsOlder before after kept kept_after ⊎ IsRenewed after kept_after grid queue
