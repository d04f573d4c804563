-- When rounds and passes end. A group makes rounds until one changes nothing or until there are as many as their limit,
-- and no more; a loop makes passes until one changes nothing or until no repeat is left.
use Rattle.std.specs.Prelude.{◌≡◌, ℕ, zero, suc, ◌+◌, ◌-◌, ◌≤◌, ◌<◌, ◌⊎◌, ◌↔◌, Bool, true, false, List}
use Rattle.ps_model.specs.declared.limits.TheConstants.{ROUND_LIMIT}
use Rattle.ps_model.specs.meaning.RuleMeanings.{RuleMeaning}
use Rattle.ps_model.specs.board.Attempts.{State, Result}
use Rattle.ps_model.specs.board.Programs.{Progress, round, group, pass, looped}

-- what is made one time after the other: a round of a group, or a pass of a loop's body
abbrev pub Repeated : Type 0
Repeated = State → Result

-- the state that a number of steps lead to, one after the other
abbrev pub reached_by : ℕ → Repeated → State → State
reached_by zero step state = state
reached_by (suc steps) step state = reached_by steps step (step state).state

-- whether the step of that number changes something; the first has the number 1
abbrev pub changes : ℕ → Repeated → State → Bool
changes number step state = (step (reached_by (number - 1) step state)).changed

-- the result is that of rounds which are made until one changes nothing, or until there are as many as the limit
pub record Settles (rules : List RuleMeaning) (limit : ℕ) (state : State) (result : Result) : Type 0 where
  -- how many rounds there are: one at least, and no more than the limit
  pub rounds : ℕ
  pub some_round : 1 ≤ rounds
  pub few_rounds : rounds ≤ limit
  -- the result's state is the one that they lead to
  pub reached : result.state ≡ reached_by rounds (round rules) state
  -- each round before the last changes something
  pub going_on : (number : ℕ) → 1 ≤ number → number < rounds → changes number (round rules) state ≡ true
  -- the last round is the limit's, or changes nothing
  pub ended : (rounds ≡ limit) ⊎ (changes rounds (round rules) state ≡ false)
  -- the result tells of a change exactly where one of the rounds changes something
  pub changed : (result.changed ≡ true) ↔ ((number : ℕ) × (1 ≤ number) × (number ≤ rounds) ×
      (changes number (round rules) state ≡ true))

-- passes are made until one changes nothing, or until no repeat is left, and the progress is theirs; each pass but the
-- first is a repeat
pub record Passes (body : List (List RuleMeaning)) (repeats : ℕ) (state : State) (progress : Progress) : Type 0 where
  -- how many passes there are: one at least, and no more than one and the repeats
  pub passes : ℕ
  pub some_pass : 1 ≤ passes
  pub few_passes : passes ≤ repeats + 1
  -- the state is the one that they lead to
  pub reached : progress.state ≡ reached_by passes (pass body) state
  -- each pass before the last changes something
  pub going_on : (number : ℕ) → 1 ≤ number → number < passes → changes number (pass body) state ≡ true
  -- the program stops exactly where the last pass changes something too, and then no repeat was left
  pub stopped : progress.stopped ≡ changes passes (pass body) state
  pub used_up : progress.stopped ≡ true → passes ≡ repeats + 1
  -- the repeats are fewer by those that were made
  pub left : progress.repeats ≡ repeats - (passes - 1)

-- a group settles within the limit of rounds
abbrev pub GroupsSettle : Type 0
GroupsSettle = (rules : List RuleMeaning) (state : State) → Settles rules ROUND_LIMIT state (group rules state)

-- a loop makes its passes, however many repeats are left
abbrev pub LoopsPass : Type 0
LoopsPass =
    (body : List (List RuleMeaning)) (repeats : ℕ) (state : State) →
    Passes body repeats state (looped body repeats state)
