-- What `cancel` does to the rest of a turn: once it is queued, no command enters or leaves the queue.
use Rattle.std.specs.Prelude.{◌≡◌, ◌⊎◌, ℕ, true, List}
use Rattle.ps_model.specs.declared.rules.Extent.{Extent}
use Rattle.ps_model.specs.declared.rules.Extent.TheVariants.{Whole, UntilCancelled}
use Rattle.ps_model.specs.board.Attempts.{State}
use Rattle.ps_model.specs.board.Programs.{Section, sections_run, program_run}

-- sections of a program leave a queue with `cancel` as it is, whatever repeats are left
abbrev pub SectionsKeepCancelled : Type 0
SectionsKeepCancelled =
    (sections : List Section) (repeats : ℕ) (state : State) → state.queue.cancel ≡ true →
    (sections_run sections repeats state).queue ≡ state.queue

-- so does a program
abbrev pub ProgramsKeepCancelled : Type 0
ProgramsKeepCancelled =
    (sections : List Section) (state : State) → state.queue.cancel ≡ true →
    (program_run sections state).queue ≡ state.queue

-- A run came to a state: to the one that all rules come to; or, where it may end at `cancel`, to one with the same
-- commands, and `cancel` is among them.
abbrev pub HasRun : Extent → State → State → Type 0
HasRun Whole all came = came ≡ all
HasRun UntilCancelled all came = (came ≡ all) ⊎ ((came.queue ≡ all.queue) × (all.queue.cancel ≡ true))
