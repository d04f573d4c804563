-- What keeps the sides of a grid, whatever rules and grids there are: attempts, rounds, groups, passes, loops,
-- sections, programs, the movement, rest, inputs and turns. The number of layers is kept with them.
use Rattle.std.specs.Prelude.{◌≡◌, ℕ, Bool, Option, List, ⊤}
use Rattle.ps_model.specs.declared.play.Input.{Input}
use Rattle.ps_model.specs.names.Names.{Names}
use Rattle.ps_model.specs.board.Grid.{Grid, at_rest}
use Rattle.ps_model.specs.meaning.RuleMeanings.{RuleMeaning}
use Rattle.ps_model.specs.board.Attempts.{State, attempt}
use Rattle.ps_model.specs.board.Programs.{Section, round, settled, group, pass, looped, section_run, sections_run}
use Rattle.ps_model.specs.board.Programs.{program_run}
use Rattle.ps_model.specs.board.Movement.{slid}
use Rattle.ps_model.specs.board.Inputs.{with_input}
use Rattle.ps_model.specs.board.Turns.{Script, Outcome, Blocked, Restarted, Finished, turn}

-- the grid after has as many columns, rows and layers as the one before
pub record SameSides (before after : Grid) : Type 0 where
  pub width : after.width ≡ before.width
  pub height : after.height ≡ before.height
  pub layers : after.layers ≡ before.layers

-- the board that an outcome has, if it has one, has the sides of that grid
abbrev pub HasSides : Grid → Outcome → Type 0
HasSides before (Blocked message) = ⊤
HasSides before (Restarted message) = ⊤
HasSides before (Finished done) = SameSides before done.board

-- an attempt keeps the sides
abbrev pub AttemptsKeepSides : Type 0
AttemptsKeepSides = (rule : RuleMeaning) (state : State) → SameSides state.grid (attempt rule state).state.grid

-- so does a round
abbrev pub RoundsKeepSides : Type 0
RoundsKeepSides = (rules : List RuleMeaning) (state : State) → SameSides state.grid (round rules state).state.grid

-- so do rounds until one changes nothing, however many there may be
abbrev pub SettlingKeepsSides : Type 0
SettlingKeepsSides =
    (rules : List RuleMeaning) (rounds : ℕ) (changed : Bool) (state : State) →
    SameSides state.grid (settled rules rounds changed state).state.grid

-- so does a group
abbrev pub GroupsKeepSides : Type 0
GroupsKeepSides = (rules : List RuleMeaning) (state : State) → SameSides state.grid (group rules state).state.grid

-- so does a pass of groups
abbrev pub PassesKeepSides : Type 0
PassesKeepSides = (body : List (List RuleMeaning)) (state : State) → SameSides state.grid (pass body state).state.grid

-- so does a loop over groups, with however many repeats left
abbrev pub LoopsKeepSides : Type 0
LoopsKeepSides =
    (body : List (List RuleMeaning)) (repeats : ℕ) (state : State) →
    SameSides state.grid (looped body repeats state).state.grid

-- so does a section
abbrev pub SectionsKeepSides : Type 0
SectionsKeepSides =
    (section : Section) (repeats : ℕ) (state : State) →
    SameSides state.grid (section_run section repeats state).state.grid

-- so do sections one after the other, with however many repeats left
abbrev pub RunsKeepSides : Type 0
RunsKeepSides =
    (sections : List Section) (repeats : ℕ) (state : State) →
    SameSides state.grid (sections_run sections repeats state).grid

-- so does a run of a program
abbrev pub ProgramsKeepSides : Type 0
ProgramsKeepSides = (sections : List Section) (state : State) → SameSides state.grid (program_run sections state).grid

-- the movement keeps the sides
abbrev pub SlidesKeepSides : Type 0
SlidesKeepSides = (g : Grid) → SameSides g (slid g)

-- rest keeps them
abbrev pub RestKeepsSides : Type 0
RestKeepsSides = (g : Grid) → SameSides g (at_rest g)

-- so does an input
abbrev pub InputsKeepSides : Type 0
InputsKeepSides = (names : Names) (input : Input) (g : Grid) → SameSides g (with_input names input g)

-- the board of a turn that is done has the sides of the grid before it
abbrev pub TurnsKeepSides : Type 0
TurnsKeepSides = (script : Script) (input : Option Input) (g : Grid) → HasSides g (turn script input g)
