-- What a rule turned round does. Its places are those of the rule, backwards and in the same order, and its attempts
-- come to the same. So do the rounds, groups, loops and programs of such rules.
use Rattle.std.specs.Prelude.{◌≡◌, ℕ, List, map, reverse}
use Rattle.ps_model.specs.declared.pieces.Direction.{Direction}
use Rattle.ps_model.specs.board.Grid.{Grid}
use Rattle.ps_model.specs.meaning.Directions.{opposite}
use Rattle.ps_model.specs.meaning.RuleMeanings.{CellMeaning, RuleMeaning}
use Rattle.ps_model.specs.board.Places.{places}
use Rattle.ps_model.specs.board.Attempts.{State, attempt}
use Rattle.ps_model.specs.board.Programs.{Section, round, group, pass, looped, section_run, program_run}
use Rattle.ps_model.specs.meaning.TurnedRound.{row_turned, turned_round, forwards, section_forwards}

-- a row turned round has the same places in the opposite direction, each read backwards, in the same order
abbrev pub PlacesTurned : Type 0
PlacesTurned =
    (g : Grid) (direction : Direction) (row : List (List CellMeaning)) →
    places g (opposite direction) (row_turned row) ≡ map reverse (places g direction row)

-- an attempt of a rule turned round comes to the same
abbrev pub AttemptsTurned : Type 0
AttemptsTurned = (rule : RuleMeaning) (state : State) → attempt (turned_round rule) state ≡ attempt rule state

-- so does an attempt of the rule facing down or right
abbrev pub AttemptsForwards : Type 0
AttemptsForwards = (rule : RuleMeaning) (state : State) → attempt (forwards rule) state ≡ attempt rule state

-- so does a round of such rules
abbrev pub RoundsForwards : Type 0
RoundsForwards = (rules : List RuleMeaning) (state : State) → round (map forwards rules) state ≡ round rules state

-- a group of them
abbrev pub GroupsForwards : Type 0
GroupsForwards = (rules : List RuleMeaning) (state : State) → group (map forwards rules) state ≡ group rules state

-- a pass of groups of them
abbrev pub PassesForwards : Type 0
PassesForwards =
    (body : List (List RuleMeaning)) (state : State) → pass (map (map forwards) body) state ≡ pass body state

-- a loop over such groups, with as many repeats left
abbrev pub LoopsForwards : Type 0
LoopsForwards =
    (body : List (List RuleMeaning)) (repeats : ℕ) (state : State) →
    looped (map (map forwards) body) repeats state ≡ looped body repeats state

-- a section of them
abbrev pub SectionsForwards : Type 0
SectionsForwards =
    (section : Section) (repeats : ℕ) (state : State) →
    section_run (section_forwards section) repeats state ≡ section_run section repeats state

-- and a program of such sections
abbrev pub ProgramsForwards : Type 0
ProgramsForwards =
    (sections : List Section) (state : State) →
    program_run (map section_forwards sections) state ≡ program_run sections state
