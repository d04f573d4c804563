-- Rules whose cells fit alike and rewrite alike do alike. Whatever they are part of, from one attempt to a whole
-- program, comes to the same grid and the same queue. It tells the same of whether something changed. So a compiled
-- rule may stand for its source. It is enough that the cells agree on the cells of a game, since rewriting keeps to
-- these.
use Rattle.std.specs.Prelude.{◌≡◌, ℕ, Bool, true, List}
use Rattle.std.specs.List.{AllZip}
use Rattle.ps_model.specs.declared.pieces.Slot.{Slot}
use Rattle.ps_model.specs.names.Names.{Names}
use Rattle.ps_model.specs.board.GameGrids.{IsCellOf, IsGridOf}
use Rattle.ps_model.specs.meaning.RuleMeanings.{CellMeaning, RuleMeaning}
use Rattle.ps_model.specs.board.Attempts.{State, Result, attempt}
use Rattle.ps_model.specs.board.Programs.{Section, Progress, round, group, pass, looped, section_run}
use Rattle.ps_model.specs.board.Programs.{program_run}
use Rattle.ps_laws.specs.EachGroup.{GroupByGroup}

-- alike ---------------------------------------------------------------------------------------------------------------

-- two cells of rules agree on all cells of the game: they fit the same ones; and where their rules rewrite cells, they
-- make the same of each, whether it fits or not. What they make of it is again a cell of the game
pub record AgreeOn (names : Names) (rewrites : Bool) (a b : CellMeaning) : Type 0 where
  pub fits : (cell : List Slot) → IsCellOf names cell → a.fits cell ≡ b.fits cell
  pub writes : rewrites ≡ true → (cell : List Slot) → IsCellOf names cell → a.rewritten cell ≡ b.rewritten cell
  pub keeps : rewrites ≡ true → (cell : List Slot) → IsCellOf names cell → IsCellOf names (a.rewritten cell)

-- two rules are alike: they have the same direction and the same commands, and both rewrite cells or neither does. Cell
-- by cell of each part of each row they agree
pub record SameRule (names : Names) (a b : RuleMeaning) : Type 0 where
  pub direction : a.direction ≡ b.direction
  pub rows : AllZip (AllZip (AllZip (AgreeOn names a.rewrites))) a.rows b.rows
  pub rewrites : a.rewrites ≡ b.rewrites
  pub commands : a.commands ≡ b.commands

-- groups are alike rule by rule
abbrev pub SameGroup : Names → List RuleMeaning → List RuleMeaning → Type 0
SameGroup names a b = AllZip (SameRule names) a b

-- two sections are alike: both are groups that are alike, or both are loops over groups that are alike one by one
abbrev pub SameSection : Names → Section → Section → Type 0
SameSection names a b = GroupByGroup (SameGroup names) a b

-- equal ---------------------------------------------------------------------------------------------------------------

-- two results are equal, and their grid is one of the game
pub record EqualResults (names : Names) (a b : Result) : Type 0 where
  pub equal : a ≡ b
  pub grid : IsGridOf names a.state.grid

-- so are two stands of a program
pub record EqualProgress (names : Names) (a b : Progress) : Type 0 where
  pub equal : a ≡ b
  pub grid : IsGridOf names a.state.grid

-- and two states
pub record EqualStates (names : Names) (a b : State) : Type 0 where
  pub equal : a ≡ b
  pub grid : IsGridOf names a.grid

-- the laws ------------------------------------------------------------------------------------------------------------

-- the attempts of two rules that are alike are equal
abbrev pub EqualAttempts : Type 0
EqualAttempts = (names : Names) (a b : RuleMeaning) → SameRule names a b → (state : State) → IsGridOf names state.grid →
    EqualResults names (attempt a state) (attempt b state)

-- the rounds of two groups that are alike are equal
abbrev pub EqualRounds : Type 0
EqualRounds =
    (names : Names) (a b : List RuleMeaning) → SameGroup names a b → (state : State) → IsGridOf names state.grid →
    EqualResults names (round a state) (round b state)

-- and so are the groups
abbrev pub EqualGroups : Type 0
EqualGroups =
    (names : Names) (a b : List RuleMeaning) → SameGroup names a b → (state : State) → IsGridOf names state.grid →
    EqualResults names (group a state) (group b state)

-- the passes of two loops that are alike are equal
abbrev pub EqualPasses : Type 0
EqualPasses =
    (names : Names) (a b : List (List RuleMeaning)) → AllZip (SameGroup names) a b → (state : State) →
    IsGridOf names state.grid →
    EqualResults names (pass a state) (pass b state)

-- and so are the loops, with as many repeats left
abbrev pub EqualLoops : Type 0
EqualLoops =
    (names : Names) (a b : List (List RuleMeaning)) → AllZip (SameGroup names) a b → (repeats : ℕ) (state : State) →
    IsGridOf names state.grid →
    EqualProgress names (looped a repeats state) (looped b repeats state)

-- two sections that are alike are equal
abbrev pub EqualSections : Type 0
EqualSections =
    (names : Names) (a b : Section) → SameSection names a b → (repeats : ℕ) (state : State) →
    IsGridOf names state.grid →
    EqualProgress names (section_run a repeats state) (section_run b repeats state)

-- and so are two programs that are alike section by section
abbrev pub EqualPrograms : Type 0
EqualPrograms =
    (names : Names) (a b : List Section) → AllZip (SameSection names) a b → (state : State) →
    IsGridOf names state.grid →
    EqualStates names (program_run a state) (program_run b state)
