-- What keeps a grid one of its game: attempts, rounds, groups, passes, loops, sections and programs, of rules whose
-- cells keep the cells of the game; the movement, rest and inputs; and so each turn. The cells of a game's own rules
-- keep the cells of the game.
use Rattle.std.specs.Prelude.{ℕ, Bool, Option, List, All, ⊤}
use Rattle.ps_model.specs.declared.pieces.Slot.{Slot}
use Rattle.ps_model.specs.declared.play.Input.{Input}
use Rattle.ps_model.specs.declared.rules.Part.{Part}
use Rattle.ps_model.specs.names.Names.{Names}
use Rattle.ps_model.specs.board.Grid.{Grid, at_rest}
use Rattle.ps_model.specs.board.GameGrids.{IsCellOf, IsGridOf}
use Rattle.ps_model.specs.rules.SourceRules.{CellPair, SourceRule, RuleLine}
use Rattle.ps_model.specs.meaning.GameRules.{IsPairOf, IsRuleOf, IsLineOf, IsReadingOf}
use Rattle.ps_model.specs.meaning.Readings.{Reading, readings}
use Rattle.ps_model.specs.meaning.RuleMeanings.{CellMeaning, RuleMeaning}
use Rattle.ps_model.specs.meaning.ReadingMeanings.{cell_meaning, meanings}
use Rattle.ps_model.specs.board.Attempts.{State, attempt}
use Rattle.ps_model.specs.board.Programs.{Section, round, settled, group, pass, looped, section_run}
use Rattle.ps_model.specs.board.Programs.{sections_run, program_run}
use Rattle.ps_model.specs.board.RulePrograms.{program_of}
use Rattle.ps_model.specs.board.Movement.{slid}
use Rattle.ps_model.specs.board.Inputs.{with_input}
use Rattle.ps_model.specs.game.Games.{Game}
use Rattle.ps_laws.specs.EachGroup.{EachGroup}
use Rattle.ps_model.specs.board.Turns.{Script, script_of, Outcome, Blocked, Restarted, Finished, turn}

-- a cell of a rule makes of each cell of the game, whether it fits or not, a cell of the game
abbrev pub KeepsCells : Names → CellMeaning → Type 0
KeepsCells names meaning = (cell : List Slot) → IsCellOf names cell → IsCellOf names (meaning.rewritten cell)

-- all cells of a rule do
abbrev pub Keeps : Names → RuleMeaning → Type 0
Keeps names rule = All (All (All (KeepsCells names))) rule.rows

-- all rules of a section do
abbrev pub KeepsInSection : Names → Section → Type 0
KeepsInSection names section = EachGroup (All (Keeps names)) section

-- the board that an outcome has, if it has one, is a grid of the game
abbrev pub IsOutcomeOf : Names → Outcome → Type 0
IsOutcomeOf names (Blocked message) = ⊤
IsOutcomeOf names (Restarted message) = ⊤
IsOutcomeOf names (Finished done) = IsGridOf names done.board

-- what keeps grids, whatever rules there are --------------------------------------------------------------------------

-- an attempt of a rule whose cells keep the cells of a game keeps each grid of the game
abbrev pub AttemptsKeepGrids : Type 0
AttemptsKeepGrids =
    (names : Names) (rule : RuleMeaning) (state : State) → Keeps names rule → IsGridOf names state.grid →
    IsGridOf names (attempt rule state).state.grid

-- so does a round of such rules: their attempts in order
abbrev pub RoundsKeepGrids : Type 0
RoundsKeepGrids =
    (names : Names) (rules : List RuleMeaning) (state : State) → All (Keeps names) rules → IsGridOf names state.grid →
    IsGridOf names (round rules state).state.grid

-- so do rounds until one changes nothing, however many there may be
abbrev pub SettlingKeepsGrids : Type 0
SettlingKeepsGrids =
    (names : Names) (rules : List RuleMeaning) (rounds : ℕ) (changed : Bool) (state : State) →
    All (Keeps names) rules → IsGridOf names state.grid → IsGridOf names (settled rules rounds changed state).state.grid

-- so does a group of such rules
abbrev pub GroupsKeepGrids : Type 0
GroupsKeepGrids =
    (names : Names) (rules : List RuleMeaning) (state : State) → All (Keeps names) rules → IsGridOf names state.grid →
    IsGridOf names (group rules state).state.grid

-- so does a pass of groups of such rules
abbrev pub PassesKeepGrids : Type 0
PassesKeepGrids =
    (names : Names) (body : List (List RuleMeaning)) (state : State) → All (All (Keeps names)) body →
    IsGridOf names state.grid → IsGridOf names (pass body state).state.grid

-- so does a loop over such groups, with however many repeats left
abbrev pub LoopsKeepGrids : Type 0
LoopsKeepGrids =
    (names : Names) (body : List (List RuleMeaning)) (repeats : ℕ) (state : State) →
    All (All (Keeps names)) body → IsGridOf names state.grid → IsGridOf names (looped body repeats state).state.grid

-- so does a section of such rules
abbrev pub SectionsKeepGrids : Type 0
SectionsKeepGrids =
    (names : Names) (section : Section) (repeats : ℕ) (state : State) →
    KeepsInSection names section → IsGridOf names state.grid →
    IsGridOf names (section_run section repeats state).state.grid

-- so do sections one after the other, with however many repeats left
abbrev pub RunsKeepGrids : Type 0
RunsKeepGrids =
    (names : Names) (sections : List Section) (repeats : ℕ) (state : State) →
    All (KeepsInSection names) sections → IsGridOf names state.grid →
    IsGridOf names (sections_run sections repeats state).grid

-- so does a run of a program of such rules
abbrev pub ProgramsKeepGrids : Type 0
ProgramsKeepGrids =
    (names : Names) (sections : List Section) (state : State) → All (KeepsInSection names) sections →
    IsGridOf names state.grid → IsGridOf names (program_run sections state).grid

-- the movement keeps each grid of a game: objects stay on their layers
abbrev pub SlidesKeepGrids : Type 0
SlidesKeepGrids = (names : Names) (g : Grid) → IsGridOf names g → IsGridOf names (slid g)

-- rest keeps each grid of a game
abbrev pub RestKeepsGrids : Type 0
RestKeepsGrids = (names : Names) (g : Grid) → IsGridOf names g → IsGridOf names (at_rest g)

-- so does an input
abbrev pub InputsKeepGrids : Type 0
InputsKeepGrids =
    (names : Names) (input : Input) (g : Grid) → IsGridOf names g → IsGridOf names (with_input names input g)

-- a turn of a script whose rules keep the cells of a game makes of each grid of the game one of the game
abbrev pub TurnsKeepGrids : Type 0
TurnsKeepGrids =
    (script : Script) (input : Option Input) (g : Grid) → All (KeepsInSection script.names) script.plain →
    All (KeepsInSection script.names) script.late →
    IsGridOf script.names g → IsOutcomeOf script.names (turn script input g)

-- what a game's own rules keep ----------------------------------------------------------------------------------------

-- the readings of a rule whose objects are all of the game choose objects of the game
abbrev pub ReadingsAreOfGames : Type 0
ReadingsAreOfGames =
    (names : Names) (rule : SourceRule) → IsRuleOf names rule → All (IsReadingOf names) (readings names rule)

-- a cell whose objects are all of the game keeps the cells of the game. So it does under each reading that chooses
-- objects of the game, be it possible or not
abbrev pub RuleCellsKeepCells : Type 0
RuleCellsKeepCells =
    (names : Names) (rule : SourceRule) (reading : Reading) (cell : CellPair) → IsReadingOf names reading →
    IsPairOf names cell → KeepsCells names (cell_meaning names rule reading cell)

-- whatever a rule means whose objects are all of the game keeps the cells of the game
abbrev pub RulesKeepCells : Type 0
RulesKeepCells = (names : Names) (rule : SourceRule) → IsRuleOf names rule → All (Keeps names) (meanings names rule)

-- so does each section of both programs of such rules
abbrev pub RuleProgramsKeepCells : Type 0
RuleProgramsKeepCells =
    (names : Names) (part : Part) (lines : List RuleLine) → All (IsLineOf names) lines →
    All (KeepsInSection names) (program_of names part lines)

-- a turn of a game whose rules are of its names makes of each grid of the game one of the game
abbrev pub GameTurnsKeepGrids : Type 0
GameTurnsKeepGrids =
    (game : Game) (input : Option Input) (g : Grid) → All (IsLineOf game.names) game.rules → IsGridOf game.names g →
    IsOutcomeOf game.names (turn (script_of game) input g)
