-- Rules that do nothing. A rule finds no place where one of its cells fits none of the board's; and one without
-- commands, whose cells leave all cells that they fit as they are, changes nothing and queues nothing.
use Rattle.std.specs.Prelude.{◌≡◌, true, false, List, All}
use Rattle.std.specs.List.{Contains}
use Rattle.ps_model.specs.declared.pieces.Slot.{Slot}
use Rattle.ps_model.specs.names.Names.{Names}
use Rattle.ps_model.specs.board.Grid.{Grid}
use Rattle.ps_model.specs.rules.SourceRules.{no_commands}
use Rattle.ps_model.specs.board.GameGrids.{IsCellOf, IsGridOf}
use Rattle.ps_model.specs.meaning.RuleMeanings.{CellMeaning, RuleMeaning}
use Rattle.ps_model.specs.board.Places.{cells_in}
use Rattle.ps_model.specs.board.Attempts.{State, Result, attempt}

-- what comes of a state where nothing is done
abbrev pub nothing_done : State → Result
nothing_done state = record { state = state; changed = false }

-- a rule does nothing on a game: nothing is done by an attempt from any of its grids
abbrev pub IsIdle : Names → RuleMeaning → Type 0
IsIdle names rule = (state : State) → IsGridOf names state.grid → attempt rule state ≡ nothing_done state

-- a cell of a row of the rule
abbrev pub IsCellIn : RuleMeaning → CellMeaning → Type 0
IsCellIn rule meaning = (row : List (List CellMeaning)) × Contains rule.rows row × Contains (cells_in row) meaning

-- a cell of a rule fits no cell of a board
abbrev pub FitsNowhere : Grid → CellMeaning → Type 0
FitsNowhere g meaning = All (λ cell. meaning.fits cell ≡ false) g.cells

-- it fits no cell of a game
abbrev pub FitsNone : Names → CellMeaning → Type 0
FitsNone names meaning = (cell : List Slot) → IsCellOf names cell → meaning.fits cell ≡ false

-- it leaves all cells of a game that it fits as they are
abbrev pub LeavesAll : Names → CellMeaning → Type 0
LeavesAll names meaning =
    (cell : List Slot) → IsCellOf names cell → meaning.fits cell ≡ true → meaning.rewritten cell ≡ cell

-- the laws ------------------------------------------------------------------------------------------------------------

-- where one cell of a rule fits no cell of the board, nothing is done by an attempt
abbrev pub NowhereIsNothing : Type 0
NowhereIsNothing =
    (rule : RuleMeaning) (meaning : CellMeaning) → IsCellIn rule meaning → (state : State) →
    FitsNowhere state.grid meaning → attempt rule state ≡ nothing_done state

-- a rule of which one cell fits no cell of the game does nothing on it
abbrev pub FittingNoneIsIdle : Type 0
FittingNoneIsIdle =
    (names : Names) (rule : RuleMeaning) (meaning : CellMeaning) → IsCellIn rule meaning → FitsNone names meaning →
    IsIdle names rule

-- a rule without commands whose cells leave all that they fit as it is does nothing
abbrev pub LeavingAllIsIdle : Type 0
LeavingAllIsIdle =
    (names : Names) (rule : RuleMeaning) → rule.commands ≡ no_commands → All (All (All (LeavesAll names))) rule.rows →
    IsIdle names rule
