-- Compiled cells mean what their sources mean: the mask on every cell at all, the write on the cells of a game.
use Rattle.std.specs.Prelude.{◌≡◌, Bool, true, List, All, ⊤}
use Rattle.std.specs.List.{flat_map, list_all}
use Rattle.ps_model.specs.declared.pieces.Slot.{Slot}
use Rattle.ps_model.specs.names.Names.{Names}
use Rattle.ps_model.specs.rules.SourceRules.{Item, CellPair, SourceRule}
use Rattle.ps_model.specs.meaning.Occurrences.{are_on_one_layer}
use Rattle.ps_model.specs.meaning.Readings.{Reading}
use Rattle.ps_model.specs.meaning.Wanted.{Wanted, Each, Any, Without, denied, wanted_left, wanted_right}
use Rattle.ps_model.specs.meaning.Fitting.{has}
use Rattle.ps_model.specs.meaning.Rewriting.{claims_of, rewritten_from}
use Rattle.ps_model.specs.meaning.ReadingMeanings.{meaning_by}
use Rattle.ps_model.specs.meaning.Compiled.{mask_fits, cell_written, meaning_of_cell}
use Rattle.ps_model.specs.board.GameGrids.{IsCellOf}
use Rattle.ps_laws.specs.EqualMeanings.{AgreeOn}
use Rattle.ps_laws.specs.KeptGrids.{KeepsCells}
use Rattle.ps_model.specs.meaning.CompiledCells.{mask_of, write_of, cell_by}

-- the members of a loose property lie on one layer
abbrev pub IsOnOneLayer : Names → Wanted → Type 0
IsOnOneLayer names (Each objects motion) = ⊤
IsOnOneLayer names (Any objects motion) = are_on_one_layer names objects ≡ true
IsOnOneLayer names (Without objects) = ⊤

-- so they do in what an item of a rule asks, on the left and on the right, under every reading
abbrev pub LeftsAreOnOneLayer : Type 0
LeftsAreOnOneLayer =
    (names : Names) (rule : SourceRule) (reading : Reading) (item : Item) →
    IsOnOneLayer names (wanted_left names rule reading item)

abbrev pub RightsAreOnOneLayer : Type 0
RightsAreOnOneLayer =
    (names : Names) (rule : SourceRule) (cell : CellPair) (reading : Reading) (item : Item) →
    IsOnOneLayer names (wanted_right names rule cell reading item)

-- a mask fits the cells that have what is asked, be they of the game or not
abbrev pub MasksFit : Type 0
MasksFit =
    (names : Names) (left : List Wanted) → All (IsOnOneLayer names) left → (cell : List Slot) →
    mask_fits (mask_of names left) cell ≡ list_all (has names cell) left

-- a write makes of each cell of the game what the claims make of it: what goes is looked for on its own layer alone
abbrev pub WritesRewrite : Type 0
WritesRewrite =
    (names : Names) (left right : List Wanted) (cell : List Slot) → IsCellOf names cell →
    cell_written (write_of names left right) cell
    ≡ rewritten_from (flat_map (claims_of names) left) (flat_map (claims_of names) right) (flat_map denied right) 0 cell

-- a compiled cell and its source agree, where the source keeps the cells of the game
abbrev pub CompiledCellsAgree : Type 0
CompiledCellsAgree =
    (names : Names) (left right : List Wanted) (rewrites : Bool) → All (IsOnOneLayer names) left →
    KeepsCells names (meaning_by names left right) →
    AgreeOn names rewrites (meaning_of_cell (cell_by names left right)) (meaning_by names left right)
