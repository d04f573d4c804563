-- What a grid of a game is: it has the game's layers, and each object on it is one of the game's and stands on its own
-- layer.
use Rattle.std.specs.Prelude.{ℕ, suc, ◌≡◌, ◌<◌, ◌*◌, List, [], ◌∷◌, All, length, ⊤}
use Rattle.ps_model.specs.declared.pieces.Slot.{Slot}
use Rattle.ps_model.specs.declared.pieces.Slot.TheVariants.{Bare, Holds}
use Rattle.ps_model.specs.names.Names.{Names, layer_of, object_count}
use Rattle.ps_model.specs.board.Grid.{Grid}

-- a slot of a layer: it is bare, or holds an object of the game that lies on that layer
abbrev pub IsSlotOf : Names → ℕ → Slot → Type 0
IsSlotOf names layer Bare = ⊤
IsSlotOf names layer (Holds object motion) = (object.0 < object_count names) × (layer_of names object ≡ layer)

-- the slots of a cell from a layer on
abbrev pub IsCellFrom : Names → ℕ → List Slot → Type 0
IsCellFrom names layer [] = ⊤
IsCellFrom names layer (slot ∷ slots) = IsSlotOf names layer slot × IsCellFrom names (suc layer) slots

-- a cell has one slot for each layer of the game
abbrev pub IsCellOf : Names → List Slot → Type 0
IsCellOf names cell = (length cell ≡ names.layer_count) × IsCellFrom names 0 cell

-- a grid has the layers of the game, cells of the game, and as many of them as its sides say
pub record IsGridOf (names : Names) (g : Grid) : Type 0 where
  pub layers : g.layers ≡ names.layer_count
  pub cells : All (IsCellOf names) g.cells
  pub shape : length g.cells ≡ g.width * g.height
