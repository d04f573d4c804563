-- How an input is given, slot by slot, to a board at rest.
use Rattle.std.specs.Prelude.{◌≡◌, ◌<◌, ◌≤◌, ◌+◌, ◌*◌, ℕ, Bool, false, if◌then◌else◌, List, map}
use Rattle.std.specs.List.{list_any}
use Rattle.ps_model.specs.meaning.Compiled.{slot_holds}
use Rattle.ps_model.specs.declared.pieces.Motion.{Motion}
use Rattle.ps_model.specs.declared.pieces.ObjectId.{ObjectId}
use Rattle.ps_model.specs.declared.pieces.Slot.{Slot}
use Rattle.ps_model.specs.declared.pieces.Slot.TheVariants.{Bare, Holds}
use Rattle.ps_model.specs.names.Names.{is_among}
use Rattle.ps_model.specs.board.Grid.{Grid, cell_at, slot_at}

-- a slot whose object, if it is one of these, gets the motion, and else keeps its own
abbrev pub slot_set_moving : List ObjectId → Motion → Slot → Slot
slot_set_moving moved motion Bare = Bare
slot_set_moving moved motion (Holds object was) = Holds object (if is_among moved object then motion else was)

-- the grid with other cells
abbrev pub grid_with_cells : Grid → List (List Slot) → Grid
grid_with_cells g cells = record g { cells = cells }

-- the grid in which these objects get the motion, wherever they stand, and all others keep their own
abbrev pub grid_set_moving : List ObjectId → Motion → Grid → Grid
grid_set_moving moved motion g = grid_with_cells g (map (map (slot_set_moving moved motion)) g.cells)

-- the cell of a number is as the change leaves it
abbrev pub IsCellChanged : (List Slot → List Slot) → Grid → ℕ → Type 0
IsCellChanged change g cell = change (cell_at g cell) ≡ cell_at g cell

-- and so are all cells of a row of a grid of these sides
abbrev pub IsRowChanged : (List Slot → List Slot) → Grid → Grid → ℕ → Type 0
IsRowChanged change sides g row = (x : ℕ) → x < sides.width → IsCellChanged change g (x * sides.height + row)

-- the slot of a cell and a layer is as the change leaves it
abbrev pub IsSlotChanged : (Slot → Slot) → Grid → ℕ → ℕ → Type 0
IsSlotChanged change g cell layer = change (slot_at g cell layer) ≡ slot_at g cell layer

-- and so is the slot of a layer of each cell of a row of a grid of these sides
abbrev pub IsLayerChanged : (Slot → Slot) → Grid → Grid → ℕ → ℕ → Type 0
IsLayerChanged change sides g layer row =
    (x : ℕ) → x < sides.width → IsSlotChanged change g (x * sides.height + row) layer

-- slots that are so stay so
abbrev pub StayChanged : (Slot → Slot) → Grid → Grid → Type 0
StayChanged change before after =
    (cell layer : ℕ) → IsSlotChanged change before cell layer → IsSlotChanged change after cell layer

-- some cells of a grid are changed, and no others; what was changed before stays so
pub record AreChanged (change : List Slot → List Slot) (before after : Grid) : Type 0 where
  pub sides : after ≡ grid_with_cells before after.cells
  pub all : map change after.cells ≡ map change before.cells
  pub kept : (cell : ℕ) → IsCellChanged change before cell → IsCellChanged change after cell

-- the slot holds one of these objects
abbrev pub holds_any : List ObjectId → Slot → Bool
holds_any objects slot = list_any (λ object. slot_holds object slot) objects

-- in a row an object stands on none of the layers from one up to another
abbrev pub StandsOnNone : ObjectId → Grid → ℕ → ℕ → ℕ → Type 0
StandsOnNone object g row first last =
    (layer : ℕ) → first ≤ layer → layer < last → (x : ℕ) → x < g.width →
    slot_holds object (slot_at g (x * g.height + row) layer) ≡ false
