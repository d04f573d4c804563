-- A grid is what a board shows: cells in columns from the left, each column from the top, and in each cell one
-- slot for each collision layer, the lowest layer first. A slot is bare, or holds one object with its motion.
use Rattle.std.specs.Prelude.{◌≡◌, ℕ, ◌+◌, ◌-◌, ◌*◌, ◌/◌, ◌%◌, ◌<◌, ◌≤◌, nat_lt, Bool, true, false, Option, Some, None}
use Rattle.std.specs.Prelude.{List, [], All, length, map, replicate, slice_set, slice_index_or}
use Rattle.ps_model.specs.declared.pieces.ObjectId.{ObjectId}
use Rattle.ps_model.specs.declared.pieces.Direction.{Direction}
use Rattle.ps_model.specs.declared.pieces.Direction.TheVariants.{Up, Down, Left, Right}
use Rattle.ps_model.specs.declared.pieces.Motion.{Motion}
use Rattle.ps_model.specs.declared.pieces.Motion.TheVariants.{Still}
use Rattle.ps_model.specs.declared.pieces.Slot.{Slot}
use Rattle.ps_model.specs.declared.pieces.Slot.TheVariants.{Bare, Holds}
use Rattle.ps_model.specs.declared.limits.TheConstants.{LAYER_LIMIT, SIDE_LIMIT}

-- a cell is its slots, the lowest layer first; the cell in column x and row y has the number x * height + y
pub record Grid : Type 0 where
  pub width : ℕ
  pub height : ℕ
  pub layers : ℕ
  pub cells : List (List Slot)

-- how many cells a grid has
abbrev pub cell_count : Grid → ℕ
cell_count g = g.width * g.height

-- the sides and the layers lie within the limits, and each cell has one slot for each layer
pub record IsGrid (g : Grid) : Type 0 where
  pub some_column : 0 < g.width
  pub columns : g.width ≤ SIDE_LIMIT
  pub some_row : 0 < g.height
  pub rows : g.height ≤ SIDE_LIMIT
  pub some_layer : 0 < g.layers
  pub few_layers : g.layers ≤ LAYER_LIMIT
  pub cells : length g.cells ≡ g.width * g.height
  pub slots : All (λ cell. length cell ≡ g.layers) g.cells

-- the grid has that cell and that layer
abbrev pub IsPlace : Grid → ℕ → ℕ → Type 0
IsPlace g cell layer = (cell < g.width * g.height) × (layer < g.layers)

-- the slots of a cell; of no cell, none
abbrev pub cell_at : Grid → ℕ → List Slot
cell_at g cell = slice_index_or g.cells cell []

-- the slot of a cell on a layer; bare where there is none
abbrev pub slot_at : Grid → ℕ → ℕ → Slot
slot_at g cell layer = slice_index_or (cell_at g cell) layer Bare

-- the same grid but for one slot
abbrev pub with_slot : Grid → ℕ → ℕ → Slot → Grid
with_slot g cell layer slot = record g { cells = slice_set g.cells cell (slice_set (cell_at g cell) layer slot) }

-- a grid without objects
abbrev pub empty_grid : ℕ → ℕ → ℕ → Grid
empty_grid width height layers = record {
  width = width;
  height = height;
  layers = layers;
  cells =
      replicate (width * height) (replicate layers Bare);
}

-- the object of a slot
abbrev pub object_in : Slot → Option ObjectId
object_in Bare = None
object_in (Holds object motion) = Some object

-- the motion of a slot
abbrev pub motion_in : Slot → Motion
motion_in Bare = Still
motion_in (Holds object motion) = motion

-- the slot with an object and its motion, or without an object
abbrev pub slot_of : Option ObjectId → Motion → Slot
slot_of None motion = Bare
slot_of (Some object) motion = Holds object motion

-- the same slot, its object at rest
abbrev pub slot_at_rest : Slot → Slot
slot_at_rest Bare = Bare
slot_at_rest (Holds object motion) = Holds object Still

-- the same grid, every object at rest
abbrev pub at_rest : Grid → Grid
at_rest g = record g { cells = map (map slot_at_rest) g.cells }

-- a number, if the test holds
abbrev pub given : Bool → ℕ → Option ℕ
given true n = Some n
given false n = None

-- the cell one step on in a direction, if it is on the board
abbrev pub neighbour : Grid → Direction → ℕ → Option ℕ
neighbour g Up cell = given (nat_lt 0 (cell % g.height)) (cell - 1)
neighbour g Down cell = given (nat_lt (cell % g.height + 1) g.height) (cell + 1)
neighbour g Left cell = given (nat_lt 0 (cell / g.height)) (cell - g.height)
neighbour g Right cell = given (nat_lt (cell / g.height + 1) g.width) (cell + g.height)
