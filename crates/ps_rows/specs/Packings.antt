-- What the keys of boards stand for. Bit k of a key says whether the k-th noted place differs from a start: a place is a
-- cell of the plane of an object, and the places of a plane stand in the order of the cells.
use Rattle.std.specs.Prelude.{◌≡◌, ℕ, ◌+◌, ◌*◌, ◌<◌, Bool, Some, option_map, List, find, map, slice_get}
use Rattle.std.specs.List.{range_with_len}
use Rattle.ps_model.specs.declared.pieces.Motion.TheVariants.{Still}
use Rattle.ps_model.specs.declared.pieces.Slot.{Slot}
use Rattle.ps_model.specs.board.Grid.{Grid, slot_of}
use Rattle.ps_model.specs.board.Movement.{is_number}
use Rattle.ps_rows.specs.Members.{on_layer}
use Rattle.ps_rows.specs.PackedKeys.{IsWithin, differs, flipped}
use Rattle.ps_rows.specs.Planes.{has_cell}
use Rattle.ps_rows.specs.Showing.{numbered}

-- a board at rest by what tells whether a cell has an object
unfoldable pub slot_by : List ℕ → (ℕ → ℕ → Bool) → ℕ → ℕ → Slot
slot_by table has cell layer = slot_of (option_map numbered (find (has cell) (on_layer table layer))) Still

unfoldable pub cells_by : List ℕ → ℕ → (ℕ → ℕ → Bool) → ℕ → List (List Slot)
cells_by table layers has cells =
    map (λ cell. map (slot_by table has cell) (range_with_len 0 layers)) (range_with_len 0 cells)

-- no cell has two objects of one layer
abbrev pub HaveRoomBy : List ℕ → ℕ → (ℕ → ℕ → Bool) → ℕ → Type 0
HaveRoomBy table layers has cells = (cell object layer : ℕ) → cell < cells → layer < layers →
    slice_get table object ≡ Some layer →
    has cell object ≡ is_number (find (has cell) (on_layer table layer)) object

-- a packing: the board that it was made from, and the numbers of noted places, with how many are noted
pub record Packed : Type 0 where
  pub table : List ℕ
  pub width : ℕ
  pub height : ℕ
  pub layers : ℕ
  pub start : List (List Bool)
  pub numbers : List ℕ
  pub count : ℕ

abbrev pub packed : List ℕ → ℕ → ℕ → ℕ → List (List Bool) → List ℕ → ℕ → Packed
packed table width height layers start numbers count = record {
  table = table;
  width = width;
  height = height;
  layers = layers;
  start = start;
  numbers = numbers;
  count = count;
}

-- a key says that a cell has an object
unfoldable pub has_packed : Packed → List ℕ → ℕ → ℕ → Bool
has_packed p words cell object =
    flipped (differs p.numbers words (object * (p.width * p.height) + cell)) (has_cell p.height p.start cell object)

-- what a key stands for
abbrev pub packed_grid : Packed → List ℕ → Grid
packed_grid p words = record {
  width = p.width;
  height = p.height;
  layers = p.layers;
  cells = cells_by p.table p.layers (has_packed p words) (p.width * p.height);
}

-- a key that stands for a board
pub record IsKey (p : Packed) (words : List ℕ) : Type 0 where
  pub within : IsWithin p.count words
  pub room : HaveRoomBy p.table p.layers (has_packed p words) (p.width * p.height)
