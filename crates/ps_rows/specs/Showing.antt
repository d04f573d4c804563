-- What planes show. A game has one plane for each object, and behind them five for each layer, of the objects that are
-- about to go up, down, left or right, or to act.
use Rattle.std.specs.Prelude.{◌≡◌, ◌<◌, ℕ, ◌+◌, ◌-◌, ◌*◌, Bool, cond, Option, Some, None, option_map, List, [], ◌∷◌}
use Rattle.std.specs.Prelude.{◌++◌, length, map, replicate, slice_get, take, find}
use Rattle.std.specs.List.{range_with_len}
use Rattle.ps_model.specs.declared.pieces.ObjectId.{ObjectId}
use Rattle.ps_model.specs.declared.pieces.Direction.TheVariants.{Up, Down, Left, Right}
use Rattle.ps_model.specs.declared.pieces.Motion.{Motion}
use Rattle.ps_model.specs.declared.pieces.Motion.TheVariants.{Still, Going, Acting}
use Rattle.ps_model.specs.declared.pieces.Slot.{Slot}
use Rattle.ps_model.specs.board.Grid.{Grid, motion_in, slot_of}
use Rattle.ps_model.specs.board.Movement.{is_number}
use Rattle.ps_model.specs.meaning.Fitting.{same_motion}
use Rattle.ps_board.specs.ColumnSets.{no_columns}
use Rattle.ps_rows.specs.Planes.{has_cell, with_cell_in}
use Rattle.ps_rows.specs.Members.{on_layer}

-- an object by its number
abbrev pub numbered : ℕ → ObjectId
numbered number = record { 0 = number }

-- the first of a layer's five planes
abbrev pub motions_from : List ℕ → ℕ → ℕ
motions_from table layer = length table + 5 * layer

-- the plane of a motion, behind the first of its layer's
abbrev pub motion_plane : ℕ → Motion → Option ℕ
motion_plane first Still = None
motion_plane first (Going Up) = Some first
motion_plane first (Going Down) = Some (first + 1)
motion_plane first (Going Left) = Some (first + 2)
motion_plane first (Going Right) = Some (first + 3)
motion_plane first Acting = Some (first + 4)

-- a layer's five planes
abbrev pub motion_planes : ℕ → List ℕ
motion_planes first = first ∷ (first + 1) ∷ (first + 2) ∷ (first + 3) ∷ (first + 4) ∷ []

-- the first motion whose plane passes a test
unfoldable pub first_motion : (ℕ → Bool) → ℕ → Motion
first_motion passes first =
    cond (passes first) (Going Up)
    (cond (passes (first + 1)) (Going Down)
    (cond (passes (first + 2)) (Going Left)
    (cond (passes (first + 3)) (Going Right) (cond (passes (first + 4)) Acting Still))))

-- the number of the object that stands on a layer of a cell: the first whose plane has the cell
unfoldable pub object_shown : List ℕ → ℕ → List (List Bool) → ℕ → ℕ → Option ℕ
object_shown table height words cell layer = find (has_cell height words cell) (on_layer table layer)

-- what it is about to do
unfoldable pub motion_shown : List ℕ → ℕ → List (List Bool) → ℕ → ℕ → Motion
motion_shown table height words cell layer = first_motion (has_cell height words cell) (motions_from table layer)

-- the slot of a cell on a layer
unfoldable pub slot_shown : List ℕ → ℕ → List (List Bool) → ℕ → ℕ → Slot
slot_shown table height words cell layer =
    slot_of (option_map numbered (object_shown table height words cell layer))
    (motion_shown table height words cell layer)

-- the slots of a cell, and all cells
unfoldable pub cell_shown : List ℕ → ℕ → ℕ → List (List Bool) → ℕ → List Slot
cell_shown table layers height words cell = map (slot_shown table height words cell) (range_with_len 0 layers)

unfoldable pub cells_shown : List ℕ → ℕ → ℕ → List (List Bool) → ℕ → List (List Slot)
cells_shown table layers height words cells = map (cell_shown table layers height words) (range_with_len 0 cells)

-- an object's plane has no cell but those which show the object
abbrev pub AreObjectsShown : List ℕ → ℕ → List (List Bool) → ℕ → Type 0
AreObjectsShown table height words cells = (cell object layer : ℕ) → cell < cells →
    slice_get table object ≡ Some layer →
    has_cell height words cell object ≡ is_number (object_shown table height words cell layer) object

-- a motion's plane has no cell but those whose object has that motion
abbrev pub AreMotionsShown : List ℕ → ℕ → ℕ → List (List Bool) → ℕ → Type 0
AreMotionsShown table layers height words cells = (cell layer : ℕ) (motion : Motion) (plane : ℕ) → cell < cells →
    layer < layers →
    motion_plane (motions_from table layer) motion ≡ Some plane →
    has_cell height words cell plane ≡ same_motion motion (motion_in (slot_shown table height words cell layer))

-- the rows with an object and its motion in a cell of a layer, whose objects have these planes, and whose motions have
-- five from the first on
abbrev pub with_slot_in : ℕ → ℕ → List ℕ → Option ℕ → ℕ → Motion → List (List Bool) → List (List Bool)
with_slot_in height cell planes object first motion words =
    with_cell_in height cell (motion_plane first motion) (with_cell_in height cell object words planes)
    (motion_planes first)

-- the rows with those from a place on cleared
abbrev pub cleared_from : ℕ → List (List Bool) → List (List Bool)
cleared_from start words = take start words ++ replicate (length words - start) no_columns

-- the grid that is shown
abbrev pub grid_shown : List ℕ → ℕ → ℕ → ℕ → List (List Bool) → Grid
grid_shown table width height layers words =
    record {
      width = width;
      height = height;
      layers = layers;
      cells =
          cells_shown table layers height words (width * height);
    }
