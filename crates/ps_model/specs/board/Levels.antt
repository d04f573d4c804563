-- A level: for each cell the objects that its character shows; and the grid that it is loaded as. Cells go in columns
-- from the left, each column from the top.
use Rattle.std.specs.Prelude.{ℕ, nat_eq, Bool, if◌then◌else◌, Option, Some, None, unwrap_or, List, [], ◌∷◌, ◌++◌, map}
use Rattle.std.specs.Prelude.{find, fold, replicate, slice_set, slice_index_or}
use Rattle.std.specs.Prelude.{encode_utf8}
use Rattle.std.specs.Char.{to_ascii_lowercase}
use Rattle.std.specs.List.{list_any, flat_map}
use Rattle.std.specs.Str.{bytes_eq}
use Rattle.std.specs.Map.{lookup}
use Rattle.ps_model.specs.declared.pieces.ObjectId.{ObjectId}
use Rattle.ps_model.specs.declared.pieces.Motion.TheVariants.{Still}
use Rattle.ps_model.specs.declared.pieces.Slot.{Slot}
use Rattle.ps_model.specs.declared.pieces.Slot.TheVariants.{Bare, Holds}
use Rattle.ps_model.specs.names.Names.{Meaning, One, AllOf, AnyOf, Names, layer_of, backgrounds}
use Rattle.ps_model.specs.board.Grid.{Grid}

-- a level: its sides, and the objects of each cell
pub record Level : Type 0 where
  pub width : ℕ
  pub height : ℕ
  pub cells : List (List ObjectId)

-- the objects of a glyph in a level: one object, or all of an aggregate; a property shows nothing
abbrev pub shown_objects : Option Meaning → Option (List ObjectId)
shown_objects None = None
shown_objects (Some (One object)) = Some (object ∷ [])
shown_objects (Some (AllOf line objects)) = Some objects
shown_objects (Some (AnyOf line objects)) = None

-- the objects that a character of a row shows: it is a name of one character, ASCII letters folded
abbrev pub objects_shown : Names → ℕ → Option (List ObjectId)
objects_shown names character =
    shown_objects (lookup (bytes_eq (encode_utf8 (to_ascii_lowercase character))) names.entries)

-- the layer of the objects of Background
abbrev pub background_layer : Names → ℕ
background_layer names = layer_of names (slice_index_or (backgrounds names) 0 (record { 0 = 0 }))

-- the object lies on the layer of Background
abbrev pub is_ground : Names → ObjectId → Bool
is_ground names object = nat_eq (layer_of names object) (background_layer names)

-- the object for cells without one on the background layer: the first such object met in the level, else Background
abbrev pub ground : Names → List (List ObjectId) → ObjectId
ground names cells =
    unwrap_or (find (is_ground names) (flat_map (λ objects. objects) cells))
    (slice_index_or (backgrounds names) 0 (record { 0 = 0 }))

-- a cell's objects, with one on the background layer
abbrev pub with_ground : Names → ObjectId → List ObjectId → List ObjectId
with_ground names filler objects = if list_any (is_ground names) objects then objects else objects ++ filler ∷ []

-- every cell with an object on the background layer
abbrev pub grounded : Names → List (List ObjectId) → List (List ObjectId)
grounded names cells = map (with_ground names (ground names cells)) cells

-- the slots of a cell: each object at rest on its own layer
abbrev pub cell_of : Names → List ObjectId → List Slot
cell_of names objects = fold (λ slots object. slice_set slots (layer_of names object) (Holds object Still))
    (replicate names.layer_count Bare) objects

-- the grid of a level as it is loaded
abbrev pub loaded : Names → Level → Grid
loaded names level = record {
  width = level.width;
  height = level.height;
  layers = names.layer_count;
  cells =
      map (cell_of names) level.cells;
}
