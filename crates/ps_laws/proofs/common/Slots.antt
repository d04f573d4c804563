-- What is read of a grid whose slots were changed.
use Rattle.std.proofs.Common.{◌≡◌, ◌≢◌, ℕ, ◌<◌, [], length, map, refl, ◌∙◌}
use Rattle.std.specs.Prelude.{slice_set}
use Rattle.std.proofs.Math.ListN.{get_or-map}
use Rattle.std.proofs.lemmas.List.{get_or-set_same, get_or-set_other, length-set}
use Rattle.std.proofs.lemmas.List.Elements.{All-set}
use Rattle.ps_model.specs.declared.pieces.Slot.{Slot}
use Rattle.ps_model.specs.declared.pieces.Slot.TheVariants.{Bare}
use Rattle.ps_model.specs.board.Grid.{Grid, IsGrid, IsPlace, cell_at, slot_at, with_slot, slot_at_rest, at_rest}

-- each cell of a grid has as many slots as there are layers
pub cell_long : (g : Grid) (cell layer : ℕ) → IsGrid g → IsPlace g cell layer → layer < length (cell_at g cell)
cell_long g cell layer shape place =
    let within : cell < length g.cells = rw shape.cells place.0 in
    let long : length (cell_at g cell) ≡ g.layers = shape.slots cell [] within in
    rw long place.1

-- the slot that was set
pub slot_at-with_same : (g : Grid) (cell layer : ℕ) (slot : Slot) → IsGrid g → IsPlace g cell layer →
    slot_at (with_slot g cell layer slot) cell layer ≡ slot
slot_at-with_same g cell layer slot shape place =
    let within : cell < length g.cells = rw shape.cells place.0 in
    rw (get_or-set_same g.cells cell (slice_set (cell_at g cell) layer slot) [] within)
    (get_or-set_same (cell_at g cell) layer slot Bare (cell_long g cell layer shape place))

-- a slot of another cell
pub slot_at-with_other_cell : (g : Grid) (cell layer other l : ℕ) (slot : Slot) → other ≢ cell →
    slot_at (with_slot g cell layer slot) other l ≡ slot_at g other l
slot_at-with_other_cell g cell layer other l slot apart =
    rw (get_or-set_other g.cells cell other (slice_set (cell_at g cell) layer slot) [] apart) refl

-- a slot of another layer of the same cell
pub slot_at-with_other_layer : (g : Grid) (cell layer l : ℕ) (slot : Slot) → IsGrid g → IsPlace g cell layer →
    l ≢ layer → slot_at (with_slot g cell layer slot) cell l ≡ slot_at g cell l
slot_at-with_other_layer g cell layer l slot shape place apart =
    let within : cell < length g.cells = rw shape.cells place.0 in
    rw (get_or-set_same g.cells cell (slice_set (cell_at g cell) layer slot) [] within)
    (get_or-set_other (cell_at g cell) layer l slot Bare apart)

-- a grid stays one
pub IsGrid-with_slot : (g : Grid) (cell layer : ℕ) (slot : Slot) → IsGrid g → IsPlace g cell layer →
    IsGrid (with_slot g cell layer slot)
IsGrid-with_slot g cell layer slot shape place =
    let within : cell < length g.cells = rw shape.cells place.0 in
    let long : length (cell_at g cell) ≡ g.layers = shape.slots cell [] within in
    record {
      some_column = shape.some_column;
      columns = shape.columns;
      some_row = shape.some_row;
      rows = shape.rows;
      some_layer = shape.some_layer;
      few_layers = shape.few_layers;
      cells = length-set g.cells cell (slice_set (cell_at g cell) layer slot) ∙ shape.cells;
      slots = All-set (λ c. length c ≡ g.layers) g.cells cell (slice_set (cell_at g cell) layer slot)
          (length-set (cell_at g cell) layer slot ∙ long) shape.slots;
    }

-- a slot of a grid at rest
pub slot_at-at_rest : (g : Grid) (cell layer : ℕ) → slot_at (at_rest g) cell layer ≡ slot_at_rest (slot_at g cell layer)
slot_at-at_rest g cell layer = rw (get_or-map (map slot_at_rest) g.cells cell [])
    (get_or-map slot_at_rest (cell_at g cell) layer Bare)
