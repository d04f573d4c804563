-- What compiled cells mean on a board: objects without room on a layer aren't put there.
use Rattle.std.specs.Prelude.{ℕ, true, Option, Some, None, List, filter, nat_eq, Bool, ◌&&◌, find, ⊤}
use Rattle.ps_model.specs.declared.pieces.Slot.{Slot}
use Rattle.ps_model.specs.declared.pieces.Slot.TheVariants.{Bare, Holds}
use Rattle.ps_model.specs.declared.compiled.LayerWrite.{LayerWrite}
use Rattle.ps_model.specs.meaning.RuleMeanings.{CellMeaning}
use Rattle.ps_model.specs.meaning.Compiled.{CellMask, CellWrite, CompiledCell, mask_fits, cell_written, slot_written}
use Rattle.ps_model.specs.meaning.Compiled.{slot_freed, write_on}
use Rattle.ps_model.specs.board.Grid.{Grid}
use Rattle.ps_board.specs.Rooms.{HasRoom}
use Rattle.ps_board.specs.Runnable.{has_room_for}

-- a write without what has no room
abbrev pub write_in_room : Option (List ℕ) → CellWrite → CellWrite
write_in_room None write = write
write_in_room (Some layers) write = record {
  gone = write.gone;
  layers =
      filter (has_room_for (Some layers)) write.layers;
}

-- a compiled cell whose write is so
abbrev pub cell_in_room : Option (List ℕ) → CompiledCell → CompiledCell
cell_in_room table cell = record { mask = cell.mask; write = write_in_room table cell.write }

-- a mask's meaning alone, and a write's
abbrev pub meaning_of_mask : CellMask → CellMeaning
meaning_of_mask mask = record { fits = mask_fits mask; rewritten = λ cell. cell }

abbrev pub meaning_of_write : CellWrite → CellMeaning
meaning_of_write write = record { fits = λ cell. true; rewritten = cell_written write }

-- a slot of a layer written
abbrev pub slot_after : CellWrite → ℕ → Slot → Slot
slot_after write layer slot = slot_written (write_on layer write.layers) (slot_freed write.gone layer slot)

-- the sides of a grid, and its layers
abbrev pub sides_of : Grid → ℕ × ℕ × ℕ
sides_of g = (g.width, g.height, g.layers)

-- the write is that layer's, and what it puts has room there
abbrev pub is_own_write : Option (List ℕ) → ℕ → LayerWrite → Bool
is_own_write table layer write = has_room_for table write && nat_eq (write.layer).0 layer

-- the first such write
abbrev pub own_write : Option (List ℕ) → ℕ → List LayerWrite → Option LayerWrite
own_write table layer writes = find (is_own_write table layer) writes

-- what stands in a slot has room on that layer
abbrev pub SlotHasRoom : Option (List ℕ) → ℕ → Slot → Type 0
SlotHasRoom table layer Bare = ⊤
SlotHasRoom table layer (Holds object motion) = HasRoom table object layer
