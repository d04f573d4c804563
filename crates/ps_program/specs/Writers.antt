-- Rules of one row of two parts of which one cell alone changes anything, and what it writes keeps the masks of all
-- others: wherever the row fits, it is written and nothing else, and it is written once, as the same write after it
-- makes the same.
use Rattle.std.specs.Prelude.{◌≡◌, ℕ, ◌+◌, nat_lt, if◌then◌else◌, Bool, true, false, ◌&&◌, not, Option, Some, None}
use Rattle.std.specs.Prelude.{List, [], ◌∷◌}
use Rattle.std.specs.Prelude.{drop, slice_get, take}
use Rattle.std.specs.List.{list_all}
use Rattle.ps_model.specs.declared.limits.TheConstants.{SIDE_LIMIT}
use Rattle.ps_model.specs.declared.pieces.LayerId.{LayerId}
use Rattle.ps_model.specs.declared.pieces.Slot.{Slot}
use Rattle.ps_model.specs.declared.compiled.LayeredObject.{LayeredObject}
use Rattle.ps_model.specs.declared.compiled.ObjectWrite.{ObjectWrite}
use Rattle.ps_model.specs.declared.compiled.ObjectWrite.TheVariants.{Put, Leave, Clear}
use Rattle.ps_model.specs.declared.compiled.LayerWrite.{LayerWrite}
use Rattle.ps_model.specs.meaning.Compiled.{CellWrite, cell_written, is_gone}
use Rattle.ps_program.specs.declared.cells.CompiledCell.{CompiledCell}
use Rattle.ps_program.specs.declared.rows.CompiledRow.{CompiledRow}
use Rattle.ps_program.specs.declared.writers.Writer.{Writer}
use Rattle.ps_program.specs.CellsShown.{mask_shown, write_shown}
use Rattle.ps_program.specs.Keeping.{write_keeps}

-- what becomes of a layer's object isn't one that goes from there
abbrev pub object_lasts : List LayeredObject → LayerId → ObjectWrite → Bool
object_lasts gone layer (Put object) = not (is_gone gone layer.0 object)
object_lasts gone layer Leave = true
object_lasts gone layer Clear = true

abbrev pub layer_lasts : List LayeredObject → LayerWrite → Bool
layer_lasts gone write = object_lasts gone write.layer write.object

-- a write puts nothing that goes
abbrev pub settles : CellWrite → Bool
settles write = list_all (layer_lasts write.gone) write.layers

-- after such a write the same write changes nothing
abbrev pub SettlesAtOnce : Type 0
SettlesAtOnce =
    (write : CellWrite) → settles write ≡ true →
    (cell : List Slot) → cell_written write (cell_written write cell) ≡ cell_written write cell

-- a cell changes nothing, and a write keeps its mask
abbrev pub stands_aside : CellWrite → CompiledCell → Bool
stands_aside write cell = not cell.changes && write_keeps write (mask_shown cell.mask)

-- so do those before and after a cell of a part, and those of the other part, and the cell's write settles
abbrev pub cell_writes_alone : Option CompiledCell → List CompiledCell → List CompiledCell → List CompiledCell → Bool
cell_writes_alone None before behind other = false
cell_writes_alone (Some cell) before behind other =
    settles (write_shown cell.write)
    && (list_all (stands_aside (write_shown cell.write)) before
    && (list_all (stands_aside (write_shown cell.write)) behind && list_all (stands_aside
    (write_shown cell.write)) other))

-- the cell of a part with a number alone changes anything in this part and the other
abbrev pub writes_alone : List CompiledCell → ℕ → List CompiledCell → Bool
writes_alone part number other = cell_writes_alone (slice_get part number) (take number part) (drop
    (number + 1) part) other

abbrev pub part_writer : List CompiledCell → ℕ → List CompiledCell → Bool
part_writer part number other = nat_lt number SIDE_LIMIT && writes_alone part number other

-- the writer of two parts, and of one row of two parts
abbrev pub parts_writer : List (List CompiledCell) → Writer → Bool
parts_writer [] writer = false
parts_writer (first ∷ []) writer = false
parts_writer (first ∷ second ∷ []) writer =
    if writer.leads then part_writer first writer.cell second else part_writer second writer.cell first
parts_writer (first ∷ second ∷ third ∷ parts) writer = false

abbrev pub rows_writer : List CompiledRow → Option Writer → Bool
rows_writer rows None = true
rows_writer [] (Some writer) = false
rows_writer (row ∷ []) (Some writer) = parts_writer row.parts writer
rows_writer (row ∷ other ∷ rows) (Some writer) = false
