-- The cells of a rule beside its writer stand aside on each board: they leave what they fit as it is, and fit what
-- they fitted behind the writer's write. A write without what has no room settles as well
-- as the whole.
use Rattle.std.proofs.Common.{◌≡◌, ℕ, true, not, Option, Some, None, List}
use Rattle.std.specs.Prelude.{All}
use Rattle.std.specs.List.{list_all}
use Rattle.std.proofs.lemmas.Bool.{and_parts, not-true}
use Rattle.ps_model.specs.declared.pieces.Slot.{Slot}
use Rattle.ps_model.specs.meaning.Compiled.{CellMask, CellWrite}
use Rattle.ps_board.specs.Runnable.{has_room_for}
use Rattle.ps_program.specs.declared.cells.CompiledCell.{CompiledCell}
use Rattle.ps_program.specs.CellsShown.{mask_shown, write_shown}
use Rattle.ps_program.specs.Keeping.{write_keeps}
use Rattle.ps_program.specs.Writers.{layer_lasts, settles, stands_aside}
use Rattle.ps_program.proofs.KeepingCells.{keeps-what-fits}
use Rattle.ps_program.proofs.SettlingCells.{settles-at-once}
use Rattle.ps_match.specs.InRoom.{write_in_room}
use Rattle.ps_places.specs.Lines.{cell_meaning, part_meaning}
use Rattle.ps_places.proofs.WrittenToItself.{all_of_kept, written_to_itself}
use Rattle.ps_engine.proofs.RowsAsleep.{all_made}
use Rattle.ps_engine.proofs.WrittenOnce.{StandsAside}
use Rattle.ps_places.proofs.KeepingMasks.{in_room_keeps}

in_room_settles : (table : Option (List ℕ)) (write : CellWrite) → settles write ≡ true →
    settles (write_in_room table write) ≡ true
in_room_settles None write e = e
in_room_settles (Some layers) write e = all_of_kept (layer_lasts write.gone) (has_room_for (Some layers)) write.layers e

pub written_twice : (table : Option (List ℕ)) (cell : CompiledCell) → settles (write_shown cell.write) ≡ true →
    (slots : List Slot) →
    (cell_meaning table cell).rewritten ((cell_meaning table cell).rewritten slots) ≡
    (cell_meaning table cell).rewritten slots
written_twice table cell e slots =
    settles-at-once (write_in_room table (write_shown cell.write)) (in_room_settles table
    (write_shown cell.write) e) slots

cell_aside : (table : Option (List ℕ)) (writing asking : CompiledCell) →
    stands_aside (write_shown writing.write) asking ≡ true →
    StandsAside (cell_meaning table writing).rewritten (cell_meaning table asking)
cell_aside table writing asking e =
    let write : CellWrite = write_shown writing.write in
    let mask : CellMask = mask_shown asking.mask in
    let parts = and_parts (not asking.changes) (write_keeps write mask) e in
    record {
      still = λ slots fits. written_to_itself table asking (not-true asking.changes parts.0) slots fits;
      keeps = λ slots fits. keeps-what-fits (write_in_room table write) mask
          (in_room_keeps table write mask parts.1) slots fits;
    }

pub cells_aside : (table : Option (List ℕ)) (writing : CompiledCell) (cells : List CompiledCell) →
    list_all (stands_aside (write_shown writing.write)) cells ≡ true →
    All (StandsAside (cell_meaning table writing).rewritten) (part_meaning table cells)
cells_aside table writing cells all =
    all_made (stands_aside (write_shown writing.write)) (cell_meaning table) (StandsAside
    (cell_meaning table writing).rewritten) cells
    (λ asking e. cell_aside table writing asking e) all
