-- What it means of a compiled cell that its write changes no cell that it fits.
use Rattle.std.specs.Prelude.{◌≡◌, true, false, List}
use Rattle.ps_model.specs.declared.pieces.Slot.{Slot}
use Rattle.ps_model.specs.meaning.Compiled.{mask_fits, cell_written}
use Rattle.ps_program.specs.declared.cells.CompiledCell.{CompiledCell}
use Rattle.ps_program.specs.ProgramShown.{mask_shown, write_shown}

-- where its write changes no cell that it fits, each cell of a board that it fits is written to itself
abbrev pub LeavesWhatItFits : Type 0
LeavesWhatItFits =
    (compiled : CompiledCell) → compiled.changes ≡ false →
    (cell : List Slot) → mask_fits (mask_shown compiled.mask) cell ≡ true →
    cell_written (write_shown compiled.write) cell ≡ cell
