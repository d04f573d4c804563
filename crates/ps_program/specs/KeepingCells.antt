-- What it means of a write that it keeps a mask, and that it doesn't wake one.
use Rattle.std.specs.Prelude.{◌≡◌, true, false, List}
use Rattle.ps_model.specs.declared.pieces.Slot.{Slot}
use Rattle.ps_model.specs.meaning.Compiled.{CellMask, CellWrite, mask_fits, cell_written}
use Rattle.ps_program.specs.Keeping.{write_keeps, write_wakes}

-- a cell that fits a mask fits it after a write that keeps it
abbrev pub KeepsWhatFits : Type 0
KeepsWhatFits =
    (write : CellWrite) (mask : CellMask) → write_keeps write mask ≡ true →
    (cell : List Slot) → mask_fits mask cell ≡ true → mask_fits mask (cell_written write cell) ≡ true

-- a cell that doesn't fit a mask doesn't fit it after a write that doesn't wake it
abbrev pub LetsSleep : Type 0
LetsSleep =
    (write : CellWrite) (mask : CellMask) → write_wakes write mask ≡ false →
    (cell : List Slot) → mask_fits mask cell ≡ false → mask_fits mask (cell_written write cell) ≡ false
