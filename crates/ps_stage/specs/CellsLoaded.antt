-- A level as it is loaded, cell by cell.
use Rattle.std.specs.Prelude.{ℕ, List, slice_set}
use Rattle.ps_model.specs.declared.pieces.Slot.{Slot}
use Rattle.ps_model.specs.board.Grid.{Grid}

-- the grid with another cell in place of one
abbrev pub grid_with_cell : Grid → ℕ → List Slot → Grid
grid_with_cell g cell slots = record g { cells = slice_set g.cells cell slots }
