-- Rows of the board outside of which a cell of a rule doesn't fit, or a part doesn't begin.
use Rattle.std.specs.Prelude.{◌≡◌, ℕ, ◌+◌, ◌*◌, ◌<◌, ◌≤◌, Bool, false, Option, List, length, slice_get}
use Rattle.ps_model.specs.board.Grid.{Grid}
use Rattle.ps_model.specs.board.Places.{fits_along, fits_there}
use Rattle.ps_program.specs.declared.cells.CellMask.{CellMask}
use Rattle.ps_program.specs.declared.cells.CompiledCell.{CompiledCell}
use Rattle.ps_program.specs.declared.rows.Axis.{Axis}
use Rattle.ps_program.specs.declared.rows.Axis.TheVariants.{Down}
use Rattle.ps_program.specs.ProgramShown.{mask_shown}
use Rattle.ps_match.specs.InRoom.{meaning_of_mask}
use Rattle.ps_board.specs.ColumnSets.{column_at}
use Rattle.ps_places.specs.Lines.{cells_from, part_meaning, step_along}

-- no cell of another row of the grid fits
pub record FitsOnlyOn (g : Grid) (mask : CellMask) (rows : List Bool) : Type 0 where
  pub at : (row x : ℕ) → row < g.height → column_at rows row ≡ false →
      fits_there (meaning_of_mask (mask_shown mask)) (slice_get g.cells (x * g.height + row)) ≡ false

-- a part doesn't fit with its first cell on another row of the grid; one that goes down must have room there
pub record BeginsOnlyOn (g : Grid) (table : Option (List ℕ)) (axis : Axis) (part : List CompiledCell)
    (rows : List Bool) : Type 0 where
  pub at : (row x : ℕ) → row < g.height → (axis ≡ Down → row + length part ≤ g.height) → column_at rows row ≡ false →
      fits_along g (part_meaning table part) (cells_from (step_along axis g.height) (x * g.height + row) (length part))
      ≡ false
