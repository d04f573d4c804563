-- Rows of the board outside of which the cell of a part doesn't fit that lies so many steps behind its first one.
use Rattle.std.specs.Prelude.{◌≡◌, ℕ, ◌+◌, ◌*◌, ◌<◌, Bool, false, List, slice_get}
use Rattle.ps_model.specs.board.Grid.{Grid}
use Rattle.ps_model.specs.board.Places.{fits_there}
use Rattle.ps_program.specs.declared.cells.CellMask.{CellMask}
use Rattle.ps_program.specs.declared.rows.Axis.{Axis}
use Rattle.ps_program.specs.declared.rows.Axis.TheVariants.{Down}
use Rattle.ps_program.specs.ProgramShown.{mask_shown}
use Rattle.ps_match.specs.InRoom.{meaning_of_mask}
use Rattle.ps_board.specs.ColumnSets.{column_at}
use Rattle.ps_places.specs.Lines.{step_along}

-- the cell doesn't fit, where its part has its first cell on another row of the grid; if the part goes down, there must
-- be room for the cell
pub record HasCellOnlyOn (g : Grid) (mask : CellMask) (axis : Axis) (steps : ℕ) (rows : List Bool) : Type 0 where
  pub at : (row x : ℕ) → row < g.height → (axis ≡ Down → row + steps < g.height) → column_at rows row ≡ false →
      fits_there (meaning_of_mask (mask_shown mask))
      (slice_get g.cells (x * g.height + row + steps * step_along axis g.height)) ≡ false
