-- The parts of a board that frames show.
use Rattle.std.specs.Prelude.{◌≤◌, ◌+◌}
use Rattle.ps_model.specs.declared.rooms.Window.{Window}
use Rattle.ps_model.specs.board.Grid.{Grid}

-- the part lies on a grid
pub record IsWindowOf (g : Grid) (window : Window) : Type 0 where
  pub columns : window.first_column + window.columns ≤ g.width
  pub rows : window.first_row + window.rows ≤ g.height
