-- The rows of a frame, each a text of its own.
use Rattle.std.specs.Prelude.{◌≡◌, ◌<◌, ℕ, Bool, true, false, List, [], length, slice_index_or}
use Rattle.ps_model.specs.board.Grid.{Grid}
use Rattle.ps_model.specs.names.Names.{Names}
use Rattle.ps_model.specs.session.Frames.{frame_row}
use Rattle.ps_board.specs.ColumnSets.{column_at}

-- the texts are the rows of a grid's frame, from the top
pub record AreRowsOf (names : Names) (g : Grid) (texts : List (List ℕ)) : Type 0 where
  pub long : length texts ≡ g.height
  pub each : (row : ℕ) → row < g.height → slice_index_or texts row [] ≡ frame_row names g row

-- the texts whose numbers are in a set are rows of one grid's frame, and the others those of another's
pub record ArePatchedRows (names : Names) (rows : List Bool) (g h : Grid) (texts : List (List ℕ)) : Type 0 where
  pub long : length texts ≡ g.height
  pub drawn : (row : ℕ) → row < g.height → column_at rows row ≡ true →
      slice_index_or texts row [] ≡ frame_row names g row
  pub kept : (row : ℕ) → row < g.height → column_at rows row ≡ false →
      slice_index_or texts row [] ≡ frame_row names h row
