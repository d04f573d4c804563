-- Sets of motions as an index of rows tells them, layer by layer.
use Rattle.std.specs.Prelude.{◌≡◌, ◌<◌, ℕ, ◌+◌, ◌*◌, ◌%◌, Bool, false, List, []}
use Rattle.ps_board.specs.ColumnSets.{column_at, set_columns}
use Rattle.ps_program.specs.declared.motion_sets.TheConstants.{MOTIONS, PLACED_LAYERS}
use Rattle.ps_rows.specs.Planes.{row_of}
use Rattle.ps_rows.specs.Showing.{motions_from}

-- a set of motions is told by the index for one layer, and has what was in the set before
pub record AreMotionsTold (table : List ℕ) (index : List (List Bool)) (layer : ℕ) (before after : List Bool)
    : Type 0 where
  -- a motion of the layer that isn't in the set has a plane without a marked row
  pub own : (k : ℕ) → k < MOTIONS → column_at after (MOTIONS * (layer % PLACED_LAYERS) + k) ≡ false →
      set_columns (row_of index (motions_from table layer + k)) ≡ []
  -- what isn't in it wasn't before
  pub kept : (place : ℕ) → place < MOTIONS * PLACED_LAYERS → column_at after place ≡ false →
      column_at before place ≡ false
