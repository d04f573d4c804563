-- The parts of a movement.
use Rattle.std.specs.Prelude.{◌≡◌, ◌≢◌, ℕ, ◌+◌, ◌*◌, ◌<◌, ◌≤◌, Bool, false, List, Option, Some, None}
use Rattle.ps_model.specs.declared.limits.TheConstants.{SIDE_LIMIT}
use Rattle.ps_model.specs.board.Grid.{Grid, IsGrid}
use Rattle.ps_board.specs.ColumnSets.{column_at}
use Rattle.ps_move.specs.Visits.{going_count, way}
use Rattle.ps_move.specs.Order.{IsInOrder}

-- objects of a layer went, in `passes` passes, and no cell that one left is waited for: what can go could before. Each
-- pass left fewer with a direction for motion, and where there was none nothing changed
pub record IsPart (passes : ℕ) (old new : Grid) (layer : ℕ) : Type 0 where
  pub shape : IsGrid old → IsGrid new
  pub width : new.width ≡ old.width
  pub height : new.height ≡ old.height
  pub layers : new.layers ≡ old.layers
  pub order : (before : Grid) → IsInOrder before old layer None → IsInOrder before new layer None
  pub ways : (from to : ℕ) → way new layer from ≡ Some to → way old layer from ≡ Some to
  pub fewer : going_count new + passes ≤ going_count old
  pub same : passes ≡ 0 → new ≡ old

-- after a cell was left, objects of its layer went in `passes` more passes, up to another cell that was left: if that
-- is still waited for
pub record IsChain (passes : ℕ) (old new : Grid) (layer left : ℕ) (hole : Option ℕ) : Type 0 where
  pub shape : IsGrid old → IsGrid new
  pub width : new.width ≡ old.width
  pub height : new.height ≡ old.height
  pub layers : new.layers ≡ old.layers
  pub order : (before : Grid) → IsInOrder before old layer (Some left) → IsInOrder before new layer hole
  pub ways : (from to : ℕ) → way new layer from ≡ Some to → (hole ≡ Some to → ⊥) →
      (way old layer from ≡ Some to) × (to ≢ left)
  pub fewer : going_count new + passes ≤ going_count old

-- passes, of which `moved` moved an object, lead from the start of one layer to that of another: each that moved one
-- left fewer with a direction for motion, and where none did nothing changed
pub record ArePasses (moved : ℕ) (old new : Grid) (first last : ℕ) : Type 0 where
  pub shape : IsGrid old → IsGrid new
  pub width : new.width ≡ old.width
  pub height : new.height ≡ old.height
  pub layers : new.layers ≡ old.layers
  pub order : (before : Grid) → IsInOrder before old first None → IsInOrder before new last None
  pub fewer : going_count new + moved ≤ going_count old
  pub same : moved ≡ 0 → new ≡ old

-- the object of a cell can't go
abbrev pub IsStuck : Grid → ℕ → ℕ → Type 0
IsStuck g layer cell = (to : ℕ) → way g layer cell ≡ Some to → ⊥

-- those of a row can't
abbrev pub IsStuckRow : Grid → ℕ → ℕ → Type 0
IsStuckRow g layer row = (column : ℕ) → column < g.width → IsStuck g layer (column * g.height + row)

-- no number of a set is a count or more
abbrev pub IsBelow : ℕ → List Bool → Type 0
IsBelow count numbers = (x : ℕ) → x < SIDE_LIMIT → count ≤ x → column_at numbers x ≡ false
