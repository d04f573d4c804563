-- Who enters a cell of a layer.
use Rattle.std.specs.Prelude.{◌≡◌, ℕ, ◌*◌, ◌<◌, ◌≤◌, Some}
use Rattle.ps_model.specs.declared.pieces.Direction.{Direction}
use Rattle.ps_model.specs.declared.pieces.Motion.TheVariants.{Going}
use Rattle.ps_model.specs.declared.pieces.ObjectId.{ObjectId}
use Rattle.ps_model.specs.declared.pieces.Slot.TheVariants.{Holds}
use Rattle.ps_model.specs.board.Grid.{Grid, neighbour, slot_at}
use Rattle.ps_model.specs.board.Movement.{target}

-- the object of a cell goes in a direction, and that is to another cell
abbrev pub Comes : Grid → ℕ → ℕ → Direction → ℕ → Type 0
Comes g layer to direction from = (from < g.width * g.height) ×
    ((object : ObjectId) × (slot_at g from layer ≡ Holds object (Going direction))
    × (neighbour g direction from ≡ Some to))

-- no object wants to enter a cell
abbrev pub IsWantedByNone : Grid → ℕ → ℕ → Type 0
IsWantedByNone g layer to = (from : ℕ) → target g layer from ≡ Some to → ⊥

-- the least cell whose object wants to enter another
pub record IsFirst (g : Grid) (layer to from : ℕ) : Type 0 where
  pub place : from < g.width * g.height
  pub aims : target g layer from ≡ Some to
  pub least : (other : ℕ) → target g layer other ≡ Some to → from ≤ other

-- the next cell after another whose object wants to enter that, or, if none is after, the first of all
pub record IsNext (g : Grid) (layer to from : ℕ) : Type 0 where
  pub place : from < g.width * g.height
  pub aims : target g layer from ≡ Some to
  pub behind : (other : ℕ) → target g layer other ≡ Some to → other < from → other < to
  pub over : (other : ℕ) → target g layer other ≡ Some to → other < from → to < from
  pub ahead : (other : ℕ) → target g layer other ≡ Some to → from ≤ to → other < to
