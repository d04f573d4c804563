-- A movement that has begun: some objects went to their targets and are at rest there, and the others stand where they
-- stood, each with its motion.
use Rattle.std.specs.Prelude.{◌≡◌, ℕ, Bool, true, false}
use Rattle.ps_model.specs.declared.pieces.ObjectId.{ObjectId}
use Rattle.ps_model.specs.declared.pieces.Motion.{Motion}
use Rattle.ps_model.specs.declared.pieces.Motion.TheVariants.{Still}
use Rattle.ps_model.specs.declared.pieces.Slot.TheVariants.{Holds}
use Rattle.ps_model.specs.board.Grid.{Grid, slot_at}
use Rattle.ps_model.specs.board.WeakMovement.{count_of, landing}

-- the motion of an object that may have gone
abbrev pub motion_left : Bool → Motion → Motion
motion_left true motion = Still
motion_left false motion = motion

-- the second grid is the first in the midst of a weak slide
pub record IsMidway (before now : Grid) : Type 0 where
  pub width : now.width ≡ before.width
  pub height : now.height ≡ before.height
  pub layers : now.layers ≡ before.layers
  -- whether the object of a layer's cell went to its target
  pub goes : ℕ → ℕ → Bool
  pub lands : (layer cell : ℕ) (object : ObjectId) (motion : Motion) → slot_at before cell layer ≡ Holds object motion →
      slot_at now (landing before goes layer cell) layer ≡ Holds object (motion_left (goes layer cell) motion)
  pub apart : (layer first second : ℕ) (one other : ObjectId) (motion motion' : Motion) →
      slot_at before first layer ≡ Holds one motion → slot_at before second layer ≡ Holds other motion' →
      landing before goes layer first ≡ landing before goes layer second → first ≡ second
  pub comes : (layer cell : ℕ) (object : ObjectId) (motion : Motion) → slot_at now cell layer ≡ Holds object motion →
      (from : ℕ) × (was : Motion) × (slot_at before from layer ≡ Holds object was) ×
      (landing before goes layer from ≡ cell)
  pub as_often : (layer : ℕ) (object : ObjectId) → count_of now layer object ≡ count_of before layer object
