-- The weak slide: what may be said of a movement before it is said who wins a cell. Each object stands where it stood
-- or in its target. Each is there as often as before, no slot holds two, and all objects are at rest. A movement in
-- which everything stays in place is one of them.
use Rattle.std.specs.Prelude.{◌≡◌, ℕ, nat_eq, Bool, true, false, unwrap_or, count_by, slice_index_or}
use Rattle.ps_model.specs.declared.pieces.ObjectId.{ObjectId}
use Rattle.ps_model.specs.declared.pieces.Motion.{Motion}
use Rattle.ps_model.specs.declared.pieces.Motion.TheVariants.{Still}
use Rattle.ps_model.specs.declared.pieces.Slot.{Slot}
use Rattle.ps_model.specs.declared.pieces.Slot.TheVariants.{Bare, Holds}
use Rattle.ps_model.specs.board.Grid.{Grid, slot_at}
use Rattle.ps_model.specs.board.Movement.{target}

-- the slot holds that object
abbrev pub holds_object : ObjectId → Slot → Bool
holds_object object Bare = false
holds_object object (Holds held motion) = nat_eq held.0 object.0

-- how often an object stands on a layer
abbrev pub count_of : Grid → ℕ → ObjectId → ℕ
count_of g layer object = count_by (λ cell. holds_object object (slice_index_or cell layer Bare)) g.cells

-- where the object of a cell lands, where `goes` says which objects go to their targets
abbrev pub landing : Grid → (ℕ → ℕ → Bool) → ℕ → ℕ → ℕ
landing g goes layer cell = elim (goes layer cell) [ true ↦ unwrap_or (target g layer cell) cell | false ↦ cell ]

-- the second grid is the first after some weak slide
pub record IsWeaklySlid (before after : Grid) : Type 0 where
  pub width : after.width ≡ before.width
  pub height : after.height ≡ before.height
  pub layers : after.layers ≡ before.layers
  -- whether the object of a layer's cell goes to its target
  pub goes : ℕ → ℕ → Bool
  -- each object lands where it stood or in its target, and is at rest there
  pub lands : (layer cell : ℕ) (object : ObjectId) (motion : Motion) → slot_at before cell layer ≡ Holds object motion →
      slot_at after (landing before goes layer cell) layer ≡ Holds object Still
  -- no two land in one slot
  pub apart : (layer first second : ℕ) (one other : ObjectId) (motion motion' : Motion) →
      slot_at before first layer ≡ Holds one motion → slot_at before second layer ≡ Holds other motion' →
      landing before goes layer first ≡ landing before goes layer second → first ≡ second
  -- whatever stands somewhere afterwards landed there
  pub comes : (layer cell : ℕ) (object : ObjectId) (motion : Motion) → slot_at after cell layer ≡ Holds object motion →
      (from : ℕ) × (was : Motion) × (slot_at before from layer ≡ Holds object was) ×
      (landing before goes layer from ≡ cell)
  -- each object is there as often as before
  pub as_often : (layer : ℕ) (object : ObjectId) → count_of after layer object ≡ count_of before layer object
