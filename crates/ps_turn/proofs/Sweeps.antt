-- The motion of an input, given to slots at rest.
use Rattle.std.proofs.Common.{◌≡◌, List, [], ◌∷◌, map, refl, ap₂}
use Rattle.ps_model.specs.declared.pieces.Slot.{Slot}
use Rattle.ps_model.specs.declared.pieces.Slot.TheVariants.{Bare, Holds}
use Rattle.ps_model.specs.board.Grid.{slot_at_rest}
use Rattle.ps_model.specs.declared.pieces.Motion.{Motion}
use Rattle.ps_model.specs.declared.pieces.ObjectId.{ObjectId}
use Rattle.ps_model.specs.board.Inputs.{slot_with_motion}
use Rattle.ps_turn.specs.Sweeps.{slot_set_moving}

-- the motion given to a slot at rest
pub moving_from_rest : (moved : List ObjectId) (motion : Motion) (slot : Slot) →
    slot_set_moving moved motion (slot_at_rest slot) ≡ slot_with_motion moved motion slot
moving_from_rest moved motion Bare = refl
moving_from_rest moved motion (Holds object was) = refl

slots_from_rest : (moved : List ObjectId) (motion : Motion) (slots : List Slot) →
    map (slot_set_moving moved motion) (map slot_at_rest slots) ≡ map (slot_with_motion moved motion) slots
slots_from_rest moved motion [] = refl
slots_from_rest moved motion (slot ∷ slots) = ap₂ (λ (s : Slot) (t : List Slot).
    s ∷ t) (moving_from_rest moved motion slot) (slots_from_rest moved motion slots)

-- the motion given to all slots of cells at rest
pub cells_from_rest : (moved : List ObjectId) (motion : Motion) (cells : List (List Slot)) →
    map (map (slot_set_moving moved motion)) (map (map slot_at_rest) cells) ≡ map (map (slot_with_motion moved motion))
    cells
cells_from_rest moved motion [] = refl
cells_from_rest moved motion (cell ∷ cells) = ap₂ (λ (s : List Slot) (t : List (List Slot)).
    s ∷ t) (slots_from_rest moved motion cell) (cells_from_rest moved motion cells)
