-- Values of layers: what can stand on a layer of a cell, which of it a mask fits, and which a write leaves as it is. A
-- value is nothing, or an object of the layer with one of the six motions.
use Rattle.std.specs.Prelude.{ℕ, zero, suc, nat_eq, Bool, false, ◌&&◌, ◌||◌, not, List, [], ◌∷◌}
use Rattle.std.specs.List.{list_all, list_any}
use Rattle.ps_model.specs.declared.pieces.ObjectId.{ObjectId}
use Rattle.ps_model.specs.declared.pieces.Direction.TheVariants.{Up, Down, Left, Right}
use Rattle.ps_model.specs.declared.pieces.Motion.{Motion}
use Rattle.ps_model.specs.declared.pieces.Motion.TheVariants.{Still, Going, Acting}
use Rattle.ps_model.specs.declared.pieces.Slot.{Slot}
use Rattle.ps_model.specs.declared.pieces.Slot.TheVariants.{Bare, Holds}
use Rattle.ps_model.specs.declared.compiled.LayeredObject.{LayeredObject}
use Rattle.ps_model.specs.declared.compiled.MotionTest.{MotionTest}
use Rattle.ps_model.specs.names.Names.{Names, layer_of, object_count}
use Rattle.ps_model.specs.board.Attempts.{same_slot}
use Rattle.ps_model.specs.board.Grid.{motion_in}
use Rattle.ps_model.specs.meaning.Fitting.{same_motion}
use Rattle.ps_model.specs.meaning.Compiled.{CellMask, CellWrite, CompiledCell, slot_holds, slot_freed, slot_written}
use Rattle.ps_model.specs.meaning.Compiled.{write_on}

-- what fits -----------------------------------------------------------------------------------------------------------

-- the object is one of the layer
abbrev pub lies_on : ℕ → LayeredObject → Bool
lies_on layer each = nat_eq (each.layer).0 layer

-- an object that is needed stands there, if it is one of the layer
abbrev pub has_needed : ℕ → Slot → LayeredObject → Bool
has_needed layer slot each = not (lies_on layer each) || slot_holds each.object slot

-- an object that is barred stands there
abbrev pub has_barred : ℕ → Slot → LayeredObject → Bool
has_barred layer slot each = lies_on layer each && slot_holds each.object slot

-- one of a list stands there, if all of them are of the layer
abbrev pub has_one_of : ℕ → Slot → List LayeredObject → Bool
has_one_of layer slot objects =
    not (list_all (lies_on layer) objects) || list_any (λ each. slot_holds each.object slot) objects

-- the motion is the one that is asked for, if it is asked of the layer
abbrev pub has_motion : ℕ → Slot → MotionTest → Bool
has_motion layer slot test = not (nat_eq (test.layer).0 layer) || same_motion test.motion (motion_in slot)

-- a value is what the mask asks of its layer
abbrev pub layer_fits : CellMask → ℕ → Slot → Bool
layer_fits mask layer slot =
    list_all (has_motion layer slot) mask.motions
    && (list_all (has_needed layer slot) mask.needed
    && (not (list_any (has_barred layer slot) mask.barred) && list_all (has_one_of layer slot) mask.one_of))

-- what stays ----------------------------------------------------------------------------------------------------------

-- what a write makes of a value
abbrev pub value_written : CellWrite → ℕ → Slot → Slot
value_written write layer slot = slot_written (write_on layer write.layers) (slot_freed write.gone layer slot)

-- a value fits the cell and, where that is asked, becomes another one
abbrev pub passes : CompiledCell → Bool → ℕ → Slot → Bool
passes cell changed layer slot =
    layer_fits cell.mask layer slot && (not changed || not (same_slot (value_written cell.write layer slot) slot))

-- values --------------------------------------------------------------------------------------------------------------

-- some number below a bound passes a test
abbrev pub some_below : (ℕ → Bool) → ℕ → Bool
some_below test zero = false
some_below test (suc n) = some_below test n || test n

-- the six motions, those first that compiled rules ask for most, as they face down or right
abbrev pub motions : List Motion
motions = Going Right ∷ Going Down ∷ Still ∷ Going Up ∷ Going Left ∷ Acting ∷ []

-- the object of a number
abbrev pub numbered : ℕ → ObjectId
numbered number = record { 0 = number }

-- an object passes with some motion
abbrev pub object_passes : CompiledCell → Bool → ℕ → ObjectId → Bool
object_passes cell changed layer object = list_any (λ motion. passes cell changed layer (Holds object motion)) motions

-- so does an object of the layer, by its number
abbrev pub own_passes : Names → CompiledCell → Bool → ℕ → ℕ → Bool
own_passes names cell changed layer number =
    nat_eq (layer_of names (numbered number)) layer && object_passes cell changed layer (numbered number)

-- some value of the layer passes: nothing, or an object of the layer with some motion
abbrev pub some_value : Names → CompiledCell → Bool → ℕ → Bool
some_value names cell changed layer =
    passes cell changed layer Bare || some_below (own_passes names cell changed layer) (object_count names)
