-- What a write can do to a mask's fit, as the two tell at once: a write keeps a mask where each cell that fits it fits
-- it afterwards. It wakes it where a cell that doesn't fit it may fit it afterwards.
use Rattle.std.specs.Prelude.{nat_eq, Bool, true, false, ◌&&◌, ◌||◌, not, Option, Some, None, List, [], ◌∷◌}
use Rattle.std.specs.List.{list_all, list_any}
use Rattle.ps_model.specs.declared.pieces.LayerId.{LayerId}
use Rattle.ps_model.specs.declared.pieces.Motion.{Motion}
use Rattle.ps_model.specs.declared.pieces.Motion.TheVariants.{Still}
use Rattle.ps_model.specs.declared.pieces.ObjectId.{ObjectId}
use Rattle.ps_model.specs.declared.compiled.LayeredObject.{LayeredObject}
use Rattle.ps_model.specs.declared.compiled.MotionTest.{MotionTest}
use Rattle.ps_model.specs.declared.compiled.ObjectWrite.{ObjectWrite}
use Rattle.ps_model.specs.declared.compiled.ObjectWrite.TheVariants.{Put, Leave, Clear}
use Rattle.ps_model.specs.declared.compiled.LayerWrite.{LayerWrite}
use Rattle.ps_model.specs.names.Names.{same_object}
use Rattle.ps_model.specs.meaning.Fitting.{same_motion}
use Rattle.ps_model.specs.meaning.Compiled.{CellMask, CellWrite, is_gone}
use Rattle.ps_program.specs.Leaving.{keeps_object}

-- objects -------------------------------------------------------------------------------------------------------------

-- the write is of another layer, or leaves one of the objects there, where that one stands
abbrev pub keeps_one : List LayeredObject → LayeredObject → LayerWrite → Bool
keeps_one objects one write = not (nat_eq (write.layer).0 (one.layer).0) || keeps_object objects write.layer
    write.object

-- where an object of the list stands, one of the list stands there afterwards
abbrev pub stays_among : CellWrite → List LayeredObject → LayeredObject → Bool
stays_among write objects one = not (is_gone write.gone (one.layer).0 one.object) && list_all (keeps_one objects one)
    write.layers

abbrev pub stays : CellWrite → LayeredObject → Bool
stays write one = stays_among write (one ∷ []) one

abbrev pub stay_among : CellWrite → List LayeredObject → Bool
stay_among write objects = list_all (stays_among write objects) objects

-- what becomes of a layer's object isn't that one put there
abbrev pub puts_other : ObjectId → ObjectWrite → Bool
puts_other object (Put put) = not (same_object object put)
puts_other object Leave = true
puts_other object Clear = true

-- the write is of another layer, or doesn't put the object there
abbrev pub puts_not : LayeredObject → LayerWrite → Bool
puts_not one write = not (nat_eq (write.layer).0 (one.layer).0) || puts_other one.object write.object

-- where the object isn't, it isn't afterwards
abbrev pub comes_not : CellWrite → LayeredObject → Bool
comes_not write one = list_all (puts_not one) write.layers

-- motions -------------------------------------------------------------------------------------------------------------

-- the motion is rest
abbrev pub is_rest : Motion → Bool
is_rest motion = same_motion motion Still

-- the write frees a layer of some object
abbrev pub frees : CellWrite → LayerId → Bool
frees write layer = list_any (λ each. nat_eq (each.layer).0 layer.0) write.gone

-- what becomes of a layer's object leaves its motion to what is said of that
abbrev pub is_clear : ObjectWrite → Bool
is_clear (Put object) = false
is_clear Leave = false
is_clear Clear = true

-- the motion that a layer gets is that one, if it gets one
abbrev pub gives_same : Motion → Option Motion → Bool
gives_same motion None = true
gives_same motion (Some given) = same_motion motion given

-- the motion that a layer gets isn't that one, if it gets one
abbrev pub gives_other : Motion → Option Motion → Bool
gives_other motion None = true
gives_other motion (Some given) = not (same_motion motion given)

-- the write is of another layer, or leaves the motion that is asked for, where the layer has it
abbrev pub keeps_asked : MotionTest → LayerWrite → Bool
keeps_asked test write =
    not (nat_eq (write.layer).0 (test.layer).0)
    || (gives_same test.motion write.motion && (is_rest test.motion || not (is_clear write.object)))

-- where a layer has the motion that is asked for, it has it afterwards
abbrev pub motion_stays : CellWrite → MotionTest → Bool
motion_stays write test = (is_rest test.motion || not (frees write test.layer)) && list_all (keeps_asked test)
    write.layers

-- the write is of another layer, or doesn't give it the motion that is asked for
abbrev pub gives_not : MotionTest → LayerWrite → Bool
gives_not test write =
    not (nat_eq (write.layer).0 (test.layer).0)
    || (gives_other test.motion write.motion && (not (is_rest test.motion) || not (is_clear write.object)))

-- where a layer hasn't the motion that is asked for, it hasn't it afterwards
abbrev pub motion_comes_not : CellWrite → MotionTest → Bool
motion_comes_not write test = (not (is_rest test.motion) || not (frees write test.layer)) && list_all (gives_not test)
    write.layers

-- masks ---------------------------------------------------------------------------------------------------------------

-- a write keeps a mask: what it needs stays, what it bars doesn't come, and motions stay
abbrev pub write_keeps : CellWrite → CellMask → Bool
write_keeps write mask =
    list_all (stays write) mask.needed
    && (list_all (comes_not write) mask.barred
    && (list_all (stay_among write) mask.one_of && list_all (motion_stays write) mask.motions))

-- a write lets a mask sleep: what it needs doesn't come, what it bars stays, and motions don't come
abbrev pub lets_sleep : CellWrite → CellMask → Bool
lets_sleep write mask =
    list_all (comes_not write) mask.needed
    && (list_all (stays write) mask.barred
    && (list_all (list_all (comes_not write)) mask.one_of && list_all (motion_comes_not write) mask.motions))

-- a write may wake a mask
abbrev pub write_wakes : CellWrite → CellMask → Bool
write_wakes write mask = not (lets_sleep write mask)
