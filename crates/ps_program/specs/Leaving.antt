-- Compiled cells that leave what they fit as it is, as mask and write tell at once: what would go is barred, so it
-- isn't there, and what is put on a layer is what must stand there to fit.
use Rattle.std.specs.Prelude.{nat_eq, Bool, true, false, ◌&&◌, Option, Some, None, List}
use Rattle.std.specs.List.{list_all, list_any}
use Rattle.ps_model.specs.declared.pieces.LayerId.{LayerId}
use Rattle.ps_model.specs.declared.pieces.Motion.{Motion}
use Rattle.ps_model.specs.declared.compiled.LayeredObject.{LayeredObject}
use Rattle.ps_model.specs.declared.compiled.MotionTest.{MotionTest}
use Rattle.ps_model.specs.declared.compiled.ObjectWrite.{ObjectWrite}
use Rattle.ps_model.specs.declared.compiled.ObjectWrite.TheVariants.{Put, Leave, Clear}
use Rattle.ps_model.specs.declared.compiled.LayerWrite.{LayerWrite}
use Rattle.ps_model.specs.names.Names.{same_object}
use Rattle.ps_model.specs.meaning.Fitting.{same_motion}
use Rattle.ps_model.specs.meaning.Compiled.{CellMask, CellWrite, CompiledCell}

-- two objects are one, on one layer
abbrev pub same_layered : LayeredObject → LayeredObject → Bool
same_layered first second = nat_eq (first.layer).0 (second.layer).0 && same_object first.object second.object

-- the object is one of the list
abbrev pub is_listed : List LayeredObject → LayeredObject → Bool
is_listed objects sought = list_any (same_layered sought) objects

-- what a write makes of a layer's object is what a mask needs there, or it is left
abbrev pub keeps_object : List LayeredObject → LayerId → ObjectWrite → Bool
keeps_object needed layer (Put object) = is_listed needed (record { object = object; layer = layer })
keeps_object needed layer Leave = true
keeps_object needed layer Clear = false

-- the layer is asked for that motion
abbrev pub is_test_of : LayerId → Motion → MotionTest → Bool
is_test_of layer motion test = nat_eq (test.layer).0 layer.0 && same_motion test.motion motion

-- the motion that a write gives a layer is the one that a mask asks for, if it gives one
abbrev pub keeps_motion : List MotionTest → LayerId → Option Motion → Bool
keeps_motion tests layer None = true
keeps_motion tests layer (Some motion) = list_any (is_test_of layer motion) tests

-- so the layer stays as it is where the mask fits
abbrev pub keeps_layer : CellMask → LayerWrite → Bool
keeps_layer mask write = keeps_object mask.needed write.layer write.object && keeps_motion mask.motions write.layer
    write.motion

-- a write leaves what a mask fits: what would go is barred, and each layer that is written stays
abbrev pub write_leaves : CellMask → CellWrite → Bool
write_leaves mask write = list_all (is_listed mask.barred) write.gone && list_all (keeps_layer mask) write.layers

-- a cell leaves what it fits
abbrev pub leaves : CompiledCell → Bool
leaves cell = write_leaves cell.mask cell.write
