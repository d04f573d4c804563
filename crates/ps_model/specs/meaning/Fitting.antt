-- Which cells of the board have what an item of a rule asks.
use Rattle.std.specs.Prelude.{ℕ, nat_eq, Bool, true, false, ◌&&◌, not, Option, Some, None, List, slice_index_or}
use Rattle.std.specs.List.{list_all, list_any}
use Rattle.ps_model.specs.declared.pieces.ObjectId.{ObjectId}
use Rattle.ps_model.specs.declared.pieces.Direction.{Direction}
use Rattle.ps_model.specs.declared.pieces.Direction.TheVariants as direction
use Rattle.ps_model.specs.declared.pieces.Motion.{Motion}
use Rattle.ps_model.specs.declared.pieces.Motion.TheVariants.{Still, Going, Acting}
use Rattle.ps_model.specs.declared.pieces.Slot.{Slot}
use Rattle.ps_model.specs.declared.pieces.Slot.TheVariants.{Bare, Holds}
use Rattle.ps_model.specs.names.Names.{Names, layer_of, same_object}
use Rattle.ps_model.specs.meaning.Wanted.{Wanted, Each, Any, Without}

-- the place of a direction among the motions
abbrev pub direction_number : Direction → ℕ
direction_number direction.Up = 1
direction_number direction.Down = 2
direction_number direction.Left = 3
direction_number direction.Right = 4

-- the place of a motion among the motions
abbrev pub motion_number : Motion → ℕ
motion_number Still = 0
motion_number (Going way) = direction_number way
motion_number Acting = 5

-- the two are one motion
abbrev pub same_motion : Motion → Motion → Bool
same_motion first second = nat_eq (motion_number first) (motion_number second)

-- the motion is the one that is asked for, if one is
abbrev pub is_asked : Option Motion → Motion → Bool
is_asked None motion = true
is_asked (Some asked) motion = same_motion asked motion

-- the slot holds that object, with the motion that is asked for
abbrev pub holds_so : ObjectId → Option Motion → Slot → Bool
holds_so object asked Bare = false
holds_so object asked (Holds held motion) = same_object object held && is_asked asked motion

-- the object stands in the cell, with the motion that is asked for
abbrev pub stands : Names → List Slot → Option Motion → ObjectId → Bool
stands names cell asked object = holds_so object asked (slice_index_or cell (layer_of names object) Bare)

-- the cell has what is wanted
abbrev pub has : Names → List Slot → Wanted → Bool
has names cell (Each objects asked) = list_all (stands names cell asked) objects
has names cell (Any objects asked) = list_any (stands names cell asked) objects
has names cell (Without objects) = not (list_any (stands names cell None) objects)
