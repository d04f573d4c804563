-- The mask and the write of what a rule's cell asks for. What the left asks makes the mask; what both sides claim of
-- layers makes the write. They mean what their sources mean: the mask on every cell at all, the write on the cells of a
-- game.
use Rattle.std.specs.Prelude.{nat_eq, Bool, not, Option, Some, None, option_map, List, [], ◌∷◌, ◌++◌, map, filter}
use Rattle.std.specs.List.{flat_map, filter_map, list_any}
use Rattle.ps_model.specs.declared.pieces.ObjectId.{ObjectId}
use Rattle.ps_model.specs.declared.pieces.Motion.{Motion}
use Rattle.ps_model.specs.declared.pieces.Motion.TheVariants.{Still}
use Rattle.ps_model.specs.names.Names.{Names}
use Rattle.ps_model.specs.meaning.Wanted.{Wanted, Each, Any, Without, denied}
use Rattle.ps_model.specs.meaning.Rewriting.{own_layer, claims_of, claim_on}
use Rattle.ps_model.specs.declared.compiled.Claim.{Claim}
use Rattle.ps_model.specs.declared.compiled.LayeredObject.{LayeredObject}
use Rattle.ps_model.specs.declared.compiled.MotionTest.{MotionTest}
use Rattle.ps_model.specs.declared.compiled.ObjectWrite.{ObjectWrite}
use Rattle.ps_model.specs.declared.compiled.ObjectWrite.TheVariants.{Put, Leave, Clear}
use Rattle.ps_model.specs.declared.compiled.LayerWrite.{LayerWrite}
use Rattle.ps_model.specs.meaning.Compiled.{CellMask, CellWrite, CompiledCell}

-- masks ---------------------------------------------------------------------------------------------------------------

-- the objects that must all stand in the cell
abbrev pub needed_by : Wanted → List ObjectId
needed_by (Each objects motion) = objects
needed_by (Any objects motion) = []
needed_by (Without objects) = []

-- the list of objects of which one must stand there
abbrev pub one_of_by : Wanted → List (List ObjectId)
one_of_by (Each objects motion) = []
one_of_by (Any objects motion) = objects ∷ []
one_of_by (Without objects) = []

-- a claim with a word asks its layer for a motion
abbrev pub motion_test : Claim → Option MotionTest
motion_test claim = option_map (λ motion. record { layer = claim.layer; motion = motion }) claim.motion

-- an object with its layer
abbrev pub layered : Names → ObjectId → LayeredObject
layered names object = record { object = object; layer = own_layer names object }

-- the mask of what the left asks
abbrev pub mask_of : Names → List Wanted → CellMask
mask_of names left = record {
  needed = map (layered names) (flat_map needed_by left);
  barred = map (layered names) (flat_map denied left);
  one_of = map (map (layered names)) (flat_map one_of_by left);
  motions = filter_map motion_test (flat_map (claims_of names) left);
}

-- writes --------------------------------------------------------------------------------------------------------------

-- the motion that a layer gets where the right names it without a word: it keeps its own, where the left names it
-- without a word too; else it rests
abbrev pub rest_or_kept : Option Claim → Option Motion
rest_or_kept None = Some Still
rest_or_kept (Some left) = elim left.motion [ None ↦ None | Some asked ↦ Some Still ]

-- the motion that a layer gets by the right: the word's, if there is one
abbrev pub motion_written : Option Claim → Option Motion → Option Motion
motion_written left (Some motion) = Some motion
motion_written left None = rest_or_kept left

-- the object that a layer gets by the right: the one that is named there; under a loose property it is left
abbrev pub object_of_claim : Option ObjectId → ObjectWrite
object_of_claim (Some object) = Put object
object_of_claim None = Leave

-- the write of a layer that the right claims
abbrev pub claim_write : List Claim → Claim → LayerWrite
claim_write left claim = record {
  layer = claim.layer;
  object = object_of_claim claim.object;
  motion =
      motion_written (claim_on (claim.layer).0 left) claim.motion;
}

-- the write that clears the layer of a claim away
abbrev pub clear_write : Claim → LayerWrite
clear_write claim = record { layer = claim.layer; object = Clear; motion = None }

-- none of the claims is on the layer of that one
abbrev pub is_alone : List Claim → Claim → Bool
is_alone claims claim = not (list_any (λ other. nat_eq (other.layer).0 (claim.layer).0) claims)

-- the writes of the layers that the right claims, and then of those that the left alone does
abbrev pub layer_writes : List Claim → List Claim → List LayerWrite
layer_writes left right = map (claim_write left) right ++ map clear_write (filter (is_alone right) left)

-- the write of what both sides ask
abbrev pub write_of : Names → List Wanted → List Wanted → CellWrite
write_of names left right =
    record {
      gone = map (layered names) (flat_map denied right);
      layers =
          layer_writes (flat_map (claims_of names) left) (flat_map (claims_of names) right);
    }

-- cells ---------------------------------------------------------------------------------------------------------------

-- the compiled cell of what both sides ask
abbrev pub cell_by : Names → List Wanted → List Wanted → CompiledCell
cell_by names left right = record { mask = mask_of names left; write = write_of names left right }
