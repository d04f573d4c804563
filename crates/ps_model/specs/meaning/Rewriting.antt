-- What a cell of a rule makes of a cell of the board. First the objects of the right's `no` go. Then, layer by layer:
-- an object that the right names stands there; under a loose property of the right the object stays; what only the left
-- names goes; and all else is as it was.
use Rattle.std.specs.Prelude.{ℕ, suc, nat_eq, if◌then◌else◌, Option, Some, None, unwrap_or, List, [], ◌∷◌, map, find}
use Rattle.ps_model.specs.declared.pieces.ObjectId.{ObjectId}
use Rattle.ps_model.specs.declared.pieces.LayerId.{LayerId}
use Rattle.ps_model.specs.declared.compiled.Claim.{Claim}
use Rattle.ps_model.specs.declared.pieces.Motion.{Motion}
use Rattle.ps_model.specs.declared.pieces.Motion.TheVariants.{Still}
use Rattle.ps_model.specs.declared.pieces.Slot.{Slot}
use Rattle.ps_model.specs.declared.pieces.Slot.TheVariants.{Bare, Holds}
use Rattle.ps_model.specs.board.Grid.{object_in, motion_in, slot_of}
use Rattle.ps_model.specs.names.Names.{Names, layer_of, is_among}
use Rattle.ps_model.specs.meaning.Wanted.{Wanted, Each, Any, Without}

-- the layer that an object lies on
abbrev pub own_layer : Names → ObjectId → LayerId
own_layer names object = record { 0 = layer_of names object }

-- what the name of an object claims: its layer, for the object, with the motion of its word
abbrev pub object_claim : Names → Option Motion → ObjectId → Claim
object_claim names motion object = record { layer = own_layer names object; object = Some object; motion = motion }

-- the claim of a loose property, whose members lie on one layer
abbrev pub loose_claim : Names → Option Motion → List ObjectId → List Claim
loose_claim names motion [] = []
loose_claim names motion (first ∷ others) = record {
  layer = own_layer names first;
  object = None;
  motion =
      motion;
} ∷ []

-- what is claimed of layers; `no` claims nothing
abbrev pub claims_of : Names → Wanted → List Claim
claims_of names (Each objects motion) = map (object_claim names motion) objects
claims_of names (Any objects motion) = loose_claim names motion objects
claims_of names (Without objects) = []

-- the slot without its object, if that is taken away
abbrev pub slot_without : List ObjectId → Slot → Slot
slot_without gone Bare = Bare
slot_without gone (Holds object motion) = if is_among gone object then Bare else Holds object motion

-- the claim on a layer
abbrev pub claim_on : ℕ → List Claim → Option Claim
claim_on layer claims = find (λ claim. nat_eq (claim.layer).0 layer) claims

-- the motion that a layer keeps where the right names it without a word: its own, where the left names it without a
-- word too; none otherwise
abbrev pub kept_motion : Option Claim → Motion → Motion
kept_motion None motion = Still
kept_motion (Some left) motion = elim left.motion [ None ↦ motion | Some asked ↦ Still ]

-- the slot that a claim of the right makes of a slot: the named object, or the one that stands there; with the word's
-- motion, or the one that is kept
abbrev pub claimed : Claim → Option Claim → Slot → Slot
claimed right left slot = elim right.object [
  | Some object ↦ Holds object (unwrap_or right.motion (kept_motion left (motion_in slot)))
  | None ↦ slot_of (object_in slot) (unwrap_or right.motion (kept_motion left (motion_in slot)))
]

-- a slot that only the left claims is emptied; one that neither side claims stays as it is
abbrev pub unclaimed : Option Claim → Slot → Slot
unclaimed None slot = slot
unclaimed (Some left) slot = Bare

-- a slot from which the objects of the right's `no` are gone, rewritten by the claims on its layer
abbrev pub rewritten_slot : Option Claim → Option Claim → Slot → Slot
rewritten_slot left None slot = unclaimed left slot
rewritten_slot left (Some right) slot = claimed right left slot

-- the slots of a cell from a layer on, rewritten by the claims of the left and of the right
abbrev pub rewritten_from : List Claim → List Claim → List ObjectId → ℕ → List Slot → List Slot
rewritten_from left right gone layer [] = []
rewritten_from left right gone layer (slot ∷ slots) =
    rewritten_slot (claim_on layer left) (claim_on layer right) (slot_without gone slot) ∷ rewritten_from left right
    gone (suc layer) slots
