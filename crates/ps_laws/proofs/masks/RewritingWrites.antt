-- A write makes of each cell of a game what the claims of both sides make of it: there, an object that goes stands on
-- its own layer.
use Rattle.std.proofs.Common.{◌≡◌, ℕ, suc, Bool, true, false, cond, not, ◌&&◌, ◌||◌, nat_eq, slice_index_or, sym}
use Rattle.std.proofs.Common.{Option, Some, None, unwrap_or, List, [], ◌∷◌, ◌++◌, refl, ◌∙◌, ap, ap₂, map, filter}
use Rattle.std.proofs.Common.{flat_map}
use Rattle.std.specs.List.{list_any}
use Rattle.std.proofs.Math.Bool.{and-false}
use Rattle.std.proofs.lemmas.Bool.{eqb-true, eq-eqb}
use Rattle.ps_model.specs.declared.pieces.ObjectId.{ObjectId}
use Rattle.ps_model.specs.declared.pieces.Motion.{Motion}
use Rattle.ps_model.specs.declared.pieces.Motion.TheVariants.{Still}
use Rattle.ps_model.specs.declared.pieces.Slot.{Slot}
use Rattle.ps_model.specs.declared.pieces.Slot.TheVariants.{Bare, Holds}
use Rattle.ps_model.specs.declared.pieces.LayerId.{LayerId}
use Rattle.ps_model.specs.declared.compiled.Claim.{Claim}
use Rattle.ps_model.specs.declared.compiled.LayerWrite.{LayerWrite}
use Rattle.ps_model.specs.board.Grid.{object_in, motion_in, slot_of}
use Rattle.ps_model.specs.names.Names.{Names, layer_of, same_object, is_among}
use Rattle.ps_model.specs.board.GameGrids.{IsSlotOf, IsCellFrom, IsCellOf}
use Rattle.ps_model.specs.meaning.Wanted.{Wanted, denied}
use Rattle.ps_model.specs.meaning.Rewriting.{claims_of, slot_without, claim_on, kept_motion, claimed, unclaimed}
use Rattle.ps_model.specs.meaning.Rewriting.{rewritten_slot, rewritten_from}
use Rattle.ps_model.specs.meaning.Compiled.{is_gone, slot_freed, object_written, slot_written, write_on, written_from}
use Rattle.ps_model.specs.meaning.Compiled.{cell_written}
use Rattle.ps_model.specs.meaning.CompiledCells.{layered, motion_written, object_of_claim, claim_write, clear_write}
use Rattle.ps_model.specs.meaning.CompiledCells.{is_alone, layer_writes, write_of}
use Rattle.ps_laws.proofs.common.Truths.{equal_so}

-- a layer that the right claims ---------------------------------------------------------------------------------------

-- it keeps its motion or rests, by the left's word
kept_by : (word : Option Motion) (motion : Motion) →
    unwrap_or (elim word [ None ↦ None | Some asked ↦ Some Still ]) motion ≡ elim word
    [ None ↦ motion | Some asked ↦ Still ]
kept_by None motion = refl
kept_by (Some asked) motion = refl

-- its motion
same_motions : (left : Option Claim) (word : Option Motion) (motion : Motion) →
    unwrap_or (motion_written left word) motion ≡ unwrap_or word (kept_motion left motion)
same_motions left (Some given) motion = refl
same_motions None None motion = refl
same_motions (Some claim) None motion = kept_by claim.motion motion

-- its slot
same_claimed : (layer : LayerId) (object : Option ObjectId) (word : Option Motion) (left : Option Claim) (slot : Slot) →
    object_written (object_of_claim object) (motion_written left word) slot ≡ claimed
    (record { layer = layer; object = object; motion = word }) left slot
same_claimed layer (Some object) word left slot =
    ap (λ motion. Holds object motion) (same_motions left word (motion_in slot))
same_claimed layer None word left slot = ap (slot_of (object_in slot)) (same_motions left word (motion_in slot))

-- the first claim on a layer counts
first_claim : (left : List Claim) (claim : Claim) (layer : ℕ) (slot : Slot) (write : Option LayerWrite)
    (right : Option Claim) (test : Bool) → nat_eq (claim.layer).0 layer ≡ test →
    (test ≡ false → slot_written write slot ≡ rewritten_slot (claim_on layer left) right slot) →
    slot_written (cond test (Some (claim_write left claim)) write) slot ≡ rewritten_slot (claim_on layer left)
    (cond test (Some claim) right) slot
first_claim left claim layer slot write right true e rest =
    same_claimed claim.layer claim.object claim.motion (claim_on (claim.layer).0 left) slot
    ∙ ap (λ (l : ℕ). claimed claim (claim_on l left) slot) (eqb-true (claim.layer).0 layer e)
first_claim left claim layer slot write right false e rest = rest refl

-- the writes of the right's claims, before others
right_writes : (left right : List Claim) (others : List LayerWrite) (layer : ℕ) (slot : Slot) →
    (claim_on layer right ≡ None → slot_written (write_on layer others) slot ≡ unclaimed (claim_on layer left) slot) →
    slot_written (write_on layer (map (claim_write left) right ++ others)) slot ≡ rewritten_slot (claim_on layer left)
    (claim_on layer right) slot
right_writes left [] others layer slot rest = rest refl
right_writes left (claim ∷ right) others layer slot rest =
    first_claim left claim layer slot (write_on layer (map (claim_write left) right ++ others)) (claim_on layer right)
    (nat_eq (claim.layer).0 layer) refl
    (λ e. right_writes left right others layer slot (λ none.
    rest (ap (λ b. cond b (Some claim) (claim_on layer right)) e ∙ none)))

-- a layer that the left alone claims ----------------------------------------------------------------------------------

none_at : (claim : Claim) (found : Option Claim) (others test : Bool) → (found ≡ None → others ≡ false) →
    cond test (Some claim) found ≡ None → (test || others) ≡ false
none_at claim found others true rest none = absurd (cc)
none_at claim found others false rest none = rest none

-- a layer that isn't claimed has no claim
none_on : (layer : ℕ) (claims : List Claim) → claim_on layer claims ≡ None →
    list_any (λ other. nat_eq (other.layer).0 layer) claims ≡ false
none_on layer [] none = refl
none_on layer (claim ∷ claims) none =
    none_at claim (claim_on layer claims) (list_any (λ other. nat_eq (other.layer).0 layer) claims)
    (nat_eq (claim.layer).0 layer) (none_on layer claims) none

alone_on : (claims : List Claim) (claim : Claim) (layer : ℕ) → claim_on layer claims ≡ None → (claim.layer).0 ≡ layer →
    is_alone claims claim ≡ true
alone_on claims claim layer none on = ap (λ (l : ℕ). not (list_any (λ other. nat_eq (other.layer).0 l) claims)) on
    ∙ ap (λ a. not a) (none_on layer claims none)

first_clear : (claim : Claim) (layer : ℕ) (slot : Slot) (others : List Claim) (left : Option Claim) (test alone : Bool)
    → nat_eq (claim.layer).0 layer ≡ test → (test ≡ true → alone ≡ true) →
    slot_written (write_on layer (map clear_write others)) slot ≡ unclaimed left slot →
    slot_written (write_on layer (map clear_write (cond alone (claim ∷ others) others))) slot ≡ unclaimed
    (cond test (Some claim) left) slot
first_clear claim layer slot others left true true e h rest =
    ap (λ b. slot_written (cond b (Some (clear_write claim)) (write_on layer (map clear_write others))) slot) e
first_clear claim layer slot others left true false e h rest = let never : false ≡ true = h refl in absurd (cc)
first_clear claim layer slot others left false true e h rest =
    ap (λ b. slot_written (cond b (Some (clear_write claim)) (write_on layer (map clear_write others))) slot) e ∙ rest
first_clear claim layer slot others left false false e h rest = rest

-- the layers that the left alone claims are cleared
left_writes : (left right : List Claim) (layer : ℕ) (slot : Slot) → claim_on layer right ≡ None →
    slot_written (write_on layer (map clear_write (filter (is_alone right) left))) slot ≡ unclaimed
    (claim_on layer left) slot
left_writes [] right layer slot none = refl
left_writes (claim ∷ left) right layer slot none =
    first_clear claim layer slot (filter (is_alone right) left) (claim_on layer left) (nat_eq (claim.layer).0 layer)
    (is_alone right claim) refl
    (λ e. alone_on right claim layer none (eqb-true (claim.layer).0 layer e)) (left_writes left right layer slot none)

-- cells ---------------------------------------------------------------------------------------------------------------

-- a slot
slot-written : (left right : List Claim) (layer : ℕ) (slot : Slot) →
    slot_written (write_on layer (layer_writes left right)) slot ≡ rewritten_slot (claim_on layer left)
    (claim_on layer right) slot
slot-written left right layer slot = right_writes left right (map clear_write (filter (is_alone right) left)) layer
    slot (left_writes left right layer slot)

-- objects that go from their layers -----------------------------------------------------------------------------------

equal_back : (a b : ℕ) → nat_eq a b ≡ nat_eq b a
equal_back a b = equal_so a b (nat_eq a b) (nat_eq b a) refl refl

-- two objects that are one lie on one layer
one_layer : (names : Names) (object held : ObjectId) (layer : ℕ) → layer_of names held ≡ layer → (same : Bool) →
    nat_eq held.0 object.0 ≡ same →
    (nat_eq (layer_of names object) layer && nat_eq object.0 held.0) ≡ same
one_layer names object held layer on true e =
    let one : held.0 ≡ object.0 = eqb-true held.0 object.0 e in
    let there : layer_of names object ≡ layer = ap (λ n. slice_index_or names.layers n 0) (sym one) ∙ on in
    ap₂ (λ (a b : Bool). a && b) (eq-eqb (layer_of names object) layer there) (eq-eqb object.0 held.0 (sym one))
one_layer names object held layer on false e =
    ap (λ b. nat_eq (layer_of names object) layer && b) (equal_back object.0 held.0 ∙ e)
    ∙ and-false (nat_eq (layer_of names object) layer)

-- an object on its own layer goes if it is among those that go
gone-among : (names : Names) (gone : List ObjectId) (layer : ℕ) (held : ObjectId) → layer_of names held ≡ layer →
    is_gone (map (layered names) gone) layer held ≡ is_among gone held
gone-among names [] layer held on = refl
gone-among names (object ∷ gone) layer held on =
    ap₂ (λ (a b : Bool). a || b) (one_layer names object held layer on (same_object held object) refl)
    (gone-among names gone layer held on)

slot-freed : (names : Names) (gone : List ObjectId) (layer : ℕ) (slot : Slot) → IsSlotOf names layer slot →
    slot_freed (map (layered names) gone) layer slot ≡ slot_without gone slot
slot-freed names gone layer Bare s = refl
slot-freed names gone layer (Holds held motion) s =
    ap (λ b. cond b Bare (Holds held motion)) (gone-among names gone layer held s.1)

-- the slots of a cell
from-written : (names : Names) (left right : List Claim) (gone : List ObjectId) (layer : ℕ) (slots : List Slot) →
    IsCellFrom names layer slots →
    written_from (record { gone = map (layered names) gone; layers = layer_writes left right }) layer slots ≡
    rewritten_from left right gone layer slots
from-written names left right gone layer [] c = refl
from-written names left right gone layer (slot ∷ slots) c =
    ap₂ (λ (first : Slot) (rest : List Slot). first ∷ rest)
    (ap (slot_written (write_on layer (layer_writes left right))) (slot-freed names gone layer slot c.0)
    ∙ slot-written left right layer (slot_without gone slot))
    (from-written names left right gone (suc layer) slots c.1)

-- the write of what both sides ask
pub writes-rewrite : (names : Names) (left right : List Wanted) (cell : List Slot) → IsCellOf names cell →
    cell_written (write_of names left right) cell ≡ rewritten_from (flat_map (claims_of names) left)
    (flat_map (claims_of names) right) (flat_map denied right) 0 cell
writes-rewrite names left right cell of_game =
    from-written names (flat_map (claims_of names) left) (flat_map (claims_of names) right) (flat_map denied right) 0
    cell of_game.1
