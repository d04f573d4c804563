-- Cells that leave what they fit do, and so do those whose write is told to change nothing.
use Rattle.std.proofs.Common.{◌≡◌, ℕ, suc, ◌+◌, ◌<◌, Bool, true, false, ◌&&◌, ◌||◌, not, cond, Option, Some, None, List}
use Rattle.std.proofs.Common.{[], ◌∷◌, length, get_or, refl, sym, subst, ap, ap₂, ◌∙◌, arith}
use Rattle.std.specs.Prelude.{IfSome, nat_eq, slice_index_or, unwrap_or}
use Rattle.std.specs.List.{list_all, list_any}
use Rattle.std.proofs.lemmas.Bool.{eqb-true, and_parts}
use Rattle.ps_model.specs.declared.pieces.ObjectId.{ObjectId}
use Rattle.ps_model.specs.declared.pieces.LayerId.{LayerId}
use Rattle.ps_model.specs.declared.pieces.Motion.{Motion}
use Rattle.ps_model.specs.declared.pieces.Slot.{Slot}
use Rattle.ps_model.specs.declared.pieces.Slot.TheVariants.{Bare, Holds}
use Rattle.ps_model.specs.declared.compiled.LayeredObject.{LayeredObject}
use Rattle.ps_model.specs.declared.compiled.MotionTest.{MotionTest}
use Rattle.ps_model.specs.declared.compiled.ObjectWrite.{ObjectWrite}
use Rattle.ps_model.specs.declared.compiled.ObjectWrite.TheVariants.{Put, Leave, Clear}
use Rattle.ps_model.specs.declared.compiled.LayerWrite.{LayerWrite}
use Rattle.ps_model.specs.names.Names.{same_object}
use Rattle.ps_model.specs.board.Grid.{motion_in}
use Rattle.ps_model.specs.meaning.Fitting.{same_motion}
use Rattle.ps_model.specs.meaning.Compiled.{CellMask, CellWrite, CompiledCell, slot_holds, is_held_in, moves_as_asked}
use Rattle.ps_model.specs.meaning.Compiled.{mask_fits, is_gone, slot_freed, object_written, slot_written, write_on}
use Rattle.ps_model.specs.meaning.Compiled.{written_from, cell_written}
use Rattle.ps_laws.proofs.common.SameThings.{same_object-true, same_motion-true}
use Rattle.ps_program.specs.Leaving.{is_listed, keeps_object, keeps_motion, keeps_layer, leaves}
use Rattle.ps_program.specs.LeavingCells.{LeavesWhatItFits}
use Rattle.ps_program.specs.ProgramShown.{cell_shown}
use Rattle.ps_program.proofs.FittingMasks.{Sought, found-in, all-true, at-place, listed-denied, listed-held, Fit, fit}

-- the slots of a cell written, each of which stays
written-same : (write : CellWrite) (layer : ℕ) (slots : List Slot) →
    ((i n : ℕ) → n ≡ layer + i → i < length slots →
    slot_written (write_on n write.layers) (slot_freed write.gone n (get_or slots i Bare)) ≡ get_or slots i Bare) →
    written_from write layer slots ≡ slots
written-same write layer [] h = refl
written-same write layer (slot ∷ slots) h =
    ap₂ (λ (first : Slot) (rest : List Slot). first ∷ rest) (h 0 layer (omega arith) (omega arith))
    (written-same write (suc layer) slots (λ i n e within. h (suc i) n (omega (arith, e)) (omega (arith, within))))

-- what goes isn't there
gone-one : (cell : List Slot) (layer : ℕ) (object : ObjectId) (motion : Motion) (each : LayeredObject) (on : Bool) →
    nat_eq (each.layer).0 layer ≡ on → slice_index_or cell layer Bare ≡ Holds object motion →
    is_held_in cell each ≡ false → (on && same_object each.object object) ≡ false
gone-one cell layer object motion each true e there denied =
    sym (ap (slot_holds each.object) (ap (λ (n : ℕ). slice_index_or cell n Bare) (eqb-true (each.layer).0 layer e)
    ∙ there)) ∙ denied
gone-one cell layer object motion each false e there denied = refl

gone-none : (cell : List Slot) (barred gone : List LayeredObject) (layer : ℕ) (object : ObjectId) (motion : Motion) →
    list_any (is_held_in cell) barred ≡ false → list_all (is_listed barred) gone ≡ true →
    slice_index_or cell layer Bare ≡ Holds object motion → is_gone gone layer object ≡ false
gone-none cell barred [] layer object motion none listed there = refl
gone-none cell barred (each ∷ gone) layer object motion none listed there =
    let parts = and_parts (is_listed barred each) (list_all (is_listed barred) gone) listed in
    ap₂ (λ (a b : Bool). a || b) (gone-one cell layer object motion each (nat_eq (each.layer).0 layer) refl there
    (listed-denied cell barred each none parts.0))
    (gone-none cell barred gone layer object motion none parts.1 there)

freed-same : (cell : List Slot) (barred gone : List LayeredObject) (layer : ℕ) (slot : Slot) →
    list_any (is_held_in cell) barred ≡ false → list_all (is_listed barred) gone ≡ true →
    slice_index_or cell layer Bare ≡ slot →
    slot_freed gone layer slot ≡ slot
freed-same cell barred gone layer Bare none listed there = refl
freed-same cell barred gone layer (Holds object motion) none listed there =
    ap (λ (b : Bool). cond b Bare (Holds object motion))
    (gone-none cell barred gone layer object motion none listed there)

-- the motion that is written is the layer's
motion-same : (cell : List Slot) (tests : List MotionTest) (layer : LayerId) (motion : Option Motion) →
    list_all (moves_as_asked cell) tests ≡ true → keeps_motion tests layer motion ≡ true →
    unwrap_or motion (motion_in (slice_index_or cell layer.0 Bare)) ≡ motion_in (slice_index_or cell layer.0 Bare)
motion-same cell tests layer None all keeps = refl
motion-same cell tests layer (Some motion) all keeps =
    by-found (found-in (λ (test : MotionTest).
    nat_eq (test.layer).0 layer.0 && same_motion test.motion motion) tests keeps) where
      by-found : Sought (λ (test : MotionTest). nat_eq (test.layer).0 layer.0 && same_motion test.motion motion) tests →
          motion ≡ motion_in (slice_index_or cell layer.0 Bare)
      by-found (test, within, e) =
          let parts = and_parts (nat_eq (test.layer).0 layer.0) (same_motion test.motion motion) e in
          sym (same_motion-true test.motion motion parts.1)
          ∙ same_motion-true test.motion (motion_in (slice_index_or cell (test.layer).0 Bare))
          (at-place (λ (each : MotionTest). moves_as_asked cell each ≡ true) tests test
          (all-true (moves_as_asked cell) tests all) within)
          ∙ ap (λ (n : ℕ). motion_in (slice_index_or cell n Bare)) (eqb-true (test.layer).0 layer.0 parts.0)

-- the object that is put is the one that stands there
put-same : (object : ObjectId) (motion : Option Motion) (slot : Slot) → slot_holds object slot ≡ true →
    unwrap_or motion (motion_in slot) ≡ motion_in slot → object_written (Put object) motion slot ≡ slot
put-same object motion Bare held stays = absurd (cc)
put-same object motion (Holds there moving) held stays =
    ap₂ (λ (o : ObjectId) (m : Motion). Holds o m) (same_object-true object there held) stays

left-same : (motion : Option Motion) (slot : Slot) → unwrap_or motion (motion_in slot) ≡ motion_in slot →
    object_written Leave motion slot ≡ slot
left-same motion Bare stays = refl
left-same motion (Holds there moving) stays = ap (Holds there) stays

object-same : (cell : List Slot) (needed : List LayeredObject) (layer : LayerId) (object : ObjectWrite)
    (motion : Option Motion) → list_all (is_held_in cell) needed ≡ true → keeps_object needed layer object ≡ true →
    unwrap_or motion (motion_in (slice_index_or cell layer.0 Bare)) ≡ motion_in (slice_index_or cell layer.0 Bare) →
    object_written object motion (slice_index_or cell layer.0 Bare) ≡ slice_index_or cell layer.0 Bare
object-same cell needed layer (Put object) motion all keeps stays =
    put-same object motion (slice_index_or cell layer.0 Bare)
    (listed-held cell needed (record { object = object; layer = layer }) all keeps) stays
object-same cell needed layer Leave motion all keeps stays = left-same motion (slice_index_or cell layer.0 Bare) stays
object-same cell needed layer Clear motion all keeps stays = absurd (cc)

-- a layer that is written stays
layer-same : (mask : CellMask) (cell : List Slot) → Fit mask cell → (write : LayerWrite) (layer : ℕ) →
    (write.layer).0 ≡ layer → keeps_layer mask write ≡ true →
    object_written write.object write.motion (slice_index_or cell layer Bare) ≡ slice_index_or cell layer Bare
layer-same mask cell fits write layer e keeps =
    let parts = and_parts (keeps_object mask.needed write.layer write.object)
    (keeps_motion mask.motions write.layer write.motion) keeps in
    subst (λ (n : ℕ). object_written write.object write.motion (slice_index_or cell n Bare) ≡ slice_index_or cell n
    Bare) e
    (object-same cell mask.needed write.layer write.object write.motion fits.needed parts.0
    (motion-same cell mask.motions write.layer write.motion fits.motions parts.1))

-- the write of a layer
abbrev IsKept : CellMask → ℕ → LayerWrite → Type 0
IsKept mask layer write = ((write.layer).0 ≡ layer) × (keeps_layer mask write ≡ true)

write-is : (mask : CellMask) (layer : ℕ) (write : LayerWrite) (rest : Option LayerWrite) (same : Bool) →
    nat_eq (write.layer).0 layer ≡ same → keeps_layer mask write ≡ true → IfSome rest (IsKept mask layer) →
    IfSome (cond same (Some write) rest) (IsKept mask layer)
write-is mask layer write rest true e keeps others = (eqb-true (write.layer).0 layer e, keeps)
write-is mask layer write rest false e keeps others = others

write_on-kept : (mask : CellMask) (layer : ℕ) (writes : List LayerWrite) → list_all (keeps_layer mask) writes ≡ true →
    IfSome (write_on layer writes) (IsKept mask layer)
write_on-kept mask layer [] all = tt
write_on-kept mask layer (write ∷ writes) all =
    let parts = and_parts (keeps_layer mask write) (list_all (keeps_layer mask) writes) all in
    write-is mask layer write (write_on layer writes) (nat_eq (write.layer).0 layer) refl parts.0
    (write_on-kept mask layer writes parts.1)

slot-same : (mask : CellMask) (cell : List Slot) → Fit mask cell → (layer : ℕ) (write : Option LayerWrite) →
    IfSome write (IsKept mask layer) → slot_written write (slice_index_or cell layer Bare) ≡ slice_index_or cell layer
    Bare
slot-same mask cell fits layer None kept = refl
slot-same mask cell fits layer (Some write) kept = layer-same mask cell fits write layer kept.0 kept.1

-- the cell stays
pub leaves-cell : (compiled : CompiledCell) (cell : List Slot) → leaves compiled ≡ true →
    mask_fits compiled.mask cell ≡ true → cell_written compiled.write cell ≡ cell
leaves-cell compiled cell stays fits =
    let mask : CellMask = compiled.mask in
    let write : CellWrite = compiled.write in
    let parts = and_parts (list_all (is_listed mask.barred) write.gone) (list_all (keeps_layer mask) write.layers)
    stays in
    let fitting : Fit mask cell = fit mask cell fits in
    written-same write 0 cell (λ i n e within.
    let here : n ≡ i = omega (arith, e) in
    subst (λ (m : ℕ). slot_written (write_on m write.layers) (slot_freed write.gone m (slice_index_or cell i Bare)) ≡
    slice_index_or cell i Bare) (sym here)
    (ap (slot_written (write_on i write.layers))
    (freed-same cell mask.barred write.gone i (slice_index_or cell i Bare) fitting.barred parts.0 refl)
    ∙ slot-same mask cell fitting i (write_on i write.layers) (write_on-kept mask i write.layers parts.1)))

told-not : (changes leaving : Bool) → changes ≡ not leaving → changes ≡ false → leaving ≡ true
told-not changes true tells e = refl
told-not changes false tells e = absurd (cc)

-- so does one whose write is told to change nothing
pub leaves-as-told : LeavesWhatItFits
leaves-as-told compiled e cell fits =
    leaves-cell (cell_shown compiled) cell (told-not compiled.changes (leaves (cell_shown compiled)) compiled.tells e)
    fits
