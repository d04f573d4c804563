-- What the values of a cell's layers tell is so of whole cells: one with a layer of which no value fits fits nothing,
-- and one that leaves all fitting values as they are leaves what it fits.
use Rattle.std.proofs.Common.{◌≡◌, ℕ, zero, suc, ◌+◌, ◌<◌, Bool, true, false, ◌&&◌, ◌||◌, not, List, [], ◌∷◌, length, get_or}
use Rattle.std.proofs.Common.{refl, sym, subst, ap, ap₂, ◌∙◌, arith}
use Rattle.std.specs.Prelude.{nat_eq, slice_index_or}
use Rattle.std.specs.List.{list_all, list_any}
use Rattle.std.proofs.lemmas.Bool.{and_parts, and_from, or_right, or_left, eqb-true, eq-eqb, both_ways, not-true}
use Rattle.std.proofs.lemmas.Bool.{false_from_ne_true}
use Rattle.ps_model.specs.declared.pieces.ObjectId.{ObjectId}
use Rattle.ps_model.specs.declared.pieces.Motion.{Motion}
use Rattle.ps_model.specs.declared.pieces.Slot.{Slot}
use Rattle.ps_model.specs.declared.pieces.Slot.TheVariants.{Bare, Holds}
use Rattle.ps_model.specs.declared.compiled.LayeredObject.{LayeredObject}
use Rattle.ps_model.specs.declared.compiled.MotionTest.{MotionTest}
use Rattle.ps_model.specs.names.Names.{Names, layer_of, object_count}
use Rattle.ps_model.specs.board.Attempts.{same_slot}
use Rattle.ps_model.specs.board.GameGrids.{IsSlotOf, IsCellFrom, IsCellOf}
use Rattle.ps_model.specs.board.Grid.{motion_in}
use Rattle.ps_model.specs.meaning.Fitting.{same_motion}
use Rattle.ps_model.specs.meaning.Compiled.{CellMask, CellWrite, CompiledCell, slot_holds, is_held_in, moves_as_asked}
use Rattle.ps_model.specs.meaning.Compiled.{mask_fits, written_from, cell_written}
use Rattle.ps_laws.proofs.common.SameThings.{same_slot-true}
use Rattle.ps_program.proofs.FittingMasks.{Sought, found-in, all-true, at-place, Fit, fit}
use Rattle.ps_compile.specs.LayerValues.{lies_on, has_needed, has_barred, has_one_of, has_motion, layer_fits}
use Rattle.ps_compile.specs.LayerValues.{value_written, passes, some_below, own_passes, some_value, object_passes}
use Rattle.ps_compile.specs.IdleRules.{is_void_cell, leaves_what_fits}
use Rattle.ps_compile.proofs.LayerValues.{any-in, any-fewer, below-in, below-found, moving-in, Below}

-- what a cell of the board that fits has on a layer -------------------------------------------------------------------

-- one of two, where the first is denied or the second holds
either : (a b : Bool) → (a ≡ true → b ≡ true) → (not a || b) ≡ true
either true b h = h refl
either false b h = refl

all-so : {X : Type 0} (p q : X → Bool) (xs : List X) → ((x : X) → p x ≡ true → q x ≡ true) → list_all p xs ≡ true →
    list_all q xs ≡ true
all-so p q [] so all = refl
all-so p q (x ∷ xs) so all =
    let parts = and_parts (p x) (list_all p xs) all in
    and_from (q x) (list_all q xs) (so x parts.0) (all-so p q xs so parts.1)

-- an object of the layer is held in the cell as the layer holds it
held-there : (cell : List Slot) (layer : ℕ) (each : LayeredObject) → lies_on layer each ≡ true →
    is_held_in cell each ≡ slot_holds each.object (slice_index_or cell layer Bare)
held-there cell layer each e =
    ap (λ (n : ℕ). slot_holds each.object (slice_index_or cell n Bare)) (eqb-true (each.layer).0 layer e)

module _ (mask : CellMask) (cell : List Slot) (layer : ℕ) where
  abbrev slot : Slot
  slot = slice_index_or cell layer Bare

  has-needed : (each : LayeredObject) → is_held_in cell each ≡ true → has_needed layer slot each ≡ true
  has-needed each held =
      either (lies_on layer each) (slot_holds each.object slot) (λ e. sym (held-there cell layer each e) ∙ held)

  is-held : (each : LayeredObject) → has_barred layer slot each ≡ true → is_held_in cell each ≡ true
  is-held each h =
      let parts = and_parts (lies_on layer each) (slot_holds each.object slot) h in
      held-there cell layer each parts.0 ∙ parts.1

  has-one_of : (objects : List LayeredObject) → list_any (is_held_in cell) objects ≡ true →
      has_one_of layer slot objects ≡ true
  has-one_of objects any = either (list_all (lies_on layer) objects)
      (list_any (λ each. slot_holds each.object slot) objects)
      (λ own. by-found own (found-in (is_held_in cell) objects any)) where
        by-found : list_all (lies_on layer) objects ≡ true → Sought (is_held_in cell) objects →
            list_any (λ each. slot_holds each.object slot) objects ≡ true
        by-found own (each, within, e) =
            any-in (λ each. slot_holds each.object slot) objects each within
            (sym (held-there cell layer each
            (at-place (λ object. lies_on layer object ≡ true) objects each (all-true (lies_on layer) objects own)
            within)) ∙ e)

  has-motion : (test : MotionTest) → moves_as_asked cell test ≡ true → has_motion layer slot test ≡ true
  has-motion test moves = either (nat_eq (test.layer).0 layer) (same_motion test.motion (motion_in slot))
      (λ e. sym (ap (λ (n : ℕ). same_motion test.motion (motion_in (slice_index_or cell n Bare)))
      (eqb-true (test.layer).0 layer e)) ∙ moves)

  fits-layer : mask_fits mask cell ≡ true → layer_fits mask layer slot ≡ true
  fits-layer e =
      let fits : Fit mask cell = fit mask cell e in
      and_from (list_all (has_motion layer slot) mask.motions) _
      (all-so (moves_as_asked cell) (has_motion layer slot) mask.motions has-motion fits.motions)
      (and_from (list_all (has_needed layer slot) mask.needed) _
      (all-so (is_held_in cell) (has_needed layer slot) mask.needed has-needed fits.needed)
      (and_from (not (list_any (has_barred layer slot) mask.barred)) _
      (ap not (any-fewer (has_barred layer slot) (is_held_in cell) mask.barred is-held fits.barred))
      (all-so (λ objects. list_any (is_held_in cell) objects) (has_one_of layer slot) mask.one_of has-one_of
      fits.one_of)))

-- values of layers ----------------------------------------------------------------------------------------------------

-- what stands on a layer of a cell of the game is a value of it
slot-of : (names : Names) (layer from : ℕ) (slots : List Slot) (i : ℕ) → layer ≡ from + i → i < length slots →
    IsCellFrom names from slots → IsSlotOf names layer (slice_index_or slots i Bare)
slot-of names layer from [] i e within h = absurd (omega (arith, within))
slot-of names layer from (slot ∷ slots) zero e within h =
    let here : from ≡ layer = omega (arith, e) in subst (λ (n : ℕ). IsSlotOf names n slot) here h.0
slot-of names layer from (slot ∷ slots) (suc i) e within h =
    slot-of names layer (suc from) slots i (omega (arith, e)) (omega (arith, within)) h.1

-- so it is among those that are tried
value-in : (names : Names) (cell : CompiledCell) (changed : Bool) (layer : ℕ) (slot : Slot) →
    IsSlotOf names layer slot → passes cell changed layer slot ≡ true → some_value names cell changed layer ≡ true
value-in names cell changed layer Bare of_game e =
    or_left (passes cell changed layer Bare) (some_below (own_passes names cell changed layer) (object_count names)) e
value-in names cell changed layer (Holds object motion) of_game e =
    or_right (passes cell changed layer Bare) (some_below (own_passes names cell changed layer) (object_count names))
    (below-in (own_passes names cell changed layer) (object_count names) object.0 of_game.0
    (and_from (nat_eq (layer_of names object) layer) (object_passes cell changed layer object)
    (eq-eqb (layer_of names object) layer of_game.1)
    (moving-in (λ moving. passes cell changed layer (Holds object moving)) motion e)))

-- cells ---------------------------------------------------------------------------------------------------------------

-- the value on a layer of a cell that fits passes
fitting-passes : (cell : CompiledCell) (slots : List Slot) (layer : ℕ) → mask_fits cell.mask slots ≡ true →
    passes cell false layer (slice_index_or slots layer Bare) ≡ true
fitting-passes cell slots layer fits =
    and_from (layer_fits cell.mask layer (slice_index_or slots layer Bare)) true
    (fits-layer cell.mask slots layer fits) refl

-- a cell with a layer of which no value fits fits none of the game
pub void-fits : (names : Names) (cell : CompiledCell) (slots : List Slot) → is_void_cell names cell ≡ true →
    IsCellOf names slots → mask_fits cell.mask slots ≡ false
void-fits names cell slots void of_game =
    false_from_ne_true (mask_fits cell.mask slots) (λ fits.
    by-layer fits (below-found (λ layer. not (some_value names cell false layer)) names.layer_count void)) where
      by-layer : mask_fits cell.mask slots ≡ true →
          Below (λ layer. not (some_value names cell false layer)) names.layer_count → ⊥
      by-layer fits (layer, within, none) =
          both_ways (some_value names cell false layer) (not-true (some_value names cell false layer) none)
          (value-in names cell false layer (slice_index_or slots layer Bare)
          (slot-of names layer 0 slots layer (omega arith) (rw of_game.0 within) of_game.1)
          (fitting-passes cell slots layer fits))

-- the slots of a cell written, each of which stays
written-same : (write : CellWrite) (layer : ℕ) (slots : List Slot) →
    ((i n : ℕ) → n ≡ layer + i → i < length slots → value_written write n (get_or slots i Bare) ≡ get_or slots i Bare) →
    written_from write layer slots ≡ slots
written-same write layer [] h = refl
written-same write layer (slot ∷ slots) h =
    ap₂ (λ (first : Slot) (rest : List Slot). first ∷ rest) (h 0 layer (omega arith) (omega arith))
    (written-same write (suc layer) slots (λ i n e within. h (suc i) n (omega (arith, e)) (omega (arith, within))))

-- a value that fits stays, where none is changed
stays : (cell : CompiledCell) (layer : ℕ) (slot : Slot) → layer_fits cell.mask layer slot ≡ true →
    passes cell true layer slot ≡ false → value_written cell.write layer slot ≡ slot
stays cell layer slot fits fails =
    same_slot-true (value_written cell.write layer slot) slot
    (by-same (same_slot (value_written cell.write layer slot) slot) refl) where
      by-same : (same : Bool) → same_slot (value_written cell.write layer slot) slot ≡ same →
          same_slot (value_written cell.write layer slot) slot ≡ true
      by-same true e = e
      by-same false e = absurd (both_ways (passes cell true layer slot) fails
          (and_from (layer_fits cell.mask layer slot) _ fits (ap not e)))

-- a cell that leaves what fits leaves each cell of the game that it fits
pub leaving-same : (names : Names) (cell : CompiledCell) (slots : List Slot) → leaves_what_fits names cell ≡ true →
    IsCellOf names slots → mask_fits cell.mask slots ≡ true → cell_written cell.write slots ≡ slots
leaving-same names cell slots leaves of_game fits =
    written-same cell.write 0 slots (λ i n e within.
    let here : n ≡ i = omega (arith, e) in
    subst (λ (m : ℕ). value_written cell.write m (slice_index_or slots i Bare) ≡ slice_index_or slots i Bare) (sym here)
    (stays cell i (slice_index_or slots i Bare) (fits-layer cell.mask slots i fits)
    (fails i within))) where
      none : some_below (some_value names cell true) names.layer_count ≡ false
      none = not-true (some_below (some_value names cell true) names.layer_count) leaves

      fails : (i : ℕ) → i < length slots → passes cell true i (slice_index_or slots i Bare) ≡ false
      fails i within = false_from_ne_true (passes cell true i (slice_index_or slots i Bare)) (λ e.
          both_ways (some_below (some_value names cell true) names.layer_count) none
          (below-in (some_value names cell true) names.layer_count i (rw (← of_game.0) within)
          (value-in names cell true i (slice_index_or slots i Bare)
          (slot-of names i 0 slots i (omega arith) within of_game.1) e)))
