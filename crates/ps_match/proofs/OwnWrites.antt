-- The writes of a layer whose objects have room there.
use Rattle.std.proofs.Common.{◌≡◌, ℕ, Bool, true, ◌&&◌, inl, inr, Option, Some, None, List, [], ◌∷◌, refl}
use Rattle.std.proofs.Common.{sym, ap, subst, ◌∙◌, filter}
use Rattle.std.specs.Prelude.{nat_eq, find}
use Rattle.std.proofs.lemmas.Bool.{cases_Bool, and_parts, eqb-true}
use Rattle.std.proofs.lemmas.Option.{none-some, same_Some}
use Rattle.ps_model.specs.declared.pieces.Motion.{Motion}
use Rattle.ps_model.specs.declared.pieces.Slot.{Slot}
use Rattle.ps_model.specs.declared.pieces.Slot.TheVariants.{Bare, Holds}
use Rattle.ps_model.specs.declared.compiled.LayeredObject.{LayeredObject}
use Rattle.ps_model.specs.declared.compiled.LayerWrite.{LayerWrite}
use Rattle.ps_model.specs.declared.compiled.ObjectWrite.{ObjectWrite}
use Rattle.ps_model.specs.declared.compiled.ObjectWrite.TheVariants.{Put, Leave, Clear}
use Rattle.ps_model.specs.meaning.Compiled.{CellWrite, is_gone, object_written, slot_freed, slot_written}
use Rattle.ps_board.specs.Rooms.{HasRoom}
use Rattle.ps_board.specs.Runnable.{has_room_for, object_has_room}
use Rattle.ps_match.specs.InRoom.{SlotHasRoom, is_own_write, own_write, slot_after, write_in_room}

-- what is looked for after a filter
find_filter : {X : Type 0} (f p : X → Bool) (xs : List X) → find f (filter p xs) ≡ find (λ x. p x && f x) xs
find_filter f p [] = refl
find_filter f p (x ∷ xs) = elim (cases_Bool (p x)) [
  | inl pass ↦ rw (pass, find_filter f p xs) refl
  | inr fail ↦ rw (fail, find_filter f p xs) refl
]

find_alike : {X : Type 0} (f h : X → Bool) → ((x : X) → f x ≡ h x) → (xs : List X) → find f xs ≡ find h xs
find_alike f h same [] = refl
find_alike f h same (x ∷ xs) = rw (same x, find_alike f h same xs) refl

find_passes : {X : Type 0} (f : X → Bool) (xs : List X) (y : X) → find f xs ≡ Some y → f y ≡ true
find_passes f [] y h = absurd (none-some y h)
find_passes f (x ∷ xs) y h = elim (cases_Bool (f x)) [
  | inl pass ↦ let here = rw pass at h in ap f (sym (same_Some x y here)) ∙ pass
  | inr fail ↦ let later = rw fail at h in find_passes f xs y later
]

-- where any object has room
free_object : (layer : ℕ) (object : ObjectWrite) → object_has_room None layer object ≡ true
free_object layer (Put object) = refl
free_object layer Leave = refl
free_object layer Clear = refl

free_write : (layer : ℕ) (write : LayerWrite) → nat_eq (write.layer).0 layer ≡ is_own_write None layer write
free_write layer write = rw (free_object (write.layer).0 write.object) refl

-- a slot written by what has room
pub after_value : (table : Option (List ℕ)) (layer : ℕ) (write : CellWrite) (slot : Slot) →
    slot_after (write_in_room table write) layer slot ≡ slot_written (own_write table layer write.layers)
    (slot_freed write.gone layer slot)
after_value None layer write slot =
    ap (λ (own : Option LayerWrite). slot_written own (slot_freed write.gone layer slot))
    (find_alike (λ each. nat_eq (each.layer).0 layer) (is_own_write None layer) (free_write layer) write.layers)
after_value (Some layers) layer write slot =
    ap (λ (own : Option LayerWrite). slot_written own (slot_freed write.gone layer slot))
    (find_filter (λ each. nat_eq (each.layer).0 layer) (has_room_for (Some layers)) write.layers)

-- what stands there then has room
freed_room : (table : Option (List ℕ)) (layer : ℕ) (gone : List LayeredObject) (slot : Slot) →
    SlotHasRoom table layer slot → SlotHasRoom table layer (slot_freed gone layer slot)
freed_room table layer gone Bare room = tt
freed_room table layer gone (Holds object motion) room = elim (cases_Bool (is_gone gone layer object)) [
  | inl goes ↦ rw goes tt
  | inr stays ↦ rw stays room
]

object_room : (table : Option (List ℕ)) (own layer : ℕ) (object : ObjectWrite) (motion : Option Motion) (slot : Slot) →
    object_has_room table own object ≡ true → own ≡ layer →
    SlotHasRoom table layer slot → SlotHasRoom table layer (object_written object motion slot)
object_room table own layer (Put object) motion slot has e room = let P : ℕ → Type 0 = λ n. HasRoom table object n in
    subst P e has
object_room table own layer Leave motion Bare has e room = tt
object_room table own layer Leave motion (Holds object moves) has e room = room
object_room table own layer Clear motion slot has e room = tt

written_room : (table : Option (List ℕ)) (layer : ℕ) (own : Option LayerWrite) (slot : Slot) →
    ((write : LayerWrite) → own ≡ Some write → is_own_write table layer write ≡ true) →
    SlotHasRoom table layer slot → SlotHasRoom table layer (slot_written own slot)
written_room table layer None slot says room = room
written_room table layer (Some write) slot says room =
    let parts = and_parts (has_room_for table write) (nat_eq (write.layer).0 layer) (says write refl) in
    object_room table (write.layer).0 layer write.object write.motion slot parts.0
    (eqb-true (write.layer).0 layer parts.1) room

pub room_after : (table : Option (List ℕ)) (layer : ℕ) (write : CellWrite) (slot : Slot) →
    SlotHasRoom table layer slot →
    SlotHasRoom table layer (slot_after (write_in_room table write) layer slot)
room_after table layer write slot room =
    let P : Slot → Type 0 = λ s. SlotHasRoom table layer s in
    subst P (sym (after_value table layer write slot))
    (written_room table layer (own_write table layer write.layers) (slot_freed write.gone layer slot)
    (find_passes (is_own_write table layer) write.layers) (freed_room table layer write.gone slot room))
