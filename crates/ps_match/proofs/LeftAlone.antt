-- A layer that a write has nothing for stays as it is.
use Rattle.std.proofs.Common.{◌≡◌, ◌∙◌, ℕ, Bool, false, ◌||◌, ◌&&◌, not, Option, None, List, [], ◌∷◌, refl, ap}
use Rattle.std.proofs.Common.{ap₂}
use Rattle.std.specs.Prelude.{nat_eq, slice_set}
use Rattle.std.specs.List.{list_any}
use Rattle.std.proofs.lemmas.Bool.{or_parts}
use Rattle.std.proofs.lemmas.List.{set-get_or}
use Rattle.std.proofs.Math.Bool.{and-false}
use Rattle.ps_model.specs.declared.pieces.ObjectId.{ObjectId}
use Rattle.ps_model.specs.declared.pieces.Slot.{Slot}
use Rattle.ps_model.specs.declared.pieces.Slot.TheVariants.{Bare, Holds}
use Rattle.ps_model.specs.declared.compiled.LayeredObject.{LayeredObject}
use Rattle.ps_model.specs.declared.compiled.LayerWrite.{LayerWrite}
use Rattle.ps_model.specs.board.Grid.{Grid, cell_at, slot_at, with_slot}
use Rattle.ps_model.specs.board.Attempts.{same_slot}
use Rattle.ps_model.specs.meaning.Compiled.{CellWrite, is_gone, slot_freed, slot_written}
use Rattle.ps_laws.proofs.common.SameThings.{same_slot-own}
use Rattle.ps_board.specs.Runnable.{has_room_for}
use Rattle.ps_match.specs.InRoom.{is_own_write, own_write, slot_after, write_in_room}
use Rattle.ps_match.specs.Touches.{touches}
use Rattle.ps_match.proofs.OwnWrites.{after_value}
use Rattle.ps_match.proofs.Cells.{or_none}

none_gone : (gone : List LayeredObject) (layer : ℕ) (object : ObjectId) →
    list_any (λ each. nat_eq (each.layer).0 layer) gone ≡ false → is_gone gone layer object ≡ false
none_gone [] layer object none = refl
none_gone (each ∷ gone) layer object none =
    let parts = or_parts (nat_eq (each.layer).0 layer) (list_any (λ other. nat_eq (other.layer).0 layer) gone) none in
    rw parts.0 (none_gone gone layer object parts.1)

stays : (gone : List LayeredObject) (layer : ℕ) (slot : Slot) →
    list_any (λ each. nat_eq (each.layer).0 layer) gone ≡ false → slot_freed gone layer slot ≡ slot
stays gone layer Bare none = refl
stays gone layer (Holds object motion) none = rw (none_gone gone layer object none) refl

no_write : (table : Option (List ℕ)) (layer : ℕ) (writes : List LayerWrite) →
    list_any (λ each. nat_eq (each.layer).0 layer) writes ≡ false → own_write table layer writes ≡ None
no_write table layer [] none = refl
no_write table layer (each ∷ writes) none =
    let parts = or_parts (nat_eq (each.layer).0 layer) (list_any (λ other. nat_eq (other.layer).0 layer) writes) none in
    let other : is_own_write table layer each ≡ false = ap (λ (b : Bool). has_room_for table each && b) parts.0
    ∙ and-false (has_room_for table each) in
    rw other (no_write table layer writes parts.1)

pub untouched : (table : Option (List ℕ)) (layer : ℕ) (write : CellWrite) (slot : Slot) → touches write layer ≡ false →
    slot_after (write_in_room table write) layer slot ≡ slot
untouched table layer write slot none =
    let parts = or_parts (list_any (λ each. nat_eq (each.layer).0 layer) write.gone)
    (list_any (λ each. nat_eq (each.layer).0 layer) write.layers) none in
    after_value table layer write slot
    ∙ ap₂ slot_written (no_write table layer write.layers parts.1) (stays write.gone layer slot parts.0)

-- a slot put where it stands, and compared with itself
pub same_grid : (g : Grid) (cell layer : ℕ) → with_slot g cell layer (slot_at g cell layer) ≡ g
same_grid g cell layer =
    ap (λ (slots : List Slot). let h : Grid = record g { cells = slice_set g.cells cell slots } in
    h) (set-get_or (cell_at g cell) layer Bare)
    ∙ ap (λ (cells : List (List Slot)). let h : Grid = record g { cells = cells } in h) (set-get_or g.cells cell [])

pub no_change : (changed : Bool) (slot : Slot) → (changed || not (same_slot slot slot)) ≡ changed
no_change changed slot = rw (same_slot-own slot) (or_none changed)
