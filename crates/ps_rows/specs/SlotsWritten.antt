-- Slots of a board of rows that are written.
use Rattle.std.specs.Prelude.{◌≡◌, ◌<◌, ◌≤◌, ℕ, ◌*◌, ◌/◌, ◌%◌, nat_eq, ◌&&◌, if◌then◌else◌, Bool, true, false, Option}
use Rattle.std.specs.Prelude.{Some, None, List, slice_get, slice_index_or}
use Rattle.std.specs.List.{list_any}
use Rattle.ps_model.specs.declared.compiled.LayeredObject.{LayeredObject}
use Rattle.ps_model.specs.declared.pieces.Slot.{Slot}
use Rattle.ps_model.specs.declared.pieces.Slot.TheVariants.{Bare, Holds}
use Rattle.ps_model.specs.board.Attempts.{same_slot}
use Rattle.ps_model.specs.board.Grid.{Grid, slot_at}
use Rattle.ps_model.specs.meaning.Compiled.{is_gone}
use Rattle.ps_model.specs.board.Grid.{motion_in}
use Rattle.ps_model.specs.board.Movement.{is_number}
use Rattle.ps_model.specs.declared.pieces.Motion.{Motion}
use Rattle.ps_model.specs.meaning.Compiled.{CellWrite, is_held_in}
use Rattle.ps_model.specs.meaning.Fitting.{same_motion}
use Rattle.ps_match.specs.InRoom.{slot_after, write_in_room}
use Rattle.ps_model.specs.declared.limits.TheConstants.{SIDE_LIMIT}
use Rattle.ps_board.specs.ColumnSets.{column_at}
use Rattle.ps_rows.specs.RowChanges.{bit_after}
use Rattle.ps_rows.specs.Showing.{motion_plane, motions_from, slot_shown}
use Rattle.ps_rows.specs.declared.changes.RowChange.{RowChange}

-- the number of a slot's object
abbrev pub slot_number : Slot → Option ℕ
slot_number Bare = None
slot_number (Holds object motion) = Some object.0

-- an object stands in the slot
abbrev pub stands : Slot → Bool
stands Bare = false
stands (Holds object motion) = true

-- the object of a slot goes
abbrev pub loses : List LayeredObject → ℕ → Slot → Bool
loses gone layer Bare = false
loses gone layer (Holds object motion) = is_gone gone layer object

-- an object goes from that layer of a cell
abbrev pub goes_from : ℕ → List Slot → LayeredObject → Bool
goes_from layer cell each = nat_eq (each.layer).0 layer && is_held_in cell each

abbrev pub one_goes : List LayeredObject → ℕ → List Slot → Bool
one_goes gone layer cell = list_any (goes_from layer cell) gone

-- an object stands on that layer of a cell
abbrev pub stands_on : ℕ → List Slot → Bool
stands_on layer cell = stands (slice_index_or cell layer Bare)

-- the cell lies on that row, in a column of a set
abbrev pub in_columns : ℕ → ℕ → List Bool → ℕ → Bool
in_columns height row columns cell = nat_eq (cell % height) row && column_at columns (cell / height)

-- what a write makes of a slot on a board with such a table
abbrev pub slot_by : List ℕ → CellWrite → ℕ → Slot → Slot
slot_by table write = slot_after (write_in_room (Some table) write)

-- on layers that are on, the slots of chosen cells become what is made of them, and each other slot stays
abbrev pub AreSlotsWritten : Grid → Grid → (ℕ → Bool) → (ℕ → Bool) → (ℕ → Slot → Slot) → Type 0
AreSlotsWritten before after chosen on becomes = (cell layer : ℕ) → cell < before.width * before.height →
    layer < before.layers →
    slot_at after cell layer ≡ (if chosen cell && on layer then becomes layer (slot_at before cell layer) else slot_at
    before cell layer)

-- there they become what they were
abbrev pub AreSlotsLeft : Grid → (ℕ → Bool) → (ℕ → Bool) → (ℕ → Slot → Slot) → Type 0
AreSlotsLeft before chosen on becomes = (cell layer : ℕ) → cell < before.width * before.height →
    layer < before.layers → chosen cell ≡ true → on layer ≡ true →
    same_slot (slot_at before cell layer) (becomes layer (slot_at before cell layer)) ≡ true

-- what a slot becomes, if its column is chosen
abbrev pub slot_if : Bool → (Slot → Slot) → Slot → Slot
slot_if chosen becomes slot = if chosen then becomes slot else slot

-- two changes, of a layer's objects and of its motions, make of each slot of a row what it becomes, in columns of a set
pub record IsLayerChange (table : List ℕ) (width height : ℕ) (words : List (List Bool)) (layer row : ℕ)
    (columns : List Bool) (becomes : Slot → Slot)
    (objects motions : RowChange (List Bool)) : Type 0 where
  pub object : (cell o : ℕ) → cell < width * height → cell % height ≡ row → let slot =
      slot_shown table height words cell layer in
      bit_after objects o (cell / height) (is_number (slot_number slot) o) ≡ is_number
      (slot_number (slot_if (column_at columns (cell / height)) becomes slot)) o
  pub motion : (cell : ℕ) (m : Motion) (q : ℕ) → cell < width * height → cell % height ≡ row →
      motion_plane (motions_from table layer) m ≡ Some q →
      let slot = slot_shown table height words cell layer in
      bit_after motions q (cell / height) (same_motion m (motion_in slot)) ≡ same_motion m
      (motion_in (slot_if (column_at columns (cell / height)) becomes slot))
  pub room : (cell o : ℕ) → cell < width * height → cell % height ≡ row →
      slot_number (slot_if (column_at columns (cell / height)) becomes (slot_shown table height words cell layer)) ≡
      Some o → slice_get table o ≡ Some layer
  pub beyond_objects : (x p : ℕ) (before : Bool) → width ≤ x → x < SIDE_LIMIT → bit_after objects p x before ≡ before
  pub beyond_motions : (x p : ℕ) (before : Bool) → width ≤ x → x < SIDE_LIMIT → bit_after motions p x before ≡ before
