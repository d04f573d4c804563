-- What a write leaves as it is that puts objects where these stand.
use Rattle.std.proofs.Common.{◌≡◌, ◌∙◌, ℕ, ◌+◌, ◌*◌, ◌/◌, ◌%◌, ◌<◌, ◌≤◌, ◌&&◌, not, Bool, true, false, Option, Some}
use Rattle.std.proofs.Common.{None, List, [], ◌∷◌, length, take, get_or, zero, suc, refl, sym, ap, arith}
use Rattle.std.specs.Prelude.{All, filter, if◌then◌else◌, nat_eq, slice_index_or}
use Rattle.std.proofs.lemmas.Bool.{and_parts, eqb-true, false≢true, not-false}
use Rattle.std.proofs.lemmas.Nat.{div-add-mod', div_below}
use Rattle.std.proofs.lemmas.List.Elements.{All-cons, All-head, All-nil, All-tail}
use Rattle.ps_model.specs.declared.pieces.ObjectId.{ObjectId}
use Rattle.ps_model.specs.declared.pieces.Motion.{Motion}
use Rattle.ps_model.specs.declared.pieces.Slot.{Slot}
use Rattle.ps_model.specs.declared.pieces.Slot.TheVariants.{Bare, Holds}
use Rattle.ps_model.specs.declared.compiled.LayerWrite.{LayerWrite}
use Rattle.ps_model.specs.declared.compiled.ObjectWrite.{ObjectWrite}
use Rattle.ps_model.specs.declared.compiled.ObjectWrite.TheVariants.{Put}
use Rattle.ps_model.specs.board.Grid.{Grid, cell_at, motion_in, slot_at}
use Rattle.ps_model.specs.meaning.Compiled.{CellWrite, object_written, slot_freed, slot_holds, slot_written, write_on}
use Rattle.ps_model.specs.meaning.Fitting.{same_motion}
use Rattle.ps_laws.proofs.common.SameThings.{same_motion-true, same_object-true, same_slot-own, same_slot-true}
use Rattle.ps_model.specs.declared.limits.TheConstants.{SIDE_LIMIT}
use Rattle.ps_board.specs.ColumnSets.{column_at, columns_without, set_columns}
use Rattle.ps_board.proofs.ColumnLaws.{column_at-where, none_in}
use Rattle.ps_board.specs.Runnable.{has_room_for}
use Rattle.ps_rows.specs.RowTests.{IsRowOf}
use Rattle.ps_rows.specs.PutAlready.{IsPutAlready}
use Rattle.ps_rows.specs.SlotsWritten.{AreSlotsLeft, AreSlotsWritten, in_columns, slot_by}

-- of a list's elements up to a place one more is so
pub one_more : {X : Type 0} (P : X → Type 0) (xs : List X) (i : ℕ) (d : X) → i < length xs → All P (take i xs) →
    P (get_or xs i d) → All P (take (i + 1) xs)
one_more P [] i d below all one = absurd (omega arith)
one_more P (x ∷ xs) zero d below all one = All-cons P x [] one (All-nil P)
one_more P (x ∷ xs) (suc i) d below all one =
    let more : suc i + 1 ≡ suc (i + 1) = omega arith in
    rw more (All-cons P x (take (i + 1) xs) (All-head P x (take i xs) all)
    (one_more P xs i d (omega arith) (All-tail P x (take i xs) all) one))

-- the columns of a set none of which lacks in another
pub none_lacks : (columns held rest : List Bool) (x : ℕ) → rest ≡ columns_without columns held → set_columns rest ≡ [] →
    x < SIDE_LIMIT → column_at columns x ≡ true → column_at held x ≡ true
none_lacks columns held rest x e none low on =
    not-false (column_at held x)
    (sym (ap (λ (b : Bool). b && not (column_at held x)) on)
    ∙ sym (column_at-where (λ y. column_at columns y && not (column_at held y)) x low)
    ∙ sym (ap (λ (cs : List Bool). column_at cs x) e)
    ∙ none_in rest x none low)

-- a test that the cells of a row pass in all columns of a set is passed in each cell of these
pub passed_there : (g : Grid) (row : ℕ) (columns set rest : List Bool) (test : List Slot → Bool) → 0 < g.height →
    g.width ≤ SIDE_LIMIT → IsRowOf g row set test → rest ≡ columns_without columns set →
    set_columns rest ≡ [] → (cell : ℕ) → cell < g.width * g.height → in_columns g.height row columns cell ≡ true →
    test (cell_at g cell) ≡ true
passed_there g row columns set rest test some narrow at e none cell inside on =
    let parts = and_parts (nat_eq (cell % g.height) row) (column_at columns (cell / g.height)) on in
    let x : ℕ = cell / g.height in
    let under : x < g.width = div_below cell g.height g.width some inside in
    let here : cell % g.height ≡ row = eqb-true (cell % g.height) row parts.0 in
    let same : x * g.height + row ≡ cell = ap (λ (r : ℕ). x * g.height + r) (sym here) ∙ div-add-mod' cell g.height in
    ap (λ (n : ℕ). test (cell_at g n)) (sym same)
    ∙ sym (at x under)
    ∙ none_lacks columns set rest x e none (omega (arith, under, narrow)) parts.1

-- a slot that holds an object holds it with its motion
held_again : (object : ObjectId) (slot : Slot) → slot_holds object slot ≡ true → Holds object (motion_in slot) ≡ slot
held_again object Bare h = absurd (false≢true h)
held_again object (Holds held motion) h = ap (λ (o : ObjectId). Holds o motion) (same_object-true object held h)

-- a slot written with what it holds, and with its motion, if one is given
held_moving : (object : ObjectId) (given : Option Motion) (slot : Slot) → slot_holds object slot ≡ true →
    ((motion : Motion) → given ≡ Some motion → same_motion motion (motion_in slot) ≡ true) →
    object_written (Put object) given slot ≡ slot
held_moving object None slot holds moves = held_again object slot holds
held_moving object (Some motion) slot holds moves =
    ap (λ (m : Motion). Holds object m) (same_motion-true motion (motion_in slot) (moves motion refl))
    ∙ held_again object slot holds

nothing_gone : (layer : ℕ) (slot : Slot) → slot_freed [] layer slot ≡ slot
nothing_gone layer Bare = refl
nothing_gone layer (Holds object motion) = refl

module _ (g : Grid) (table : List ℕ) (chosen : ℕ → Bool) (cell layer : ℕ) (inside : cell < g.width * g.height)
    (on : chosen cell ≡ true) where
  put_again : (write : LayerWrite) → IsPutAlready g chosen write → (write.layer).0 ≡ layer →
      slot_written (Some write) (slot_at g cell layer) ≡ slot_at g cell layer
  put_again write already own =
      let holds : slot_holds already.object (slot_at g cell layer) ≡ true =
      ap (λ (l : ℕ). slot_holds already.object (slice_index_or (cell_at g cell) l Bare)) (sym own)
      ∙ already.there cell inside on in
      ap (λ (o : ObjectWrite). object_written o write.motion (slot_at g cell layer)) already.puts
      ∙ held_moving already.object write.motion (slot_at g cell layer) holds (λ motion is.
      ap (λ (l : ℕ). same_motion motion (motion_in (slice_index_or (cell_at g cell) l Bare))) (sym own)
      ∙ already.moves.at motion cell is inside on)

  found_again : (write : LayerWrite) (writes : List LayerWrite) (own : Bool) → nat_eq (write.layer).0 layer ≡ own →
      IsPutAlready g chosen write →
      slot_written (write_on layer writes) (slot_at g cell layer) ≡ slot_at g cell layer →
      slot_written (write_on layer (write ∷ writes)) (slot_at g cell layer) ≡ slot_at g cell layer
  found_again write writes true e already rest = rw e (put_again write already (eqb-true (write.layer).0 layer e))
  found_again write writes false e already rest = rw e rest

  kept_again : (write : LayerWrite) (writes : List LayerWrite) (room : Bool) →
      has_room_for (Some table) write ≡ room → IsPutAlready g chosen write →
      slot_written (write_on layer (filter (has_room_for (Some table)) writes)) (slot_at g cell layer)
      ≡ slot_at g cell layer →
      slot_written (write_on layer (filter (has_room_for (Some table)) (write ∷ writes))) (slot_at g cell layer)
      ≡ slot_at g cell layer
  kept_again write writes true e already rest =
      rw e (found_again write (filter (has_room_for (Some table)) writes) (nat_eq (write.layer).0 layer) refl already
      rest)
  kept_again write writes false e already rest = rw e rest

  all_again : (writes : List LayerWrite) → All (IsPutAlready g chosen) writes →
      slot_written (write_on layer (filter (has_room_for (Some table)) writes)) (slot_at g cell layer)
      ≡ slot_at g cell layer
  all_again [] all = refl
  all_again (write ∷ writes) all =
      kept_again write writes (has_room_for (Some table) write) refl
      (All-head (IsPutAlready g chosen) write writes all)
      (all_again writes (All-tail (IsPutAlready g chosen) write writes all))

  left_again : (write : CellWrite) → write.gone ≡ [] → All (IsPutAlready g chosen) write.layers →
      slot_by table write layer (slot_at g cell layer) ≡ slot_at g cell layer
  left_again write none all =
      ap (λ (s : Slot). slot_written (write_on layer (filter (has_room_for (Some table)) write.layers)) s)
      (rw none (nothing_gone layer (slot_at g cell layer)))
      ∙ all_again write.layers all

-- where all that a write puts stands, and nothing goes, the slots stay
pub left_as_put : (g : Grid) (table : List ℕ) (chosen : ℕ → Bool) (write : CellWrite) → write.gone ≡ [] →
    All (IsPutAlready g chosen) write.layers → AreSlotsLeft g chosen (λ l. true) (slot_by table write)
left_as_put g table chosen write none all = λ cell layer inside low on each.
    rw (left_again g table chosen cell layer inside on write none all) (same_slot-own (slot_at g cell layer))

-- and so they are written as they are
pub slots_stay : (g : Grid) (chosen : ℕ → Bool) (after : ℕ → Slot → Slot) → AreSlotsLeft g chosen (λ l. true) after →
    AreSlotsWritten g g chosen (λ l. true) after
slots_stay g chosen after left cell layer inside low = by (chosen cell) refl where
  by : (b : Bool) → chosen cell ≡ b →
      slot_at g cell layer ≡ (if b && true then after layer (slot_at g cell layer) else slot_at g cell layer)
  by true on = same_slot-true (slot_at g cell layer) (after layer (slot_at g cell layer))
      (left cell layer inside low on refl)
  by false off = refl
