-- A column of a layer's planes behind a change is that of the slot written.
use Rattle.std.proofs.Common.{◌≡◌, ◌∙◌, ℕ, inl, inr, Bool, true, false, not, ◌&&◌, ◌||◌, Option, Some, None, List, refl}
use Rattle.std.proofs.Common.{sym, ap, ap₂}
use Rattle.std.specs.Prelude.{unwrap_or, if◌then◌else◌}
use Rattle.std.proofs.lemmas.Bool.{cases_Bool}
use Rattle.std.proofs.Math.Bool.{and-true, and-false, or-false}
use Rattle.ps_model.specs.declared.compiled.LayerWrite.{LayerWrite}
use Rattle.ps_model.specs.declared.compiled.LayeredObject.{LayeredObject}
use Rattle.ps_model.specs.declared.compiled.ObjectWrite.{ObjectWrite}
use Rattle.ps_model.specs.declared.compiled.ObjectWrite.TheVariants.{Put, Leave, Clear}
use Rattle.ps_model.specs.declared.pieces.Motion.{Motion}
use Rattle.ps_model.specs.declared.pieces.Slot.{Slot}
use Rattle.ps_model.specs.declared.pieces.Slot.TheVariants.{Bare, Holds}
use Rattle.ps_model.specs.board.Grid.{motion_in, object_in, slot_of}
use Rattle.ps_model.specs.board.Movement.{is_number}
use Rattle.ps_model.specs.meaning.Compiled.{is_gone, object_written, slot_freed, slot_written}
use Rattle.ps_model.specs.meaning.Fitting.{same_motion}
use Rattle.ps_rows.specs.RowChanges.{bit_after, motions_by, motions_change, moves_by, moves_kept, objects_by}
use Rattle.ps_rows.specs.RowChanges.{objects_change}
use Rattle.ps_rows.specs.Showing.{motion_plane}
use Rattle.ps_rows.specs.SlotsWritten.{loses, slot_number, stands}
use Rattle.ps_rows.proofs.Moves.{chosen_motion, not_still}
use Rattle.ps_board.specs.ColumnSets.{column_at}

-- a slot that becomes another where it is chosen
chosen_slot : (P : Slot → Bool) (s t : Slot) (b n : Bool) → P t ≡ n →
    ((P s && not b) || (n && b)) ≡ P (if b then t else s)
chosen_slot P s t true n e = ap₂ (λ (x y : Bool). x || y) (and-false (P s)) (and-true n) ∙ sym e
chosen_slot P s t false n e = ap₂ (λ (x y : Bool). x || y) (and-true (P s)) (and-false n) ∙ or-false (P s)

-- and one that becomes such another that passes nothing
cleared_slot : (P : Slot → Bool) (s t : Slot) (b : Bool) → P t ≡ false →
    ((P s && not b) || false) ≡ P (if b then t else s)
cleared_slot P s t true e = or-false (P s && false) ∙ and-false (P s) ∙ sym e
cleared_slot P s t false e = or-false (P s && true) ∙ and-true (P s)

alike_slot : (P : Slot → Bool) (s t u : Slot) (b : Bool) → P t ≡ P u → P (if b then t else s) ≡ P (if b then u else s)
alike_slot P s t u true e = e
alike_slot P s t u false e = refl

-- freed slots ---------------------------------------------------------------------------------------------------------

-- what passes nothing where it is bare
freed_slot : (P : Slot → Bool) (gone : List LayeredObject) (layer : ℕ) (s : Slot) (b f : Bool) → P Bare ≡ false →
    f ≡ (b && loses gone layer s) →
    ((P s && not f) || false) ≡ P (if b then slot_freed gone layer s else s)
freed_slot P gone layer s false f none e = rw e (or-false (P s && true) ∙ and-true (P s))
freed_slot P gone layer Bare true f none e = rw e (or-false (P Bare && true) ∙ and-true (P Bare))
freed_slot P gone layer (Holds object motion) true f none e = elim (cases_Bool (is_gone gone layer object)) [
  | inl goes ↦ rw (e, goes) (or-false (P (Holds object motion) && false) ∙ and-false (P (Holds object motion))
      ∙ sym none)
  | inr stays ↦ rw (e, stays) (or-false (P (Holds object motion) && true) ∙ and-true (P (Holds object motion)))
]

number_again : (s : Slot) (motion : Motion) → slot_number (slot_of (object_in s) motion) ≡ slot_number s
number_again Bare motion = refl
number_again (Holds object m) motion = refl

motion_again : (s : Slot) → motion_in (slot_of (object_in s) (motion_in s)) ≡ motion_in s
motion_again Bare = refl
motion_again (Holds object motion) = refl

-- a column ------------------------------------------------------------------------------------------------------------

module _ (gone : List LayeredObject) (layer : ℕ) (bits freed : List Bool) (x : ℕ) (s : Slot)
    (goes : column_at freed x ≡ (column_at bits x && loses gone layer s)) where
  abbrev b : Bool
  b = column_at bits x

  abbrev left : Slot
  left = slot_freed gone layer s

  abbrev has_number : ℕ → Slot → Bool
  has_number o t = is_number (slot_number t) o

  abbrev has_motion : Motion → Slot → Bool
  has_motion m t = same_motion m (motion_in t)

  object_by : (object : ObjectWrite) (motion : Option Motion) (o : ℕ) →
      bit_after (objects_by object bits freed) o x (has_number o s) ≡ has_number o
      (if b then object_written object motion left else s)
  object_by (Put object) motion o =
      chosen_slot (has_number o) s (object_written (Put object) motion left) b (is_number (Some object.0) o) refl
  object_by Leave motion o =
      freed_slot (has_number o) gone layer s b (column_at freed x) refl goes
      ∙ alike_slot (has_number o) s left (object_written Leave motion left) b
      (ap (λ (n : Option ℕ). is_number n o) (sym (number_again left (unwrap_or motion (motion_in left)))))
  object_by Clear motion o = cleared_slot (has_number o) s Bare b refl

  pub object_bit : (own : Option LayerWrite) (o : ℕ) →
      bit_after (objects_change own bits freed) o x (has_number o s) ≡ has_number o
      (if b then slot_written own left else s)
  object_bit None o = freed_slot (has_number o) gone layer s b (column_at freed x) refl goes
  object_bit (Some write) o = object_by write.object write.motion o

  motion_put : (first : ℕ) (m motion : Motion) (q : ℕ) (kept : List Bool) (t : Slot) → motion_plane first m ≡ Some q →
      motion_in t ≡ motion → column_at kept x ≡ b →
      ((has_motion m s && not b) || (is_number (motion_plane first motion) q && column_at kept x)) ≡ has_motion m
      (if b then t else s)
  motion_put first m motion q kept t plane e f =
      ap (λ (k : Bool). (has_motion m s && not b) || (is_number (motion_plane first motion) q && k)) f
      ∙ chosen_slot (has_motion m) s t b (is_number (motion_plane first motion) q) (ap (same_motion m) e
      ∙ sym (chosen_motion first motion m q plane))

  -- a motion given to what is left
  motion_left : (first : ℕ) (m motion : Motion) (q : ℕ) (kept : List Bool) (t : Slot) → motion_plane first m ≡ Some q →
      column_at kept x ≡ (b && stands t) →
      ((has_motion m s && not b) || (is_number (motion_plane first motion) q && column_at kept x)) ≡ has_motion m
      (if b then slot_of (object_in t) motion else s)
  motion_left first m motion q kept (Holds object old) plane f =
      motion_put first m motion q kept (Holds object motion) plane refl (f ∙ and-true b)
  motion_left first m motion q kept Bare plane f =
      ap (λ (k : Bool). (has_motion m s && not b) || (is_number (motion_plane first motion) q && k)) (f ∙ and-false b)
      ∙ ap (λ (k : Bool). (has_motion m s && not b) || k) (and-false (is_number (motion_plane first motion) q))
      ∙ cleared_slot (has_motion m) s Bare b (not_still first m q plane)

  motion_freed : (first : ℕ) (m : Motion) (q : ℕ) (t : Slot) → motion_plane first m ≡ Some q →
      motion_in t ≡ motion_in left →
      ((has_motion m s && not (column_at freed x)) || false) ≡ has_motion m (if b then t else s)
  motion_freed first m q t plane e =
      freed_slot (has_motion m) gone layer s b (column_at freed x) (not_still first m q plane) goes
      ∙ alike_slot (has_motion m) s left t b (ap (same_motion m) (sym e))

  motion_by : (first : ℕ) (kept : List Bool) (object : ObjectWrite) (motion : Option Motion) (m : Motion) (q : ℕ) →
      motion_plane first m ≡ Some q →
      (moves_by object motion ≡ true → column_at kept x ≡ (b && stands left)) →
      bit_after (motions_by first object motion bits freed kept) q x (has_motion m s) ≡ has_motion m
      (if b then object_written object motion left else s)
  motion_by first kept (Put object) None m q plane says =
      motion_freed first m q (Holds object (motion_in left)) plane refl
  motion_by first kept (Put object) (Some motion) m q plane says =
      motion_put first m motion q bits (Holds object motion) plane refl refl
  motion_by first kept Leave None m q plane says =
      motion_freed first m q (slot_of (object_in left) (motion_in left)) plane (motion_again left)
  motion_by first kept Leave (Some motion) m q plane says = motion_left first m motion q kept left plane (says refl)
  motion_by first kept Clear motion m q plane says = cleared_slot (has_motion m) s Bare b (not_still first m q plane)

  pub motion_bit : (first : ℕ) (kept : List Bool) (own : Option LayerWrite) (m : Motion) (q : ℕ) →
      motion_plane first m ≡ Some q →
      (moves_kept own ≡ true → column_at kept x ≡ (b && stands left)) →
      bit_after (motions_change first own bits freed kept) q x (has_motion m s) ≡ has_motion m
      (if b then slot_written own left else s)
  motion_bit first kept None m q plane says = motion_freed first m q left plane refl
  motion_bit first kept (Some write) m q plane says = motion_by first kept write.object write.motion m q plane says
