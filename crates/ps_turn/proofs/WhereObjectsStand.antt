-- Where objects stand, and what a motion given to them leaves as it is.
use Rattle.std.proofs.Common.{◌≡◌, ◌∙◌, ℕ, ◌+◌, ◌*◌, ◌≤◌, ◌||◌, Bool, true, false, cond, List, [], ◌∷◌}
use Rattle.std.proofs.Common.{length, map, refl, sym, ap, ap₂, arith}
use Rattle.std.specs.Prelude.{nat_eq}
use Rattle.std.specs.List.{list_any}
use Rattle.std.proofs.Math.Nat.{mul-le-mul}
use Rattle.std.proofs.lemmas.List.{get_or_past}
use Rattle.std.proofs.lemmas.Bool.Decides.{nat_tests}
use Rattle.std.proofs.lemmas.Bool.{or_parts}
use Rattle.ps_model.specs.declared.pieces.ObjectId.{ObjectId}
use Rattle.ps_model.specs.declared.pieces.Motion.{Motion}
use Rattle.ps_model.specs.declared.pieces.Slot.{Slot}
use Rattle.ps_model.specs.declared.pieces.Slot.TheVariants.{Bare, Holds}
use Rattle.ps_model.specs.board.Grid.{Grid, IsGrid, slot_at}
use Rattle.ps_model.specs.meaning.Compiled.{slot_holds}
use Rattle.ps_model.specs.names.Names.{is_among, same_object}
use Rattle.ps_board.specs.ColumnSets.{column_at, either_columns}
use Rattle.ps_board.specs.RowsOfGrids.{row_holders}
use Rattle.ps_board.proofs.ColumnLaws.{column_at-where}
use Rattle.ps_board.proofs.Taken.{AreBelow}
use Rattle.ps_turn.specs.Sweeps.{holds_any, slot_set_moving}

-- nothing stands in a bare slot, and beyond the last column
pub holds_bare : (objects : List ObjectId) → holds_any objects Bare ≡ false
holds_bare [] = refl
holds_bare (object ∷ objects) = holds_bare objects

pub layer_below : (object : ObjectId) (g : Grid) (layer row : ℕ) (all more : List Bool) → IsGrid g →
    more ≡ row_holders g object layer row → AreBelow g.width all → AreBelow g.width (either_columns all more)
layer_below object g layer row all more shape told below = record {
  at = λ x low far.
      let cells : g.width * g.height ≤ x * g.height =
      mul-le-mul far (let le : g.height ≤ g.height = omega arith in le) in
      let past : length g.cells ≤ x * g.height + row = omega (arith, shape.cells, cells) in
      let bare : slot_at g (x * g.height + row) layer ≡ Bare =
      rw (get_or_past g.cells (x * g.height + row) [] past) refl in
      column_at-where (λ y. column_at all y || column_at more y) x low
      ∙ ap₂ (λ (a b : Bool). a || b) (below.at x low far)
      (ap (λ (columns : List Bool). column_at columns x) told
      ∙ column_at-where (λ y. slot_holds object (slot_at g (y * g.height + row) layer)) x low
      ∙ ap (slot_holds object) bare);
}

-- the same object either way round
pub same_by : (m n : ℕ) (b : Bool) → nat_eq m n ≡ b → nat_eq n m ≡ b
same_by m n true e = grind (arith, nat_tests)
same_by m n false e = grind (arith, nat_tests)

pub among_by : (moved : List ObjectId) (object : ObjectId) →
    list_any (λ o. same_object o object) moved ≡ is_among moved object
among_by [] object = refl
among_by (o ∷ moved) object = ap₂ (λ (a b : Bool).
    a || b) (sym (same_by o.0 object.0 (nat_eq o.0 object.0) refl)) (among_by moved object)

-- a slot without one of the objects keeps its motion
kept_by : (moved : List ObjectId) (motion was : Motion) (object : ObjectId) → is_among moved object ≡ false →
    slot_set_moving moved motion (Holds object was) ≡ Holds object was
kept_by moved motion was object none = ap (λ (b : Bool). Holds object (cond b motion was)) none

pub slot_kept : (moved : List ObjectId) (motion : Motion) (slot : Slot) → holds_any moved slot ≡ false →
    slot_set_moving moved motion slot ≡ slot
slot_kept moved motion Bare none = refl
slot_kept moved motion (Holds object was) none = kept_by moved motion was object (sym (among_by moved object) ∙ none)

pub slots_kept : (moved : List ObjectId) (motion : Motion) (slots : List Slot) →
    list_any (holds_any moved) slots ≡ false → map (slot_set_moving moved motion) slots ≡ slots
slots_kept moved motion [] none = refl
slots_kept moved motion (slot ∷ slots) none =
    let parts = or_parts (holds_any moved slot) (list_any (holds_any moved) slots) none in
    ap₂ (λ (s : Slot) (ss : List Slot). s ∷ ss) (slot_kept moved motion slot parts.0)
    (slots_kept moved motion slots parts.1)
