-- A write that puts nothing that goes changes nothing after itself.
use Rattle.std.proofs.Common.{◌≡◌, ◌∙◌, ℕ, suc, Bool, true, false, not, Option, Some, None, List, [], ◌∷◌, refl, sym}
use Rattle.std.proofs.Common.{ap, ap₂}
use Rattle.std.specs.Prelude.{nat_eq, cond, find, unwrap_or}
use Rattle.std.specs.List.{list_all}
use Rattle.std.proofs.lemmas.Bool.{and_parts, eqb-true, not-true}
use Rattle.std.proofs.lemmas.Option.{none-some, same_Some}
use Rattle.ps_model.specs.declared.pieces.LayerId.{LayerId}
use Rattle.ps_model.specs.declared.pieces.Motion.{Motion}
use Rattle.ps_model.specs.declared.pieces.ObjectId.{ObjectId}
use Rattle.ps_model.specs.declared.pieces.Slot.{Slot}
use Rattle.ps_model.specs.declared.pieces.Slot.TheVariants.{Bare, Holds}
use Rattle.ps_model.specs.declared.compiled.LayeredObject.{LayeredObject}
use Rattle.ps_model.specs.declared.compiled.LayerWrite.{LayerWrite}
use Rattle.ps_model.specs.declared.compiled.ObjectWrite.{ObjectWrite}
use Rattle.ps_model.specs.declared.compiled.ObjectWrite.TheVariants.{Put, Leave, Clear}
use Rattle.ps_model.specs.meaning.Compiled.{CellWrite, cell_written, is_gone, object_written, slot_freed}
use Rattle.ps_model.specs.meaning.Compiled.{slot_written, write_on, written_from}
use Rattle.ps_program.specs.Writers.{SettlesAtOnce, layer_lasts, object_lasts, settles}

freed_by : (gone : List LayeredObject) (layer : ℕ) (object : ObjectId) (motion : Motion) (b : Bool) →
    is_gone gone layer object ≡ b →
    slot_freed gone layer (slot_freed gone layer (Holds object motion)) ≡ slot_freed gone layer (Holds object motion)
freed_by gone layer object motion true e = rw e refl
freed_by gone layer object motion false e = rw (e, e) refl

freed_twice : (gone : List LayeredObject) (layer : ℕ) (slot : Slot) →
    slot_freed gone layer (slot_freed gone layer slot) ≡ slot_freed gone layer slot
freed_twice gone layer Bare = refl
freed_twice gone layer (Holds object motion) = freed_by gone layer object motion (is_gone gone layer object) refl

given_twice : (given : Option Motion) (motion : Motion) → unwrap_or given
    (unwrap_or given motion) ≡ unwrap_or given motion
given_twice None motion = refl
given_twice (Some given) motion = refl

-- one slot, by what its layer gets
put_twice : (gone : List LayeredObject) (layer : ℕ) (object : ObjectId) (given : Option Motion) (slot : Slot) →
    is_gone gone layer object ≡ false →
    object_written (Put object) given (slot_freed gone layer (object_written
    (Put object) given slot)) ≡ object_written (Put object) given slot
put_twice gone layer object given Bare e = rw e (ap (λ (motion : Motion). Holds object motion) (given_twice given _))
put_twice gone layer object given (Holds held motion) e = rw e (ap (λ (motion : Motion). Holds object motion)
    (given_twice given motion))

leave_by : (gone : List LayeredObject) (layer : ℕ) (given : Option Motion) (object : ObjectId) (motion : Motion)
    (b : Bool) → is_gone gone layer object ≡ b →
    object_written Leave given (slot_freed gone layer (object_written Leave given (slot_freed gone layer
    (Holds object motion))))
    ≡ object_written Leave given (slot_freed gone layer (Holds object motion))
leave_by gone layer given object motion true e = rw e refl
leave_by gone layer given object motion false e = rw (e, e) (ap (λ (motion : Motion). Holds object motion)
    (given_twice given motion))

leave_twice : (gone : List LayeredObject) (layer : ℕ) (given : Option Motion) (slot : Slot) →
    object_written Leave given (slot_freed gone layer (object_written Leave given (slot_freed gone layer slot)))
    ≡ object_written Leave given (slot_freed gone layer slot)
leave_twice gone layer given Bare = refl
leave_twice gone layer given (Holds object motion) = leave_by gone layer given object motion
    (is_gone gone layer object) refl

object_twice : (gone : List LayeredObject) (own : LayerId) (layer : ℕ) (object : ObjectWrite)
    (given : Option Motion) (slot : Slot) →
    own.0 ≡ layer → object_lasts gone own object ≡ true →
    object_written object given (slot_freed gone layer (object_written object given (slot_freed gone layer slot)))
    ≡ object_written object given (slot_freed gone layer slot)
object_twice gone own layer (Put object) given slot is lasts =
    put_twice gone layer object given (slot_freed gone layer slot)
    (ap (λ (n : ℕ). is_gone gone n object) (sym is) ∙ not-true (is_gone gone own.0 object) lasts)
object_twice gone own layer Leave given slot is lasts = leave_twice gone layer given slot
object_twice gone own layer Clear given slot is lasts = refl

-- what is found passes its test, and what all pass
find_passes : (f test : LayerWrite → Bool) (writes : List LayerWrite) (write : LayerWrite) →
    list_all test writes ≡ true →
    find f writes ≡ Some write → (f write ≡ true) × (test write ≡ true)
find_passes f test [] write all e = absurd (none-some write e)
find_passes f test (one ∷ writes) write all e =
    let parts = and_parts (test one) (list_all test writes) all in
    by (f one) refl parts.0 (find_passes f test writes write parts.1) e where
      by : (b : Bool) → f one ≡ b → test one ≡ true → (find f writes ≡ Some write →
          (f write ≡ true) × (test write ≡ true)) →
          find f (one ∷ writes) ≡ Some write → (f write ≡ true) × (test write ≡ true)
      by true here passes rest found =
          let chosen : Some one ≡ Some write = sym (ap (λ (b : Bool). cond b (Some one) (find f writes)) here)
          ∙ found in
          let same : one ≡ write = same_Some one write chosen in
          (ap f (sym same) ∙ here, ap test (sym same) ∙ passes)
      by false here passes rest found = rest (sym (ap (λ (b : Bool). cond b (Some one) (find f writes)) here) ∙ found)

slot_twice : (write : CellWrite) (layer : ℕ) (own : Option LayerWrite) (slot : Slot) → settles write ≡ true →
    write_on layer write.layers ≡ own →
    slot_written own (slot_freed write.gone layer (slot_written own (slot_freed write.gone layer slot)))
    ≡ slot_written own (slot_freed write.gone layer slot)
slot_twice write layer None slot all e = freed_twice write.gone layer slot
slot_twice write layer (Some one) slot all e =
    let passes = find_passes (λ each. nat_eq (each.layer).0 layer) (layer_lasts write.gone) write.layers one all e in
    object_twice write.gone one.layer layer one.object one.motion slot (eqb-true (one.layer).0 layer passes.0) passes.1

twice_from : (write : CellWrite) (layer : ℕ) (slots : List Slot) → settles write ≡ true →
    written_from write layer (written_from write layer slots) ≡ written_from write layer slots
twice_from write layer [] all = refl
twice_from write layer (slot ∷ slots) all =
    ap₂ (λ (s : Slot) (ss : List Slot). s ∷ ss) (slot_twice write layer (write_on layer write.layers) slot all refl)
    (twice_from write (suc layer) slots all)

pub settles-at-once : SettlesAtOnce
settles-at-once write all cell = twice_from write 0 cell all
