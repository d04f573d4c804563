-- A write that keeps a mask leaves what fits it fitting, and one that doesn't wake it leaves the rest as it is.
use Rattle.std.proofs.Common.{◌≡◌, ℕ, suc, zero, ◌+◌, ◌⊎◌, inl, inr, Bool, true, false, ◌&&◌, ◌||◌, not, cond, Option}
use Rattle.std.proofs.Common.{Some, None, List, [], ◌∷◌, refl, sym, subst, ap, ap₂, ◌∙◌, arith}
use Rattle.std.specs.Prelude.{IfSome, nat_eq, slice_index_or, unwrap_or}
use Rattle.std.specs.List.{list_all, list_any}
use Rattle.std.proofs.lemmas.Bool.{eqb-true, and_parts, or_parts, not-false, not-true}
use Rattle.ps_model.specs.declared.pieces.ObjectId.{ObjectId}
use Rattle.ps_model.specs.declared.pieces.LayerId.{LayerId}
use Rattle.ps_model.specs.declared.pieces.Motion.{Motion}
use Rattle.ps_model.specs.declared.pieces.Motion.TheVariants.{Still}
use Rattle.ps_model.specs.declared.pieces.Slot.{Slot}
use Rattle.ps_model.specs.declared.pieces.Slot.TheVariants.{Bare, Holds}
use Rattle.ps_model.specs.declared.compiled.LayeredObject.{LayeredObject}
use Rattle.ps_model.specs.declared.compiled.MotionTest.{MotionTest}
use Rattle.ps_model.specs.declared.compiled.ObjectWrite.{ObjectWrite}
use Rattle.ps_model.specs.declared.compiled.ObjectWrite.TheVariants.{Put, Leave, Clear}
use Rattle.ps_model.specs.declared.compiled.LayerWrite.{LayerWrite}
use Rattle.ps_model.specs.names.Names.{same_object}
use Rattle.ps_model.specs.board.Grid.{motion_in}
use Rattle.ps_model.specs.meaning.Fitting.{same_motion}
use Rattle.ps_model.specs.meaning.Compiled.{CellMask, CellWrite, slot_holds, is_held_in, moves_as_asked, mask_fits}
use Rattle.ps_model.specs.meaning.Compiled.{is_gone, slot_freed, object_written, slot_written, write_on, written_from}
use Rattle.ps_model.specs.meaning.Compiled.{cell_written}
use Rattle.ps_laws.proofs.common.SameThings.{same_object-true, same_object-own}
use Rattle.ps_laws.proofs.common.Truths.{other_holds}
use Rattle.ps_program.specs.Leaving.{same_layered, is_listed, keeps_object}
use Rattle.ps_program.specs.Keeping.{keeps_one, stays_among, stays, stay_among, puts_other, puts_not, comes_not}
use Rattle.ps_program.specs.Keeping.{is_rest, frees, is_clear, gives_same, gives_other, keeps_asked, motion_stays}
use Rattle.ps_program.specs.Keeping.{gives_not, motion_comes_not, lets_sleep}
use Rattle.ps_program.specs.KeepingCells.{KeepsWhatFits, LetsSleep}
use Rattle.ps_program.proofs.FittingMasks.{held-alike, Fit, fit}

-- slots after a write ------------------------------------------------------------------------------------------------

-- a slot after a write, or both of a layer that there isn't
abbrev Behind : CellWrite → ℕ → Slot → Slot → Type 0
Behind write layer before after =
    (after ≡ slot_written (write_on layer write.layers) (slot_freed write.gone layer before)) ⊎
    ((before ≡ Bare) × (after ≡ Bare))

behind-from : (write : CellWrite) (first : ℕ) (slots : List Slot) (i layer : ℕ) → layer ≡ first + i →
    Behind write layer (slice_index_or slots i Bare) (slice_index_or (written_from write first slots) i Bare)
behind-from write first [] i layer e = inr (refl, refl)
behind-from write first (slot ∷ slots) zero layer e =
    inl (ap (λ n. slot_written (write_on n write.layers) (slot_freed write.gone n slot)) (omega (arith, e)))
behind-from write first (slot ∷ slots) (suc i) layer e = behind-from write (suc first) slots i layer (omega (arith, e))

behind : (write : CellWrite) (cell : List Slot) (layer : ℕ) →
    Behind write layer (slice_index_or cell layer Bare) (slice_index_or (cell_written write cell) layer Bare)
behind write cell layer = behind-from write 0 cell layer layer (omega arith)

-- the write of a layer is one of those that all pass a test
abbrev IsTested : (LayerWrite → Bool) → ℕ → LayerWrite → Type 0
IsTested test layer write = ((write.layer).0 ≡ layer) × (test write ≡ true)

tested-here : (test : LayerWrite → Bool) (layer : ℕ) (write : LayerWrite) (rest : Option LayerWrite) (same : Bool) →
    nat_eq (write.layer).0 layer ≡ same → test write ≡ true → IfSome rest (IsTested test layer) →
    IfSome (cond same (Some write) rest) (IsTested test layer)
tested-here test layer write rest true e passes others = (eqb-true (write.layer).0 layer e, passes)
tested-here test layer write rest false e passes others = others

write_on-tested : (test : LayerWrite → Bool) (layer : ℕ) (writes : List LayerWrite) → list_all test writes ≡ true →
    IfSome (write_on layer writes) (IsTested test layer)
write_on-tested test layer [] all = tt
write_on-tested test layer (write ∷ writes) all =
    let parts = and_parts (test write) (list_all test writes) all in
    tested-here test layer write (write_on layer writes) (nat_eq (write.layer).0 layer) refl parts.0
    (write_on-tested test layer writes parts.1)

-- of its own layer the second part of a test holds
own : (a b : ℕ) (passes : Bool) → a ≡ b → (not (nat_eq a b) || passes) ≡ true → passes ≡ true
own a b passes e h = grind (arith, h, e)

-- objects -------------------------------------------------------------------------------------------------------------

-- what isn't gone isn't freed
kept-slot : (gone : List LayeredObject) (layer : ℕ) (object : ObjectId) (slot : Slot) →
    not (is_gone gone layer object) ≡ true → slot_holds object slot ≡ true → slot_freed gone layer slot ≡ slot
kept-slot gone layer object Bare stays held = absurd (cc)
kept-slot gone layer object (Holds there motion) stays held =
    let here : object ≡ there = same_object-true object there held in
    let left : is_gone gone layer there ≡ false =
    subst (λ o. is_gone gone layer o ≡ false) here (not-true (is_gone gone layer object) stays) in
    ap (λ b. cond b Bare (Holds there motion)) left

-- one of the objects on a layer is held in a slot
abbrev HoldsOneOf : List LayeredObject → ℕ → Slot → Type 0
HoldsOneOf objects layer slot = (object : ObjectId) ×
    (is_listed objects (record { object = object; layer = record { 0 = layer } }) ≡ true) ×
    (slot_holds object slot ≡ true)

leave-held : (object : ObjectId) (motion : Option Motion) (slot : Slot) → slot_holds object slot ≡ true →
    slot_holds object (object_written Leave motion slot) ≡ true
leave-held object motion Bare held = absurd (cc)
leave-held object motion (Holds there moving) held = held

-- one of the objects is held in a slot after a layer's write that keeps it
held-by : (objects : List LayeredObject) (one : LayeredObject) (layer : LayerId) (object : ObjectWrite)
    (motion : Option Motion) (slot : Slot) → layer.0 ≡ (one.layer).0 → keeps_object objects layer object ≡ true →
    is_listed objects one ≡ true → slot_holds one.object slot ≡ true →
    HoldsOneOf objects (one.layer).0 (object_written object motion slot)
held-by objects one layer (Put object) motion slot e keeps listed held = (
  object,
  subst (λ (n : ℕ). is_listed objects (record { object = object; layer = record { 0 = n } }) ≡ true) e
      keeps,
  same_object-own object,
)
held-by objects one layer Leave motion slot e keeps listed held =
    (one.object, listed, leave-held one.object motion slot held)
held-by objects one layer Clear motion slot e keeps listed held = absurd (cc)

held-written : (objects : List LayeredObject) (one : LayeredObject) (write : Option LayerWrite) (slot : Slot) →
    IfSome write (IsTested (keeps_one objects one) (one.layer).0) → is_listed objects one ≡ true →
    slot_holds one.object slot ≡ true → HoldsOneOf objects (one.layer).0 (slot_written write slot)
held-written objects one None slot passes listed held = (one.object, listed, held)
held-written objects one (Some write) slot passes listed held =
    held-by objects one write.layer write.object write.motion slot passes.0
    (own (write.layer).0 (one.layer).0 (keeps_object objects write.layer write.object) passes.0 passes.1) listed
    held

-- where one of the objects stands that stays among them, one of them stands afterwards
held-behind : (write : CellWrite) (objects : List LayeredObject) (one : LayeredObject) (before after : Slot) →
    Behind write (one.layer).0 before after → stays_among write objects one ≡ true → is_listed objects one ≡ true →
    slot_holds one.object before ≡ true → HoldsOneOf objects (one.layer).0 after
held-behind write objects one before after (inl e) keeps listed held =
    let parts = and_parts (not (is_gone write.gone (one.layer).0 one.object))
    (list_all (keeps_one objects one) write.layers) keeps in
    let there : after ≡ slot_written (write_on (one.layer).0 write.layers) before =
    e ∙ ap (slot_written (write_on (one.layer).0 write.layers))
    (kept-slot write.gone (one.layer).0 one.object before parts.0 held) in
    subst (HoldsOneOf objects (one.layer).0) (sym there)
    (held-written objects one (write_on (one.layer).0 write.layers) before
    (write_on-tested (keeps_one objects one) (one.layer).0 write.layers parts.1) listed held)
held-behind write objects one before after (inr none) keeps listed held =
    absurd (bare-holds one.object before none.0 held) where
      bare-holds : (object : ObjectId) (slot : Slot) → slot ≡ Bare → slot_holds object slot ≡ true → ⊥
      bare-holds object slot e held = cc

-- an object of the list is held in a cell, where one of its layer is
any-here : (cell : List Slot) (sought other : LayeredObject) (rest : Bool) (same : Bool) →
    same_layered sought other ≡ same → is_held_in cell sought ≡ true → (same ≡ false → rest ≡ true) →
    (is_held_in cell other || rest) ≡ true
any-here cell sought other rest true e held others = ap (λ b. b || rest) (sym (held-alike cell sought other e) ∙ held)
any-here cell sought other rest false e held others = let behind : rest ≡ true = others refl in grind (arith, behind)

any-held : (cell : List Slot) (objects : List LayeredObject) (sought : LayeredObject) →
    is_listed objects sought ≡ true → is_held_in cell sought ≡ true → list_any (is_held_in cell) objects ≡ true
any-held cell [] sought listed held = absurd (cc)
any-held cell (other ∷ objects) sought listed held =
    any-here cell sought other (list_any (is_held_in cell) objects) (same_layered sought other) refl held
    (λ e. any-held cell objects sought (other_holds (same_layered sought other) (is_listed objects sought) listed e)
    held)

-- so one of the list stands there
stays-held : (write : CellWrite) (cell : List Slot) (objects : List LayeredObject) (one : LayeredObject) →
    stays_among write objects one ≡ true → is_listed objects one ≡ true → is_held_in cell one ≡ true →
    list_any (is_held_in (cell_written write cell)) objects ≡ true
stays-held write cell objects one keeps listed held =
    by-one (held-behind write objects one (slice_index_or cell (one.layer).0 Bare)
    (slice_index_or (cell_written write cell) (one.layer).0 Bare) (behind write cell (one.layer).0) keeps listed
    held) where
      by-one : HoldsOneOf objects (one.layer).0 (slice_index_or (cell_written write cell) (one.layer).0 Bare) →
          list_any (is_held_in (cell_written write cell)) objects ≡ true
      by-one (object, among, there) = any-held (cell_written write cell) objects
          (record { object = object; layer = one.layer }) among there

same-layered-self : (one : LayeredObject) → same_layered one one ≡ true
same-layered-self one = grind (arith)

listed-self : (one : LayeredObject) → is_listed (one ∷ []) one ≡ true
listed-self one = ap (λ b. b || false) (same-layered-self one)

any-single : (b : Bool) → (b || false) ≡ true → b ≡ true
any-single true e = refl
any-single false e = absurd (cc)

-- what stays is held afterwards
pub held-after : (write : CellWrite) (cell : List Slot) (one : LayeredObject) → stays write one ≡ true →
    is_held_in cell one ≡ true → is_held_in (cell_written write cell) one ≡ true
held-after write cell one keeps held = any-single (is_held_in (cell_written write cell) one)
    (stays-held write cell (one ∷ []) one keeps (listed-self one) held)

-- what isn't there comes with no write that doesn't put it
freed-denied : (gone : List LayeredObject) (layer : ℕ) (object : ObjectId) (slot : Slot) →
    slot_holds object slot ≡ false → slot_holds object (slot_freed gone layer slot) ≡ false
freed-denied gone layer object Bare denied = refl
freed-denied gone layer object (Holds there motion) denied = by-gone (is_gone gone layer there) where
  by-gone : (b : Bool) → slot_holds object (cond b Bare (Holds there motion)) ≡ false
  by-gone true = refl
  by-gone false = denied

leave-denied : (object : ObjectId) (motion : Option Motion) (slot : Slot) → slot_holds object slot ≡ false →
    slot_holds object (object_written Leave motion slot) ≡ false
leave-denied object motion Bare denied = refl
leave-denied object motion (Holds there moving) denied = denied

put-denied : (object : ObjectId) (write : ObjectWrite) (motion : Option Motion) (slot : Slot) →
    puts_other object write ≡ true → slot_holds object slot ≡ false →
    slot_holds object (object_written write motion slot) ≡ false
put-denied object (Put put) motion slot other denied = not-true (same_object object put) other
put-denied object Leave motion slot other denied = leave-denied object motion slot denied
put-denied object Clear motion slot other denied = refl

written-denied : (one : LayeredObject) (write : Option LayerWrite) (slot : Slot) →
    IfSome write (IsTested (puts_not one) (one.layer).0) → slot_holds one.object slot ≡ false →
    slot_holds one.object (slot_written write slot) ≡ false
written-denied one None slot passes denied = denied
written-denied one (Some write) slot passes denied =
    put-denied one.object write.object write.motion slot
    (own (write.layer).0 (one.layer).0 (puts_other one.object write.object) passes.0 passes.1) denied

denied-behind : (write : CellWrite) (one : LayeredObject) (before after : Slot) →
    Behind write (one.layer).0 before after → comes_not write one ≡ true → slot_holds one.object before ≡ false →
    slot_holds one.object after ≡ false
denied-behind write one before after (inl e) comes denied =
    subst (λ slot. slot_holds one.object slot ≡ false) (sym e)
    (written-denied one (write_on (one.layer).0 write.layers) (slot_freed write.gone (one.layer).0 before)
    (write_on-tested (puts_not one) (one.layer).0 write.layers comes)
    (freed-denied write.gone (one.layer).0 one.object before denied))
denied-behind write one before after (inr none) comes denied =
    subst (λ slot. slot_holds one.object slot ≡ false) (sym none.1) refl

pub denied-after : (write : CellWrite) (cell : List Slot) (one : LayeredObject) → comes_not write one ≡ true →
    is_held_in cell one ≡ false → is_held_in (cell_written write cell) one ≡ false
denied-after write cell one comes denied =
    denied-behind write one (slice_index_or cell (one.layer).0 Bare)
    (slice_index_or (cell_written write cell) (one.layer).0 Bare) (behind write cell (one.layer).0) comes denied

-- motions -------------------------------------------------------------------------------------------------------------

-- an answer to a question about a slot's motion that stays where the slot is freed, and where it is written
freed-asked : (gone : List LayeredObject) (layer : ℕ) (asks : Motion → Bool) (answer : Bool) (slot : Slot) →
    (list_any (λ each. nat_eq (each.layer).0 layer) gone ≡ true → asks Still ≡ answer) →
    asks (motion_in slot) ≡ answer → asks (motion_in (slot_freed gone layer slot)) ≡ answer
freed-asked gone layer asks answer Bare rests asked = asked
freed-asked gone layer asks answer (Holds there motion) rests asked = by-gone (is_gone gone layer there) refl where
  by-gone : (b : Bool) → is_gone gone layer there ≡ b → asks (motion_in (cond b Bare (Holds there motion))) ≡ answer
  by-gone true e = rests (gone-frees gone e) where
    gone-frees : (gone : List LayeredObject) → is_gone gone layer there ≡ true →
        list_any (λ each. nat_eq (each.layer).0 layer) gone ≡ true
    gone-frees [] e = absurd (cc)
    gone-frees (each ∷ gone) e = frees-one (nat_eq (each.layer).0 layer) (same_object each.object there)
        (is_gone gone layer there) (list_any (λ each. nat_eq (each.layer).0 layer) gone) e (gone-frees gone) where
          frees-one : (on same goes frees : Bool) → ((on && same) || goes) ≡ true → (goes ≡ true → frees ≡ true) →
              (on || frees) ≡ true
          frees-one true same goes frees any rest = refl
          frees-one false same goes frees any rest = rest any
  by-gone false e = asked

-- what a write must leave of such an answer
pub record Asked (asks : Motion → Bool) (answer : Bool) (write : LayerWrite) : Type 0 where
  pub given : IfSome write.motion (λ motion. asks motion ≡ answer)
  pub cleared : is_clear write.object ≡ true → asks Still ≡ answer

moved-asked : (asks : Motion → Bool) (answer : Bool) (motion : Option Motion) (moving : Motion) →
    IfSome motion (λ given. asks given ≡ answer) → asks moving ≡ answer → asks (unwrap_or motion moving) ≡ answer
moved-asked asks answer None moving given asked = asked
moved-asked asks answer (Some motion) moving given asked = given

left-asked : (asks : Motion → Bool) (answer : Bool) (motion : Option Motion) (slot : Slot) →
    IfSome motion (λ given. asks given ≡ answer) → asks (motion_in slot) ≡ answer →
    asks (motion_in (object_written Leave motion slot)) ≡ answer
left-asked asks answer motion Bare given asked = asked
left-asked asks answer motion (Holds there moving) given asked = moved-asked asks answer motion moving given asked

object-asked : (asks : Motion → Bool) (answer : Bool) (object : ObjectWrite) (motion : Option Motion) (slot : Slot) →
    IfSome motion (λ given. asks given ≡ answer) → (is_clear object ≡ true → asks Still ≡ answer) →
    asks (motion_in slot) ≡ answer → asks (motion_in (object_written object motion slot)) ≡ answer
object-asked asks answer (Put object) motion slot given cleared asked =
    moved-asked asks answer motion (motion_in slot) given asked
object-asked asks answer Leave motion slot given cleared asked = left-asked asks answer motion slot given asked
object-asked asks answer Clear motion slot given cleared asked = cleared refl

written-asked : (asks : Motion → Bool) (answer : Bool) (write : Option LayerWrite) (slot : Slot) →
    IfSome write (Asked asks answer) → asks (motion_in slot) ≡ answer →
    asks (motion_in (slot_written write slot)) ≡ answer
written-asked asks answer None slot leaves asked = asked
written-asked asks answer (Some write) slot leaves asked =
    object-asked asks answer write.object write.motion slot leaves.given leaves.cleared asked

asked-behind : (write : CellWrite) (layer : ℕ) (asks : Motion → Bool) (answer : Bool) (before after : Slot) →
    Behind write layer before after →
    (list_any (λ each. nat_eq (each.layer).0 layer) write.gone ≡ true → asks Still ≡ answer) →
    IfSome (write_on layer write.layers) (Asked asks answer) → asks (motion_in before) ≡ answer →
    asks (motion_in after) ≡ answer
asked-behind write layer asks answer before after (inl e) rests leaves asked =
    subst (λ slot. asks (motion_in slot) ≡ answer) (sym e)
    (written-asked asks answer (write_on layer write.layers) (slot_freed write.gone layer before) leaves
    (freed-asked write.gone layer asks answer before rests asked))
asked-behind write layer asks answer before after (inr none) rests leaves asked =
    subst (λ slot. asks (motion_in slot) ≡ answer) (none.0 ∙ sym none.1) asked

true-or-not : (a b : Bool) → (a || not b) ≡ true → b ≡ true → a ≡ true
true-or-not true b any e = refl
true-or-not false true any e = absurd (cc)
true-or-not false false any e = absurd (cc)

false-or-not : (a b : Bool) → (not a || not b) ≡ true → b ≡ true → a ≡ false
false-or-not true true any e = absurd (cc)
false-or-not true false any e = absurd (cc)
false-or-not false b any e = refl

given-same : (motion : Motion) (given : Option Motion) → gives_same motion given ≡ true →
    IfSome given (λ each. same_motion motion each ≡ true)
given-same motion None e = tt
given-same motion (Some given) e = e

given-other : (motion : Motion) (given : Option Motion) → gives_other motion given ≡ true →
    IfSome given (λ each. same_motion motion each ≡ false)
given-other motion None e = tt
given-other motion (Some given) e = not-true (same_motion motion given) e

keeps-asked : (test : MotionTest) (write : Option LayerWrite) →
    IfSome write (IsTested (keeps_asked test) (test.layer).0) → IfSome write (Asked (same_motion test.motion) true)
keeps-asked test None passes = tt
keeps-asked test (Some write) passes =
    let second : Bool = is_rest test.motion || not (is_clear write.object) in
    let parts = and_parts (gives_same test.motion write.motion) second
    (own (write.layer).0 (test.layer).0 (gives_same test.motion write.motion && second) passes.0 passes.1) in
    record {
      given = given-same test.motion write.motion parts.0;
      cleared =
          true-or-not (is_rest test.motion) (is_clear write.object) parts.1;
    }

gives-not : (test : MotionTest) (write : Option LayerWrite) → IfSome write (IsTested (gives_not test) (test.layer).0) →
    IfSome write (Asked (same_motion test.motion) false)
gives-not test None passes = tt
gives-not test (Some write) passes =
    let second : Bool = not (is_rest test.motion) || not (is_clear write.object) in
    let parts = and_parts (gives_other test.motion write.motion) second
    (own (write.layer).0 (test.layer).0 (gives_other test.motion write.motion && second) passes.0 passes.1) in
    record {
      given = given-other test.motion write.motion parts.0;
      cleared =
          false-or-not (is_rest test.motion) (is_clear write.object) parts.1;
    }

-- a motion that is asked for stays, and one that isn't there doesn't come
pub asked-after : (write : CellWrite) (cell : List Slot) (test : MotionTest) → motion_stays write test ≡ true →
    moves_as_asked cell test ≡ true → moves_as_asked (cell_written write cell) test ≡ true
asked-after write cell test keeps asked =
    let layer : ℕ = (test.layer).0 in
    let parts = and_parts (is_rest test.motion || not (frees write test.layer))
    (list_all (keeps_asked test) write.layers) keeps in
    asked-behind write layer (same_motion test.motion) true (slice_index_or cell layer Bare)
    (slice_index_or (cell_written write cell) layer Bare) (behind write cell layer)
    (true-or-not (is_rest test.motion) (frees write test.layer) parts.0)
    (keeps-asked test (write_on layer write.layers) (write_on-tested (keeps_asked test) layer write.layers parts.1))
    asked

pub unasked-after : (write : CellWrite) (cell : List Slot) (test : MotionTest) → motion_comes_not write test ≡ true →
    moves_as_asked cell test ≡ false → moves_as_asked (cell_written write cell) test ≡ false
unasked-after write cell test comes asked =
    let layer : ℕ = (test.layer).0 in
    let parts = and_parts (not (is_rest test.motion) || not (frees write test.layer))
    (list_all (gives_not test) write.layers) comes in
    asked-behind write layer (same_motion test.motion) false (slice_index_or cell layer Bare)
    (slice_index_or (cell_written write cell) layer Bare) (behind write cell layer)
    (false-or-not (is_rest test.motion) (frees write test.layer) parts.0)
    (gives-not test (write_on layer write.layers) (write_on-tested (gives_not test) layer write.layers parts.1)) asked

-- masks ---------------------------------------------------------------------------------------------------------------

-- what each keeps all keep
all-after : {X : Type 0} (leaves before after : X → Bool) (xs : List X) →
    ((x : X) → leaves x ≡ true → before x ≡ true → after x ≡ true) → list_all leaves xs ≡ true →
    list_all before xs ≡ true → list_all after xs ≡ true
all-after leaves before after [] each keeps all = refl
all-after leaves before after (x ∷ xs) each keeps all =
    let kept = and_parts (leaves x) (list_all leaves xs) keeps in
    let was = and_parts (before x) (list_all before xs) all in
    ap₂ (λ (a b : Bool). a && b) (each x kept.0 was.0) (all-after leaves before after xs each kept.1 was.1)

-- what none was none is afterwards
none-after : {X : Type 0} (leaves before after : X → Bool) (xs : List X) →
    ((x : X) → leaves x ≡ true → before x ≡ false → after x ≡ false) → list_all leaves xs ≡ true →
    list_any before xs ≡ false → list_any after xs ≡ false
none-after leaves before after [] each keeps none = refl
none-after leaves before after (x ∷ xs) each keeps none =
    let kept = and_parts (leaves x) (list_all leaves xs) keeps in
    let was = or_parts (before x) (list_any before xs) none in
    ap₂ (λ (a b : Bool). a || b) (each x kept.0 was.0) (none-after leaves before after xs each kept.1 was.1)

-- where one of a list stood, one of a larger list stands
among-after : (write : CellWrite) (cell : List Slot) (all some : List LayeredObject) →
    ((one : LayeredObject) → is_listed some one ≡ true → is_listed all one ≡ true) →
    list_all (stays_among write all) some ≡ true →
    list_any (is_held_in cell) some ≡ true → list_any (is_held_in (cell_written write cell)) all ≡ true
among-after write cell all [] within keeps any = absurd (cc)
among-after write cell all (one ∷ some) within keeps any =
    let kept = and_parts (stays_among write all one) (list_all (stays_among write all) some) keeps in
    by-held (is_held_in cell one) refl
    (λ held. stays-held write cell all one kept.0
    (within one (ap (λ b. b || is_listed some one) (same-layered-self one))) held)
    (λ others. among-after write cell all some (λ other listed. within other (grind (arith, listed))) kept.1 others)
  where
    by-held : (held : Bool) → is_held_in cell one ≡ held →
        (held ≡ true → list_any (is_held_in (cell_written write cell)) all ≡ true) →
        (list_any (is_held_in cell) some ≡ true → list_any (is_held_in (cell_written write cell)) all ≡ true) →
        list_any (is_held_in (cell_written write cell)) all ≡ true
    by-held true e here behind = here refl
    by-held false e here behind = behind (other_holds (is_held_in cell one) (list_any (is_held_in cell) some) any e)

-- the parts of a mask that fits are one test
fits-by : (a b c d : Bool) → a ≡ true → b ≡ false → c ≡ true → d ≡ true → (a && (not b && (c && d))) ≡ true
fits-by a b c d ea eb ec ed = grind (arith, ea, eb, ec, ed)

pub keeps-what-fits : KeepsWhatFits
keeps-what-fits write mask keeps cell fits =
    let after : List Slot = cell_written write cell in
    let was : Fit mask cell = fit mask cell fits in
    let needed : Bool = list_all (stays write) mask.needed in
    let barred : Bool = list_all (comes_not write) mask.barred in
    let one_of : Bool = list_all (stay_among write) mask.one_of in
    let motions : Bool = list_all (motion_stays write) mask.motions in
    let first = and_parts needed (barred && (one_of && motions)) keeps in
    let second = and_parts barred (one_of && motions) first.1 in
    let third = and_parts one_of motions second.1 in
    fits-by (list_all (is_held_in after) mask.needed) (list_any (is_held_in after) mask.barred)
    (list_all (λ objects. list_any (is_held_in after) objects) mask.one_of)
    (list_all (moves_as_asked after) mask.motions)
    (all-after (stays write) (is_held_in cell) (is_held_in after) mask.needed (held-after write cell) first.0
    was.needed)
    (none-after (comes_not write) (is_held_in cell) (is_held_in after) mask.barred (denied-after write cell) second.0
    was.barred)
    (all-after (stay_among write) (λ objects. list_any (is_held_in cell) objects) (λ objects.
    list_any (is_held_in after) objects) mask.one_of
    (λ objects stay any. among-after write cell objects objects (λ one listed. listed) stay any) third.0 was.one_of)
    (all-after (motion_stays write) (moves_as_asked cell) (moves_as_asked after) mask.motions (asked-after write cell)
    third.1 was.motions)

-- backwards: what holds afterwards held before
back : (before after : Bool) → (before ≡ false → after ≡ false) → after ≡ true → before ≡ true
back true after stays e = refl
back false after stays e = absurd (let none : after ≡ false = stays refl in cc)

back-not : (before after : Bool) → (before ≡ true → after ≡ true) → after ≡ false → before ≡ false
back-not true after stays e = absurd (let all : after ≡ true = stays refl in cc)
back-not false after stays e = refl

-- a cell that fits after a write that lets a mask sleep fitted before
fitted-before : (write : CellWrite) (mask : CellMask) (cell : List Slot) → lets_sleep write mask ≡ true →
    mask_fits mask (cell_written write cell) ≡ true → mask_fits mask cell ≡ true
fitted-before write mask cell sleeps fits =
    let after : List Slot = cell_written write cell in
    let is : Fit mask after = fit mask after fits in
    let needed : Bool = list_all (comes_not write) mask.needed in
    let barred : Bool = list_all (stays write) mask.barred in
    let one_of : Bool = list_all (list_all (comes_not write)) mask.one_of in
    let motions : Bool = list_all (motion_comes_not write) mask.motions in
    let first = and_parts needed (barred && (one_of && motions)) sleeps in
    let second = and_parts barred (one_of && motions) first.1 in
    let third = and_parts one_of motions second.1 in
    fits-by (list_all (is_held_in cell) mask.needed) (list_any (is_held_in cell) mask.barred)
    (list_all (λ objects. list_any (is_held_in cell) objects) mask.one_of)
    (list_all (moves_as_asked cell) mask.motions)
    (all-after (comes_not write) (is_held_in after) (is_held_in cell) mask.needed (λ one comes held.
    back (is_held_in cell one) (is_held_in after one) (denied-after write cell one comes) held) first.0 is.needed)
    (none-after (stays write) (is_held_in after) (is_held_in cell) mask.barred (λ one keeps denied.
    back-not (is_held_in cell one) (is_held_in after one) (held-after write cell one keeps) denied) second.0
    is.barred)
    (all-after (list_all (comes_not write)) (λ objects. list_any (is_held_in after) objects) (λ objects.
    list_any (is_held_in cell) objects) mask.one_of
    (λ objects comes any. back (list_any (is_held_in cell) objects) (list_any (is_held_in after) objects)
    (none-after (comes_not write) (is_held_in cell) (is_held_in after) objects (denied-after write cell) comes)
    any) third.0 is.one_of)
    (all-after (motion_comes_not write) (moves_as_asked after) (moves_as_asked cell) mask.motions (λ test comes asked.
    back (moves_as_asked cell test) (moves_as_asked after test) (unasked-after write cell test comes) asked)
    third.1 is.motions)

pub lets-sleep : LetsSleep
lets-sleep write mask sleeps cell unfit = by-fit (mask_fits mask (cell_written write cell)) refl where
  by-fit : (fits : Bool) → mask_fits mask (cell_written write cell) ≡ fits →
      mask_fits mask (cell_written write cell) ≡ false
  by-fit true e = absurd (let was : mask_fits mask cell ≡ true =
      fitted-before write mask cell (not-false (lets_sleep write mask) sleeps) e in cc)
  by-fit false e = e
