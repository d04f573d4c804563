-- Which values of a layer pass: where a mask names objects for the layer, one of these alone; and none, where the write
-- has nothing for the layer and is asked to change it.
use Rattle.std.proofs.Common.{◌≡◌, ℕ, zero, suc, ◌<◌, Bool, true, false, ◌&&◌, ◌||◌, not, Option, Some, None, inl, inr}
use Rattle.std.proofs.Common.{List, [], ◌∷◌, cond, refl, sym, subst, ap, ap₂, ◌∙◌, arith}
use Rattle.std.specs.Prelude.{nat_eq, nat_lt, find}
use Rattle.std.specs.Option.{option_map}
use Rattle.std.specs.List.{list_all, list_any, Contains}
use Rattle.std.proofs.lemmas.Bool.{and_parts, and_from, and_right, or_parts, or_from, or_left, or_right, both_ways}
use Rattle.std.proofs.lemmas.Bool.{ltb-true, lt-ltb, eqb-true, not-true, cases_Bool, false_from_ne_true}
use Rattle.std.proofs.lemmas.Bool.Decides.{eqb_tells}
use Rattle.std.proofs.lemmas.List.Folds.{list_any_at}
use Rattle.ps_model.specs.declared.pieces.ObjectId.{ObjectId}
use Rattle.ps_model.specs.declared.pieces.Direction.TheVariants.{Up, Down, Left, Right}
use Rattle.ps_model.specs.declared.pieces.Motion.{Motion}
use Rattle.ps_model.specs.declared.pieces.Motion.TheVariants.{Still, Going, Acting}
use Rattle.ps_model.specs.declared.pieces.Slot.{Slot}
use Rattle.ps_model.specs.declared.pieces.Slot.TheVariants.{Bare, Holds}
use Rattle.ps_model.specs.declared.compiled.LayeredObject.{LayeredObject}
use Rattle.ps_model.specs.declared.compiled.LayerWrite.{LayerWrite}
use Rattle.ps_model.specs.declared.compiled.MotionTest.{MotionTest}
use Rattle.ps_model.specs.names.Names.{Names, layer_of, object_count, same_object}
use Rattle.ps_model.specs.board.Attempts.{same_slot}
use Rattle.ps_model.specs.meaning.Compiled.{CellMask, CellWrite, CompiledCell, slot_holds, is_gone, slot_freed}
use Rattle.ps_model.specs.meaning.Compiled.{slot_written, write_on}
use Rattle.ps_laws.proofs.common.SameThings.{same_object-true, same_slot-own}
use Rattle.ps_laws.proofs.common.Truths.{same_tests, impossible, other_holds}
use Rattle.ps_program.proofs.FittingMasks.{Sought, found-in, all-true, at-place}
use Rattle.ps_compile.specs.LayerValues.{lies_on, has_needed, has_barred, has_one_of, has_motion, layer_fits}
use Rattle.ps_compile.specs.LayerValues.{value_written, passes, some_below, motions, numbered, object_passes}
use Rattle.ps_compile.specs.LayerValues.{own_passes, some_value}
use Rattle.ps_compile.specs.Claims.{is_claim_passing, is_of, asks_of, touches, fails_on, object_fails, list_fails}
use Rattle.ps_compile.specs.Claims.{test_fails, fails_where_named, changes_on, gone_changes, write_changes}
use Rattle.ps_compile.specs.Claims.{changes_where_named}

-- tests of lists and of numbers ---------------------------------------------------------------------------------------

pub any-in : {X : Type 0} (p : X → Bool) (xs : List X) (x : X) → Contains xs x → p x ≡ true → list_any p xs ≡ true
any-in p xs x (k, within, e) h = list_any_at p xs k x within (ap p e ∙ h)

-- what passes one test passes another one
any-more : {X : Type 0} (p q : X → Bool) (xs : List X) → ((x : X) → p x ≡ true → q x ≡ true) → list_any p xs ≡ true →
    list_any q xs ≡ true
any-more p q xs more any = let found : Sought p xs = found-in p xs any in
    any-in q xs found.0 found.1 (more found.0 found.2)

pub any-fewer : {X : Type 0} (p q : X → Bool) (xs : List X) → ((x : X) → p x ≡ true → q x ≡ true) → list_any q xs ≡ false →
    list_any p xs ≡ false
any-fewer p q xs more none =
    false_from_ne_true (list_any p xs) (λ any. both_ways (list_any q xs) none (any-more p q xs more any))

-- a number below the bound that passes
pub below-in : (test : ℕ → Bool) (n k : ℕ) → k < n → test k ≡ true → some_below test n ≡ true
below-in test zero k within h = absurd (omega (arith, within))
below-in test (suc n) k within h = elim (eqb_tells k n) [
  | inl e ↦ or_right (some_below test n) (test n) (ap test (sym e.1) ∙ h)
  | inr e ↦ or_left (some_below test n) (test n) (below-in test n k (omega (arith, within, e.1)) h)
]

-- the number that is found
abbrev pub Below : (ℕ → Bool) → ℕ → Type 0
Below test n = (k : ℕ) × (k < n) × (test k ≡ true)

one-above : (test : ℕ → Bool) (n : ℕ) → Below test n → Below test (suc n)
one-above test n (k, within, h) = (k, omega (arith, within), h)

pub below-found : (test : ℕ → Bool) (n : ℕ) → some_below test n ≡ true → Below test n
below-found test zero any = impossible any
below-found test (suc n) any = elim (cases_Bool (some_below test n)) [
  | inl e ↦ one-above test n (below-found test n e)
  | inr e ↦ (n, omega arith, other_holds (some_below test n) (test n) any e)
]

-- objects with motions ------------------------------------------------------------------------------------------------

pub moving-in : (test : Motion → Bool) (motion : Motion) → test motion ≡ true → list_any test motions ≡ true
moving-in test (Going Right) h = any-in test motions (Going Right) (0, omega arith, refl) h
moving-in test (Going Down) h = any-in test motions (Going Down) (1, omega arith, refl) h
moving-in test Still h = any-in test motions Still (2, omega arith, refl) h
moving-in test (Going Up) h = any-in test motions (Going Up) (3, omega arith, refl) h
moving-in test (Going Left) h = any-in test motions (Going Left) (4, omega arith, refl) h
moving-in test Acting h = any-in test motions Acting (5, omega arith, refl) h

-- claims --------------------------------------------------------------------------------------------------------------

-- each value of the layer that fits is one of these objects
abbrev IsClaim : CellMask → ℕ → List LayeredObject → Type 0
IsClaim mask layer objects = (slot : Slot) → layer_fits mask layer slot ≡ true →
    list_any (λ each. lies_on layer each && slot_holds each.object slot) objects ≡ true

-- what passes fits
passing-fits : (cell : CompiledCell) (changed : Bool) (layer : ℕ) (slot : Slot) →
    passes cell changed layer slot ≡ true → layer_fits cell.mask layer slot ≡ true
passing-fits cell changed layer slot e =
    (and_parts (layer_fits cell.mask layer slot)
    (not changed || not (same_slot (value_written cell.write layer slot) slot)) e).0

-- nothing isn't one of the objects
bare-not : (layer : ℕ) (objects : List LayeredObject) →
    list_any (λ each. lies_on layer each && slot_holds each.object Bare) objects ≡ true → ⊥
bare-not layer objects any = by-found (found-in (λ each. lies_on layer each && slot_holds each.object Bare) objects any)
  where
    by-found : Sought (λ (each : LayeredObject). lies_on layer each && slot_holds each.object Bare) objects → ⊥
    by-found (each, within, e) = impossible (and_parts (lies_on layer each) false e).1

-- an object of the layer that passes is claimed
claim-of : (names : Names) (cell : CompiledCell) (changed : Bool) (layer : ℕ) (objects : List LayeredObject) →
    IsClaim cell.mask layer objects → (number : ℕ) → number < object_count names →
    own_passes names cell changed layer number ≡ true →
    list_any (is_claim_passing names cell changed layer) objects ≡ true
claim-of names cell changed layer objects claim number within e = by-motion
    (found-in (λ motion. passes cell changed layer (Holds object motion)) motions own.1) where
      object : ObjectId
      object = numbered number

      own : (nat_eq (layer_of names object) layer ≡ true) × (object_passes cell changed layer object ≡ true)
      own = and_parts (nat_eq (layer_of names object) layer) (object_passes cell changed layer object) e

      of-one : (each : LayeredObject) → (lies_on layer each && same_object each.object object) ≡ true →
          is_claim_passing names cell changed layer each ≡ true
      of-one each h =
          let parts = and_parts (lies_on layer each) (same_object each.object object) h in
          let same : object ≡ each.object = sym (same_object-true each.object object parts.1) in
          and_from (lies_on layer each) _ parts.0
          (subst (λ (o : ObjectId). (nat_lt o.0 (object_count names)
          && (nat_eq (layer_of names o) layer && object_passes cell changed layer o)) ≡ true) same
          (and_from (nat_lt number (object_count names)) _ (lt-ltb number (object_count names) within)
          (and_from (nat_eq (layer_of names object) layer) _ own.0 own.1)))

      by-motion : Sought (λ (motion : Motion). passes cell changed layer (Holds object motion)) motions →
          list_any (is_claim_passing names cell changed layer) objects ≡ true
      by-motion (motion, among, passing) =
          any-more (λ each. lies_on layer each && slot_holds each.object (Holds object motion))
          (is_claim_passing names cell changed layer) objects of-one
          (claim (Holds object motion) (passing-fits cell changed layer (Holds object motion) passing))

-- so where objects are claimed, they alone need be tried
claimed-forth : (names : Names) (cell : CompiledCell) (changed : Bool) (layer : ℕ) (objects : List LayeredObject) →
    IsClaim cell.mask layer objects → some_value names cell changed layer ≡ true →
    list_any (is_claim_passing names cell changed layer) objects ≡ true
claimed-forth names cell changed layer objects claim some = elim (cases_Bool (passes cell changed layer Bare)) [
  | inl e ↦ absurd (bare-not layer objects (claim Bare (passing-fits cell changed layer Bare e)))
  | inr e ↦ by-number (below-found (own_passes names cell changed layer) (object_count names)
      (other_holds (passes cell changed layer Bare) (some_below (own_passes names cell changed layer)
      (object_count names)) some e))
] where
  by-number : Below (own_passes names cell changed layer) (object_count names) →
      list_any (is_claim_passing names cell changed layer) objects ≡ true
  by-number (number, within, h) = claim-of names cell changed layer objects claim number within h

claimed-back : (names : Names) (cell : CompiledCell) (changed : Bool) (layer : ℕ) (objects : List LayeredObject) →
    list_any (is_claim_passing names cell changed layer) objects ≡ true → some_value names cell changed layer ≡ true
claimed-back names cell changed layer objects any =
    by-found (found-in (is_claim_passing names cell changed layer) objects any) where
      by-found : Sought (is_claim_passing names cell changed layer) objects →
          some_value names cell changed layer ≡ true
      by-found (each, among, e) =
          let object : ObjectId = each.object in
          let own : Bool = nat_eq (layer_of names object) layer && object_passes cell changed layer object in
          let low : Bool = nat_lt object.0 (object_count names) in
          let parts = and_parts (lies_on layer each) (low && own) e in
          let rest = and_parts low own parts.1 in
          or_right (passes cell changed layer Bare)
          (some_below (own_passes names cell changed layer) (object_count names))
          (below-in (own_passes names cell changed layer) (object_count names) object.0
          (ltb-true object.0 (object_count names) rest.0) rest.1)

claimed : (names : Names) (cell : CompiledCell) (changed : Bool) (layer : ℕ) (objects : List LayeredObject) →
    IsClaim cell.mask layer objects →
    list_any (is_claim_passing names cell changed layer) objects ≡ some_value names cell changed layer
claimed names cell changed layer objects claim =
    same_tests (list_any (is_claim_passing names cell changed layer) objects) (some_value names cell changed layer)
    (claimed-back names cell changed layer objects) (claimed-forth names cell changed layer objects claim)

-- the parts of a mask that a value fits -------------------------------------------------------------------------------

fits-needed : (mask : CellMask) (layer : ℕ) (slot : Slot) → layer_fits mask layer slot ≡ true →
    list_all (has_needed layer slot) mask.needed ≡ true
fits-needed mask layer slot e =
    (and_parts (list_all (has_needed layer slot) mask.needed) _
    (and_parts (list_all (has_motion layer slot) mask.motions) _ e).1).0

fits-lists : (mask : CellMask) (layer : ℕ) (slot : Slot) → layer_fits mask layer slot ≡ true →
    list_all (has_one_of layer slot) mask.one_of ≡ true
fits-lists mask layer slot e =
    (and_parts (not (list_any (has_barred layer slot) mask.barred)) _
    (and_parts (list_all (has_needed layer slot) mask.needed) _
    (and_parts (list_all (has_motion layer slot) mask.motions) _ e).1).1).1

-- one of two, where the first is denied
unless-denied : (a b : Bool) → (not a || b) ≡ true → a ≡ true → b ≡ true
unless-denied a b any e = other_holds (not a) b any (ap not e)

-- needed objects are a claim, if one of them is of the layer
needed-claim : (mask : CellMask) (layer : ℕ) → list_any (lies_on layer) mask.needed ≡ true →
    IsClaim mask layer mask.needed
needed-claim mask layer some slot fits = by-found (found-in (lies_on layer) mask.needed some) where
  by-found : Sought (lies_on layer) mask.needed →
      list_any (λ each. lies_on layer each && slot_holds each.object slot) mask.needed ≡ true
  by-found (each, within, e) =
      any-in (λ each. lies_on layer each && slot_holds each.object slot) mask.needed each within
      (and_from (lies_on layer each) (slot_holds each.object slot) e
      (unless-denied (lies_on layer each) (slot_holds each.object slot)
      (at-place (λ object. has_needed layer slot object ≡ true) mask.needed each
      (all-true (has_needed layer slot) mask.needed (fits-needed mask layer slot fits)) within) e))

-- so is a list of which one is needed, if all of it are
list-claim : (mask : CellMask) (layer : ℕ) (objects : List LayeredObject) → Contains mask.one_of objects →
    list_all (lies_on layer) objects ≡ true → IsClaim mask layer objects
list-claim mask layer objects among own slot fits =
    by-found (found-in (λ each. slot_holds each.object slot) objects
    (unless-denied (list_all (lies_on layer) objects) (list_any (λ each. slot_holds each.object slot) objects)
    (at-place (λ list. has_one_of layer slot list ≡ true) mask.one_of objects
    (all-true (has_one_of layer slot) mask.one_of (fits-lists mask layer slot fits)) among) own)) where
      by-found : Sought (λ (each : LayeredObject). slot_holds each.object slot) objects →
          list_any (λ each. lies_on layer each && slot_holds each.object slot) objects ≡ true
      by-found (each, within, e) =
          any-in (λ each. lies_on layer each && slot_holds each.object slot) objects each within
          (and_from (lies_on layer each) (slot_holds each.object slot)
          (at-place (λ object. lies_on layer object ≡ true) objects each (all-true (lies_on layer) objects own) within)
          e)

-- the first of a list that passes is in it, and passes
first-is : {X : Type 0} (p : X → Bool) (y : X) (xs : List X) (x : X) (here : Bool) → p y ≡ here →
    cond here (Some y) (find p xs) ≡ Some x →
    (find p xs ≡ Some x → Contains xs x × (p x ≡ true)) → Contains (y ∷ xs) x × (p x ≡ true)
first-is p y xs x true h e rest = let same : y ≡ x = cc in ((0, omega arith, same), ap p (sym same) ∙ h)
first-is p y xs x false h e rest = one-behind (rest e) where
  one-behind : Contains xs x × (p x ≡ true) → Contains (y ∷ xs) x × (p x ≡ true)
  one-behind ((k, within, same), passes) = ((suc k, omega (arith, within), same), passes)

first-passes : {X : Type 0} (p : X → Bool) (xs : List X) (x : X) → find p xs ≡ Some x → Contains xs x × (p x ≡ true)
first-passes p [] x e = absurd (cc)
first-passes p (y ∷ xs) x e = first-is p y xs x (p y) refl e (first-passes p xs x)

pub some-needed : (names : Names) (cell : CompiledCell) (changed : Bool) (layer : ℕ) →
    list_any (lies_on layer) cell.mask.needed ≡ true →
    list_any (is_claim_passing names cell changed layer) cell.mask.needed ≡ some_value names cell changed layer
some-needed names cell changed layer some =
    claimed names cell changed layer cell.mask.needed (needed-claim cell.mask layer some)

pub some-listed : (names : Names) (cell : CompiledCell) (changed : Bool) (layer : ℕ) (some : Bool) →
    option_map (list_any (is_claim_passing names cell changed layer)) (find (list_all (lies_on layer)) cell.mask.one_of)
    ≡ Some some → some ≡ some_value names cell changed layer
some-listed names cell changed layer some e =
    by-first (find (list_all (lies_on layer)) cell.mask.one_of) refl e where
      by-first : (found : Option (List LayeredObject)) → find (list_all (lies_on layer)) cell.mask.one_of ≡ found →
          option_map (list_any (is_claim_passing names cell changed layer)) found ≡ Some some →
          some ≡ some_value names cell changed layer
      by-first None f h = absurd (cc)
      by-first (Some objects) f h =
          let first = first-passes (list_all (lies_on layer)) cell.mask.one_of objects f in
          let told : list_any (is_claim_passing names cell changed layer) objects ≡ some = some-told h in
          sym told
          ∙ claimed names cell changed layer objects (list-claim cell.mask layer objects first.0 first.1) where
            some-told : {a b : Bool} → Some a ≡ Some b → a ≡ b
            some-told e = cc

-- layers that a write has nothing for ---------------------------------------------------------------------------------

write_on-none : (layer : ℕ) (writes : List LayerWrite) →
    list_any (is_of layer) writes ≡ false → write_on layer writes ≡ None
write_on-none layer [] none = refl
write_on-none layer (write ∷ writes) none =
    let parts = or_parts (is_of layer write) (list_any (is_of layer) writes) none in
    ap (λ (b : Bool). cond b (Some write) (write_on layer writes)) parts.0 ∙ write_on-none layer writes parts.1

freed-same : (gone : List LayeredObject) (layer : ℕ) (slot : Slot) → list_any (lies_on layer) gone ≡ false →
    slot_freed gone layer slot ≡ slot
freed-same gone layer Bare none = refl
freed-same gone layer (Holds object motion) none =
    ap (λ (b : Bool). cond b Bare (Holds object motion))
    (any-fewer (λ (each : LayeredObject). nat_eq (each.layer).0 layer && same_object each.object object)
    (lies_on layer) gone (λ each h. (and_parts (lies_on layer each) (same_object each.object object) h).0) none)

untouched-same : (write : CellWrite) (layer : ℕ) (slot : Slot) → touches write layer ≡ false →
    value_written write layer slot ≡ slot
untouched-same write layer slot none =
    let parts = or_parts (list_any (lies_on layer) write.gone) (list_any (is_of layer) write.layers) none in
    ap₂ slot_written (write_on-none layer write.layers parts.1) (freed-same write.gone layer slot parts.0)

untouched-fails : (cell : CompiledCell) (layer : ℕ) (slot : Slot) → touches cell.write layer ≡ false →
    passes cell true layer slot ≡ false
untouched-fails cell layer slot none =
    and_right (layer_fits cell.mask layer slot) (not (same_slot (value_written cell.write layer slot) slot))
    (ap (λ (s : Slot). not (same_slot s slot)) (untouched-same cell.write layer slot none)
    ∙ ap not (same_slot-own slot))

-- where no value passes, none of the layer does
none-passes : (names : Names) (cell : CompiledCell) (changed : Bool) (layer : ℕ) →
    ((slot : Slot) → passes cell changed layer slot ≡ false) → some_value names cell changed layer ≡ false
none-passes names cell changed layer fails =
    or_from (passes cell changed layer Bare) (some_below (own_passes names cell changed layer) (object_count names))
    (fails Bare)
    (false_from_ne_true (some_below (own_passes names cell changed layer) (object_count names)) (λ some.
    by-number (below-found (own_passes names cell changed layer) (object_count names) some))) where
      by-motion : (object : ObjectId) →
          Sought (λ (motion : Motion). passes cell changed layer (Holds object motion)) motions → ⊥
      by-motion object (motion, among, e) =
          both_ways (passes cell changed layer (Holds object motion)) (fails (Holds object motion)) e

      by-number : Below (own_passes names cell changed layer) (object_count names) → ⊥
      by-number (number, within, e) =
          by-motion (numbered number) (found-in (λ motion. passes cell changed layer (Holds (numbered number) motion))
          motions
          (and_parts (nat_eq (layer_of names (numbered number)) layer)
          (object_passes cell changed layer (numbered number)) e).1)

untouched-none : (names : Names) (cell : CompiledCell) (layer : ℕ) → touches cell.write layer ≡ false →
    some_value names cell true layer ≡ false
untouched-none names cell layer none =
    none-passes names cell true layer (λ slot. untouched-fails cell layer slot none)

-- layers that are named -----------------------------------------------------------------------------------------------

-- an element whose layer is that one, tried as the layer is
named-in : {X : Type 0} (layer : X → ℕ) (test : ℕ → Bool) (xs : List X) (l : ℕ) →
    list_any (λ x. nat_eq (layer x) l) xs ≡ true → test l ≡ true → list_any (λ x. test (layer x)) xs ≡ true
named-in layer test xs l named h =
    any-more (λ x. nat_eq (layer x) l) (λ x. test (layer x)) xs
    (λ x e. ap test (eqb-true (layer x) l e) ∙ h) named

-- layers that a write names: where a value is changed, the write names the layer
changes-named : (names : Names) (cell : CompiledCell) → changes_where_named names cell ≡ true →
    some_below (some_value names cell true) names.layer_count ≡ true
changes-named names cell some = elim (cases_Bool (list_any (write_changes names cell) cell.write.layers)) [
  | inl e ↦ by-write (found-in (write_changes names cell) cell.write.layers e)
  | inr e ↦ by-gone (found-in (gone_changes names cell) cell.write.gone
      (other_holds (list_any (write_changes names cell) cell.write.layers)
      (list_any (gone_changes names cell) cell.write.gone) some e))
] where
  on-layer : (layer : ℕ) → changes_on names cell layer ≡ true →
      some_below (some_value names cell true) names.layer_count ≡ true
  on-layer layer e =
      let parts = and_parts (nat_lt layer names.layer_count) (some_value names cell true layer) e in
      below-in (some_value names cell true) names.layer_count layer (ltb-true layer names.layer_count parts.0) parts.1

  by-write : Sought (write_changes names cell) cell.write.layers →
      some_below (some_value names cell true) names.layer_count ≡ true
  by-write (each, among, e) = on-layer (each.layer).0 e

  by-gone : Sought (gone_changes names cell) cell.write.gone →
      some_below (some_value names cell true) names.layer_count ≡ true
  by-gone (each, among, e) = on-layer (each.layer).0 e

changes-back : (names : Names) (cell : CompiledCell) →
    some_below (some_value names cell true) names.layer_count ≡ true → changes_where_named names cell ≡ true
changes-back names cell some = by-layer (below-found (some_value names cell true) names.layer_count some) where
  by-layer : Below (some_value names cell true) names.layer_count → changes_where_named names cell ≡ true
  by-layer (layer, within, e) =
      let here : changes_on names cell layer ≡ true = and_from (nat_lt layer names.layer_count) _
      (lt-ltb layer names.layer_count within) e in
      elim (cases_Bool (touches cell.write layer)) [
        | inl touched ↦ elim (cases_Bool (list_any (lies_on layer) cell.write.gone)) [
          | inl gone ↦ or_right (list_any (write_changes names cell) cell.write.layers) _
              (named-in (λ (each : LayeredObject). (each.layer).0) (changes_on names cell) cell.write.gone layer gone
              here)
          | inr none ↦ or_left _ (list_any (gone_changes names cell) cell.write.gone)
              (named-in (λ (each : LayerWrite). (each.layer).0) (changes_on names cell) cell.write.layers layer
              (other_holds (list_any (lies_on layer) cell.write.gone) (list_any (is_of layer) cell.write.layers) touched
              none) here)
        ]
        | inr none ↦ absurd (both_ways (some_value names cell true layer) (untouched-none names cell layer none) e)
      ]

pub changes-as-named : (names : Names) (cell : CompiledCell) →
    changes_where_named names cell ≡ some_below (some_value names cell true) names.layer_count
changes-as-named names cell =
    same_tests (changes_where_named names cell) (some_below (some_value names cell true) names.layer_count)
    (changes-named names cell) (changes-back names cell)

-- a list without objects fits nothing
empty-fails : (cell : CompiledCell) (layer : ℕ) → Contains cell.mask.one_of [] → (slot : Slot) →
    passes cell false layer slot ≡ false
empty-fails cell layer among slot = false_from_ne_true (passes cell false layer slot) (λ e.
    impossible (at-place (λ list. has_one_of layer slot list ≡ true) cell.mask.one_of []
    (all-true (has_one_of layer slot) cell.mask.one_of
    (fits-lists cell.mask layer slot (passing-fits cell false layer slot e))) among))

-- layers that a mask names
fails-named : (names : Names) (cell : CompiledCell) → fails_where_named names cell ≡ true →
    some_below (λ layer. not (some_value names cell false layer)) names.layer_count ≡ true
fails-named names cell some = elim (cases_Bool (list_any (object_fails names cell) cell.mask.needed)) [
  | inl e ↦ by-object (found-in (object_fails names cell) cell.mask.needed e)
  | inr e ↦ by-rest (other_holds (list_any (object_fails names cell) cell.mask.needed)
      (list_any (list_fails names cell) cell.mask.one_of || list_any (test_fails names cell) cell.mask.motions) some e)
] where
  on-layer : (layer : ℕ) → fails_on names cell layer ≡ true →
      some_below (λ layer. not (some_value names cell false layer)) names.layer_count ≡ true
  on-layer layer e =
      let parts = and_parts (nat_lt layer names.layer_count) (not (some_value names cell false layer)) e in
      below-in (λ l. not (some_value names cell false l)) names.layer_count layer
      (ltb-true layer names.layer_count parts.0) parts.1

  by-object : Sought (object_fails names cell) cell.mask.needed →
      some_below (λ layer. not (some_value names cell false layer)) names.layer_count ≡ true
  by-object (each, among, e) = on-layer (each.layer).0 e

  by-test : Sought (test_fails names cell) cell.mask.motions →
      some_below (λ layer. not (some_value names cell false layer)) names.layer_count ≡ true
  by-test (each, among, e) = on-layer (each.layer).0
      (and_parts (not (list_any (lies_on (each.layer).0) cell.mask.needed)) (fails_on names cell (each.layer).0) e).1

  by-list : (objects : List LayeredObject) → Contains cell.mask.one_of objects →
      list_fails names cell objects ≡ true →
      some_below (λ layer. not (some_value names cell false layer)) names.layer_count ≡ true
  by-list [] among e = on-layer 0 (and_from (nat_lt 0 names.layer_count) _ e
      (ap not (none-passes names cell false 0 (empty-fails cell 0 among))))
  by-list (first ∷ rest) among e = on-layer (first.layer).0 e

  by-lists : Sought (list_fails names cell) cell.mask.one_of →
      some_below (λ layer. not (some_value names cell false layer)) names.layer_count ≡ true
  by-lists (objects, among, e) = by-list objects among e

  by-rest : (list_any (list_fails names cell) cell.mask.one_of || list_any (test_fails names cell) cell.mask.motions)
      ≡ true → some_below (λ layer. not (some_value names cell false layer)) names.layer_count ≡ true
  by-rest any = elim (cases_Bool (list_any (list_fails names cell) cell.mask.one_of)) [
    | inl e ↦ by-lists (found-in (list_fails names cell) cell.mask.one_of e)
    | inr e ↦ by-test (found-in (test_fails names cell) cell.mask.motions
        (other_holds (list_any (list_fails names cell) cell.mask.one_of)
        (list_any (test_fails names cell) cell.mask.motions) any e))
  ]

-- a layer that the mask doesn't name may be bare
all-by : {X : Type 0} (p q : X → Bool) (xs : List X) → ((x : X) → q x ≡ false → p x ≡ true) → list_any q xs ≡ false →
    list_all p xs ≡ true
all-by p q [] so none = refl
all-by p q (x ∷ xs) so none =
    let parts = or_parts (q x) (list_any q xs) none in
    and_from (p x) (list_all p xs) (so x parts.0) (all-by p q xs so parts.1)

-- one of two, where the first fails
unless-so : (a b : Bool) → a ≡ false → (not a || b) ≡ true
unless-so a b e = or_left (not a) b (ap not e)

-- none of a list of objects of one layer stands where nothing does
bare-fits : (mask : CellMask) (layer : ℕ) → list_any (lies_on layer) mask.needed ≡ false →
    list_any (list_all (lies_on layer)) mask.one_of ≡ false → list_any (asks_of layer) mask.motions ≡ false →
    layer_fits mask layer Bare ≡ true
bare-fits mask layer needed lists motions =
    and_from (list_all (has_motion layer Bare) mask.motions) _
    (all-by (has_motion layer Bare) (asks_of layer) mask.motions
    (λ test e. unless-so (asks_of layer test) _ e) motions)
    (and_from (list_all (has_needed layer Bare) mask.needed) _
    (all-by (has_needed layer Bare) (lies_on layer) mask.needed
    (λ each e. unless-so (lies_on layer each) _ e) needed)
    (and_from (not (list_any (has_barred layer Bare) mask.barred)) _
    (ap not (none-barred mask.barred))
    (all-by (has_one_of layer Bare) (list_all (lies_on layer)) mask.one_of
    (λ objects e. unless-so (list_all (lies_on layer) objects) _ e) lists))) where
      none-barred : (barred : List LayeredObject) → list_any (has_barred layer Bare) barred ≡ false
      none-barred [] = refl
      none-barred (each ∷ barred) =
          or_from (has_barred layer Bare each) (list_any (has_barred layer Bare) barred)
          (and_right (lies_on layer each) false refl) (none-barred barred)

fails-back : (names : Names) (cell : CompiledCell) →
    some_below (λ layer. not (some_value names cell false layer)) names.layer_count ≡ true →
    fails_where_named names cell ≡ true
fails-back names cell some =
    by-layer (below-found (λ layer. not (some_value names cell false layer)) names.layer_count some) where
      first-of : (layer : ℕ) → fails_on names cell layer ≡ true → layer < names.layer_count →
          (objects : List LayeredObject) → list_all (lies_on layer) objects ≡ true →
          list_fails names cell objects ≡ true
      first-of layer here within [] own = lt-ltb 0 names.layer_count (omega (arith, within))
      first-of layer here within (first ∷ rest) own =
          ap (fails_on names cell)
          (eqb-true (first.layer).0 layer (and_parts (lies_on layer first) (list_all (lies_on layer) rest) own).0) ∙ here

      by-layer : Below (λ layer. not (some_value names cell false layer)) names.layer_count →
          fails_where_named names cell ≡ true
      by-layer (layer, within, e) =
          let here : fails_on names cell layer ≡ true = and_from (nat_lt layer names.layer_count) _
          (lt-ltb layer names.layer_count within) e in
          elim (cases_Bool (list_any (lies_on layer) cell.mask.needed)) [
            | inl some ↦ or_left _ _ (named-in (λ (each : LayeredObject). (each.layer).0) (fails_on names cell)
                cell.mask.needed layer some here)
            | inr no_object ↦ or_right (list_any (object_fails names cell) cell.mask.needed) _
                (elim (cases_Bool (list_any (list_all (lies_on layer)) cell.mask.one_of)) [
                  | inl some ↦ or_left _ (list_any (test_fails names cell) cell.mask.motions)
                      (any-more (list_all (lies_on layer)) (list_fails names cell) cell.mask.one_of
                      (first-of layer here within) some)
                  | inr no_list ↦ or_right (list_any (list_fails names cell) cell.mask.one_of) _
                      (elim (cases_Bool (list_any (asks_of layer) cell.mask.motions)) [
                        | inl some ↦ any-more (asks_of layer) (test_fails names cell) cell.mask.motions
                            (λ test asked. and_from (not (list_any (lies_on (test.layer).0) cell.mask.needed)) _
                            (ap not (ap (λ (l : ℕ). list_any (lies_on l) cell.mask.needed)
                            (eqb-true (test.layer).0 layer asked) ∙ no_object))
                            (ap (fails_on names cell) (eqb-true (test.layer).0 layer asked) ∙ here)) some
                        | inr no_test ↦ absurd (both_ways (some_value names cell false layer)
                            (not-true (some_value names cell false layer) e)
                            (or_left (passes cell false layer Bare) _
                            (and_from (layer_fits cell.mask layer Bare) true
                            (bare-fits cell.mask layer no_object no_list no_test) refl)))
                      ])
                ])
          ]

pub fails-as-named : (names : Names) (cell : CompiledCell) →
    fails_where_named names cell ≡ some_below (λ layer. not (some_value names cell false layer)) names.layer_count
fails-as-named names cell =
    same_tests (fails_where_named names cell)
    (some_below (λ layer. not (some_value names cell false layer)) names.layer_count)
    (fails-named names cell) (fails-back names cell)
