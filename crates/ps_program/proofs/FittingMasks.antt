-- What fits a mask: what is listed among what it needs is held there, and what is listed among what it bars isn't.
use Rattle.std.proofs.Common.{◌≡◌, ℕ, suc, Bool, true, false, ◌&&◌, ◌||◌, not, List, [], ◌∷◌, refl, subst, ap₂, ◌∙◌}
use Rattle.std.proofs.Common.{arith}
use Rattle.std.specs.Prelude.{All, nat_eq, slice_index_or}
use Rattle.std.specs.List.{list_all, list_any, Contains}
use Rattle.std.proofs.lemmas.Bool.{eqb-true, and_parts, or_parts, not-true}
use Rattle.std.proofs.lemmas.List.Elements.{All-nil, All-cons}
use Rattle.ps_model.specs.declared.pieces.ObjectId.{ObjectId}
use Rattle.ps_model.specs.declared.pieces.Slot.{Slot}
use Rattle.ps_model.specs.declared.pieces.Slot.TheVariants.{Bare}
use Rattle.ps_model.specs.declared.compiled.LayeredObject.{LayeredObject}
use Rattle.ps_model.specs.names.Names.{same_object}
use Rattle.ps_model.specs.meaning.Compiled.{CellMask, slot_holds, is_held_in, moves_as_asked, mask_fits}
use Rattle.ps_laws.proofs.common.SameThings.{same_object-true}
use Rattle.ps_program.specs.Leaving.{same_layered, is_listed}

-- tests ---------------------------------------------------------------------------------------------------------------

-- what passes the test of all
pub all-true : {X : Type 0} (test : X → Bool) (xs : List X) → list_all test xs ≡ true → All (λ x. test x ≡ true) xs
all-true test [] e = All-nil (λ x. test x ≡ true)
all-true test (x ∷ xs) e = All-cons (λ x. test x ≡ true) x xs (and_parts (test x) (list_all test xs) e).0
    (all-true test xs (and_parts (test x) (list_all test xs) e).1)

-- the element that passes a test
abbrev pub Sought : {X : Type 0} → (X → Bool) → List X → Type 0
Sought {X} test xs = (x : X) × Contains xs x × (test x ≡ true)

found-behind : {X : Type 0} (test : X → Bool) (y : X) (xs : List X) → Sought test xs → Sought test (y ∷ xs)
found-behind test y xs (x, (k, within, e), h) = (x, (suc k, omega (arith, within), e), h)

found-here : {X : Type 0} (test : X → Bool) (x : X) (xs : List X) (here : Bool) → test x ≡ here →
    (here || list_any test xs) ≡ true → (list_any test xs ≡ true → Sought test xs) → Sought test (x ∷ xs)
found-here test x xs true e any rest = (x, (0, omega arith, refl), e)
found-here test x xs false e any rest = found-behind test x xs (rest any)

pub found-in : {X : Type 0} (test : X → Bool) (xs : List X) → list_any test xs ≡ true → Sought test xs
found-in test [] e = absurd (cc)
found-in test (x ∷ xs) e = found-here test x xs (test x) refl e (found-in test xs)

pub at-place : {X : Type 0} (P : X → Type 0) (xs : List X) (x : X) → All P xs → Contains xs x → P x
at-place P xs x all (k, within, e) = subst P e (all k x within)

-- what is held --------------------------------------------------------------------------------------------------------

-- two that are one are held alike
pub held-alike : (cell : List Slot) (first second : LayeredObject) → same_layered first second ≡ true →
    is_held_in cell first ≡ is_held_in cell second
held-alike cell first second e =
    let parts = and_parts (nat_eq (first.layer).0 (second.layer).0) (same_object first.object second.object) e in
    ap₂ (λ (object : ObjectId) (layer : ℕ). slot_holds object (slice_index_or cell layer Bare))
    (same_object-true first.object second.object parts.1) (eqb-true (first.layer).0 (second.layer).0 parts.0)

denied-by : (cell : List Slot) (barred : List LayeredObject) (sought other : LayeredObject) (same : Bool) →
    same_layered sought other ≡ same → is_held_in cell other ≡ false →
    (is_listed barred sought ≡ true → is_held_in cell sought ≡ false) → (same || is_listed barred sought) ≡ true →
    is_held_in cell sought ≡ false
denied-by cell barred sought other true e denied rest listed = held-alike cell sought other e ∙ denied
denied-by cell barred sought other false e denied rest listed = rest listed

-- what is listed among what isn't held isn't held
pub listed-denied : (cell : List Slot) (barred : List LayeredObject) (sought : LayeredObject) →
    list_any (is_held_in cell) barred ≡ false → is_listed barred sought ≡ true → is_held_in cell sought ≡ false
listed-denied cell [] sought none listed = absurd (cc)
listed-denied cell (other ∷ barred) sought none listed =
    let parts = or_parts (is_held_in cell other) (list_any (is_held_in cell) barred) none in
    denied-by cell barred sought other (same_layered sought other) refl parts.0
    (listed-denied cell barred sought parts.1) listed

-- what is listed among what is held is held
pub listed-held : (cell : List Slot) (needed : List LayeredObject) (sought : LayeredObject) →
    list_all (is_held_in cell) needed ≡ true → is_listed needed sought ≡ true → is_held_in cell sought ≡ true
listed-held cell needed sought all listed = by-found (found-in (same_layered sought) needed listed) where
  by-found : Sought (same_layered sought) needed → is_held_in cell sought ≡ true
  by-found (other, within, e) = held-alike cell sought other e
      ∙ at-place (λ object. is_held_in cell object ≡ true) needed other (all-true (is_held_in cell) needed all) within

-- what fits a mask
pub record Fit (mask : CellMask) (cell : List Slot) : Type 0 where
  pub needed : list_all (is_held_in cell) mask.needed ≡ true
  pub barred : list_any (is_held_in cell) mask.barred ≡ false
  pub one_of : list_all (λ objects. list_any (is_held_in cell) objects) mask.one_of ≡ true
  pub motions : list_all (moves_as_asked cell) mask.motions ≡ true

pub fit : (mask : CellMask) (cell : List Slot) → mask_fits mask cell ≡ true → Fit mask cell
fit mask cell e =
    let needed : Bool = list_all (is_held_in cell) mask.needed in
    let barred : Bool = list_any (is_held_in cell) mask.barred in
    let one_of : Bool = list_all (λ objects. list_any (is_held_in cell) objects) mask.one_of in
    let motions : Bool = list_all (moves_as_asked cell) mask.motions in
    let first = and_parts needed (not barred && (one_of && motions)) e in
    let second = and_parts (not barred) (one_of && motions) first.1 in
    let third = and_parts one_of motions second.1 in
    record { needed = first.0; barred = not-true barred second.0; one_of = third.0; motions = third.1 }
