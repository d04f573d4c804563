-- How often an object stands on a layer, in a grid whose slots were changed.
use Rattle.std.proofs.Common.{◌≡◌, ◌≢◌, ℕ, ◌+◌, ◌<◌, Bool, List, [], ◌∷◌, length, map, get_or, refl, sym, ◌∙◌, ap}
use Rattle.std.proofs.Common.{arith, cond, count_by}
use Rattle.std.specs.Prelude.{slice_set}
use Rattle.std.proofs.Math.ListN.{get_or-map}
use Rattle.std.proofs.lemmas.List.{get_or-set_same, get_or-set_other}
use Rattle.std.proofs.lemmas.List.Sums.{sum_by-set, sum_by-cons}
use Rattle.ps_model.specs.declared.pieces.ObjectId.{ObjectId}
use Rattle.ps_model.specs.declared.pieces.Slot.{Slot}
use Rattle.ps_model.specs.declared.pieces.Slot.TheVariants.{Bare, Holds}
use Rattle.ps_model.specs.board.Grid.{Grid, IsGrid, IsPlace, cell_at, slot_at, with_slot, slot_at_rest, at_rest}
use Rattle.ps_model.specs.board.WeakMovement.{holds_object, count_of}
use Rattle.ps_laws.proofs.common.Slots.{cell_long}

-- one, if the test holds
abbrev pub one_if : Bool → ℕ
one_if holds = cond holds 1 0

-- one element changed
pub count_by-set : {X : Type 0} (p : X → Bool) (xs : List X) (i : ℕ) (y d : X) → i < length xs →
    count_by p (slice_set xs i y) + one_if (p (get_or xs i d)) ≡ count_by p xs + one_if (p y)
count_by-set p xs i y d h = sum_by-set (λ x. cond (p x) 1 0) xs i y d h

-- how many slots of a layer pass a test
abbrev pub count_on : (Slot → Bool) → Grid → ℕ → ℕ
count_on test g layer = count_by (λ cell. test (get_or cell layer Bare)) g.cells

-- one slot changed, counted on its own layer
pub count_on-with_same : (test : Slot → Bool) (g : Grid) (cell layer : ℕ) (slot : Slot) → IsGrid g →
    IsPlace g cell layer →
    count_on test (with_slot g cell layer slot) layer + one_if (test (slot_at g cell layer)) ≡ count_on test g layer +
    one_if (test slot)
count_on-with_same test g cell layer slot shape place =
    let within : cell < length g.cells = rw shape.cells place.0 in
    let p : List Slot → Bool = λ c. test (get_or c layer Bare) in
    let e = count_by-set p g.cells cell (slice_set (cell_at g cell) layer slot) [] within in
    let s : get_or (slice_set (cell_at g cell) layer slot) layer Bare ≡ slot =
    get_or-set_same (cell_at g cell) layer slot Bare (cell_long g cell layer shape place) in
    e ∙ ap (λ (x : Slot). count_on test g layer + one_if (test x)) s

-- one slot changed, counted on another layer
pub count_on-with_other : (test : Slot → Bool) (g : Grid) (cell layer l : ℕ) (slot : Slot) → IsGrid g →
    IsPlace g cell layer → l ≢ layer →
    count_on test (with_slot g cell layer slot) l ≡ count_on test g l
count_on-with_other test g cell layer l slot shape place apart =
    let within : cell < length g.cells = rw shape.cells place.0 in
    let p : List Slot → Bool = λ c. test (get_or c l Bare) in
    let e = count_by-set p g.cells cell (slice_set (cell_at g cell) layer slot) [] within in
    let s : get_or (slice_set (cell_at g cell) layer slot) l Bare ≡ get_or (cell_at g cell) l Bare =
    get_or-set_other (cell_at g cell) layer l slot Bare apart in
    let f : one_if (p (slice_set (cell_at g cell) layer slot)) ≡ one_if (p (cell_at g cell)) =
    ap (λ (x : Slot). one_if (test x)) s in
    omega arith

-- rest keeps a slot's object
pub holds_object-at_rest : (object : ObjectId) (slot : Slot) →
    holds_object object (slot_at_rest slot) ≡ holds_object object slot
holds_object-at_rest object Bare = refl
holds_object-at_rest object (Holds held motion) = refl

count_at_rest : (cells : List (List Slot)) (layer : ℕ) (object : ObjectId) →
    count_by (λ cell. holds_object object (get_or cell layer Bare)) (map (map slot_at_rest) cells) ≡ count_by (λ cell.
    holds_object object (get_or cell layer Bare)) cells
count_at_rest [] layer object = refl
count_at_rest (cell ∷ cells) layer object =
    let p : List Slot → Bool = λ c. holds_object object (get_or c layer Bare) in
    let same : p (map slot_at_rest cell) ≡ p cell =
    ap (holds_object object) (get_or-map slot_at_rest cell layer Bare)
    ∙ holds_object-at_rest object (get_or cell layer Bare) in
    let one : one_if (p (map slot_at_rest cell)) ≡ one_if (p cell) = ap one_if same in
    sum_by-cons (λ c. one_if (p c)) (map slot_at_rest cell) (map (map slot_at_rest) cells)
    ∙ ap (λ (n : ℕ). n + count_by p (map (map slot_at_rest) cells)) one
    ∙ ap (λ (n : ℕ). one_if (p cell) + n) (count_at_rest cells layer object)
    ∙ sym (sum_by-cons (λ c. one_if (p c)) cell cells)

-- rest keeps each object
pub count_of-at_rest : (g : Grid) (layer : ℕ) (object : ObjectId) →
    count_of (at_rest g) layer object ≡ count_of g layer object
count_of-at_rest g layer object = count_at_rest g.cells layer object
