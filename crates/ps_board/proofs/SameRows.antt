-- Cells with the same slots have on each layer the same object.
use Rattle.std.proofs.Common.{◌≡◌, ◌&&◌, ℕ, ◌+◌, ◌*◌, ◌-◌, ◌<◌, ◌≤◌, zero, suc, true, List, [], ◌∷◌, take, drop, get_or}
use Rattle.std.proofs.Common.{Option, None, Some, map, refl, ap, ap₂, ◌∙◌, arith}
use Rattle.std.specs.Simd.{first_chunks}
use Rattle.std.proofs.lemmas.Bool.{and_parts, eqb-true, false≢true}
use Rattle.std.proofs.lemmas.List.{drop-drop}
use Rattle.std.proofs.lemmas.Nat.{mul-add-lt}
use Rattle.ps_model.specs.declared.pieces.ObjectId.{ObjectId}
use Rattle.ps_model.specs.declared.pieces.Slot.{Slot}
use Rattle.ps_model.specs.declared.pieces.Slot.TheVariants.{Bare, Holds}
use Rattle.ps_model.specs.board.Attempts.{same_cell}
use Rattle.ps_model.specs.board.Grid.{object_in}
use Rattle.ps_model.specs.meaning.Fitting.{same_motion}
use Rattle.ps_model.specs.names.Names.{same_object}

-- an object by its number
abbrev object_of : ℕ → ObjectId
object_of number = record { 0 = number }

-- the same slots hold the same objects, layer by layer
pub same_objects : (first second : List Slot) → same_cell first second ≡ true →
    map object_in first ≡ map object_in second
same_objects [] [] h = refl
same_objects [] (y ∷ ys) h = absurd (false≢true h)
same_objects (x ∷ xs) [] h = absurd (false≢true h)
same_objects (Bare ∷ xs) (Bare ∷ ys) h = ap (λ (os : List (Option ObjectId)). None ∷ os) (same_objects xs ys h)
same_objects (Bare ∷ xs) (Holds object motion ∷ ys) h = absurd (false≢true h)
same_objects (Holds object motion ∷ xs) (Bare ∷ ys) h = absurd (false≢true h)
same_objects (Holds object motion ∷ xs) (Holds other moving ∷ ys) h =
    let parts = and_parts (same_object object other && same_motion motion moving) (same_cell xs ys) h in
    let heads = and_parts (same_object object other) (same_motion motion moving) parts.0 in
    ap₂ (λ (o : ObjectId) (os : List (Option ObjectId)).
    Some o ∷ os) (ap object_of (eqb-true object.0 other.0 heads.0)) (same_objects xs ys parts.1)

-- the slots of a cell in the flat list
pub chunk_at : {X : Type 0} (n k i : ℕ) (xs d : List X) → i < k →
    get_or (first_chunks n k xs) i d ≡ take n (drop (i * n) xs)
chunk_at n zero i xs d h = absurd (omega arith)
chunk_at n (suc k) zero xs d h = let z : 0 * n ≡ 0 = omega arith in rw z refl
chunk_at n (suc k) (suc i) xs d h =
    let m : n + i * n ≡ suc i * n = omega arith in
    chunk_at n k i (drop n xs) d (omega arith) ∙ ap (take n) (drop-drop (i * n) n xs ∙ ap (λ (m : ℕ). drop m xs) m)

-- the cell's slots lie within the list
pub cell_within : (n k i start long : ℕ) → 0 < n → i < k → start ≡ i * n + 0 → long ≡ k * n → start + n ≤ long
cell_within n k i start long some h e f =
    let below = mul-add-lt i n (n - 1) k h (omega arith) in omega arith
