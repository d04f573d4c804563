-- The layers that the code finds, one line after the other, are the last ones that name each object.
use Rattle.std.proofs.Common.{◌≡◌, ℕ, suc, ◌+◌, ◌<◌, Bool, true, false, List, [], ◌∷◌, ◌++◌, map, length, get_or}
use Rattle.std.proofs.Common.{replicate, refl, sym, ap, ◌∙◌, Option, Some, None, arith, ◌||◌}
use Rattle.std.specs.Prelude.{nat_eq, slice_set, if◌then◌else◌, filter}
use Rattle.std.specs.List.{range_with_len, last_or, enumerate_from}
use Rattle.std.proofs.lemmas.List.{same_lists, get_or-set_same, get_or-set_other, length-set, length-replicate}
use Rattle.std.proofs.lemmas.List.{get_or-replicate}
use Rattle.std.proofs.lemmas.List.FromFn.{length-map-range_with_len, get_or-map-range_with_len}
use Rattle.std.proofs.lemmas.Bool.Decides.{nat_tests}
use Rattle.ps_model.specs.declared.pieces.ObjectId.{ObjectId}
use Rattle.ps_model.specs.names.Names.{is_among}
use Rattle.ps_model.specs.names.LayerLines.{last_among, Layer, objects_of_layer, layers_found}
use Rattle.ps_laws.proofs.common.SameThings.{object_of}
use Rattle.ps_names.specs.LayersShown.{placed, placed_each}

length-placed : (layer : ℕ) (places : List (Option ℕ)) (objects : List ObjectId) →
    length (placed layer places objects) ≡ length places
length-placed layer places [] = refl
length-placed layer places (object ∷ objects) = length-placed layer (slice_set places object.0 (Some layer)) objects
    ∙ length-set places object.0 (Some layer)

length-placed_each : (number : ℕ) (places : List (Option ℕ)) (lists : List (List ObjectId)) →
    length (placed_each number places lists) ≡ length places
length-placed_each number places [] = refl
length-placed_each number places (objects ∷ lists) =
    length-placed_each (suc number) (placed number places objects) lists ∙ length-placed number places objects

set_or : (layer k at : ℕ) (places : List (Option ℕ)) (d : Option ℕ) (same : Bool) (later : Bool) → nat_eq k at ≡ same →
    k < length places
    → (if later then Some layer else get_or (slice_set places at (Some layer)) k d) ≡
    (if same || later then Some layer else get_or places k d)
set_or layer k at places d true true q less = refl
set_or layer k at places d true false q less =
    let e : k ≡ at = grind (arith, nat_tests) in
    rw (← e) (get_or-set_same places k (Some layer) d less)
set_or layer k at places d false true q less = refl
set_or layer k at places d false false q less = get_or-set_other places at k (Some layer) d (grind (arith, nat_tests))

placed-at : (layer : ℕ) (places : List (Option ℕ)) (objects : List ObjectId) (k : ℕ) (d : Option ℕ) → k < length places
    → get_or (placed layer places objects) k d ≡
    (if is_among objects (object_of k) then Some layer else get_or places k d)
placed-at layer places [] k d less = refl
placed-at layer places (object ∷ objects) k d less =
    placed-at layer (slice_set places object.0 (Some layer)) objects k d (rw length-set less)
    ∙ set_or layer k object.0 places d (nat_eq k object.0) (is_among objects (object_of k)) refl less

-- the numbers of the lists that have an object, from a number on
abbrev places_from : ℕ → List (List ObjectId) → ObjectId → List ℕ
places_from number lists object = map (λ numbered.
    numbered.0) (filter (λ numbered. is_among numbered.1 object) (enumerate_from number lists))

last-step : (number : ℕ) (before : Option ℕ) (objects : List ObjectId) (lists : List (List ObjectId))
    (object : ObjectId) (b : Bool) → is_among objects object ≡ b
    → last_or (if b then Some number else before) (places_from (suc number) lists object) ≡ last_or before
    (places_from number (objects ∷ lists) object)
last-step number before objects lists object true e = let one : number + 1 ≡ suc number = omega arith in
    rw (e, one) refl
last-step number before objects lists object false e = let one : number + 1 ≡ suc number = omega arith in
    rw (e, one) refl

placed_each-at : (number : ℕ) (places : List (Option ℕ)) (lists : List (List ObjectId)) (k : ℕ) (d : Option ℕ) →
    k < length places
    → get_or (placed_each number places lists) k d ≡ last_or (get_or places k d)
    (places_from number lists (object_of k))
placed_each-at number places [] k d less = refl
placed_each-at number places (objects ∷ lists) k d less =
    placed_each-at (suc number) (placed number places objects) lists k d (rw length-placed less)
    ∙ ap (λ before. last_or before (places_from (suc number) lists (object_of k)))
    (placed-at number places objects k d less)
    ∙ last-step number (get_or places k d) objects lists (object_of k) _ refl

-- the layers of all objects
pub layers-placed : (count : ℕ) (layers : List Layer) →
    placed_each 0 (replicate count None) (map objects_of_layer layers) ≡ layers_found count layers
layers-placed count layers =
    let lists : List (List ObjectId) = map objects_of_layer layers in
    let layer : ℕ → Option ℕ = λ number. last_among lists (object_of number) in
    let long : length (placed_each 0 (replicate count None) lists) ≡ count =
    length-placed_each 0 (replicate count None) lists ∙ length-replicate count None in
    same_lists (placed_each 0 (replicate count None) lists) (map layer (range_with_len 0 count)) (long
    ∙ sym (length-map-range_with_len layer 0 count))
    (λ k d less.
    let within : k < count = omega (arith, long) in
    placed_each-at 0 (replicate count None) lists k d (rw length-replicate within)
    ∙ ap (λ before. last_or before (places_from 0 lists (object_of k))) (get_or-replicate count k None d within)
    ∙ sym (get_or-map-range_with_len layer 0 count k k d within (omega arith)))

pub placed-append : (layer : ℕ) (places : List (Option ℕ)) (xs ys : List ObjectId) →
    placed layer places (xs ++ ys) ≡ placed layer (placed layer places xs) ys
placed-append layer places [] ys = refl
placed-append layer places (object ∷ xs) ys = placed-append layer (slice_set places object.0 (Some layer)) xs ys
