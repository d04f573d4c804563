-- The ground of a level.
use Rattle.std.proofs.Common.{◌≡◌, ℕ, ◌+◌, ◌<◌, Bool, true, false, cond, ◌||◌, List, [], ◌∷◌, ◌++◌, length, Option}
use Rattle.std.proofs.Common.{None, Some, refl, sym, ap, ◌∙◌, arith}
use Rattle.std.specs.Prelude.{find, is_some, if◌then◌else◌}
use Rattle.std.specs.List.{list_any}
use Rattle.std.proofs.Common.{suc, get_or, drop}
use Rattle.std.specs.Prelude.{unwrap_or, slice_index_or}
use Rattle.std.specs.Option.{option_or}
use Rattle.std.specs.List.{flat_map}
use Rattle.std.specs.Borrow.{Bor}
use Rattle.std.proofs.Common.{map, take, ◌≤◌}
use Rattle.std.specs.Prelude.{nat_eq}
use Rattle.std.proofs.Math.Seq.{drop-cons, take-suc}
use Rattle.std.proofs.lemmas.Grind.{common_steps}
use Rattle.std.proofs.lemmas.List.{map-append}
use Rattle.ps_model.specs.names.Names.{layer_of, backgrounds}
use Rattle.ps_model.specs.board.Levels.{ground, grounded}
use Rattle.std.proofs.lemmas.List.Folds.{find-append}
use Rattle.ps_levels.specs.Cells.{cells_shown}
use Rattle.ps_model.specs.declared.pieces.ObjectId.{ObjectId}
use Rattle.ps_model.specs.names.Names.{Names}
use Rattle.ps_model.specs.board.Levels.{is_ground, with_ground}

any_by : {X : Type 0} (x : X) (b : Bool) (found : Option X) (rest : Bool) → rest ≡ is_some found →
    (b || rest) ≡ is_some (cond b (Some x) found)
any_by x true found rest e = refl
any_by x false found rest e = e

pub any_is_found : {X : Type 0} (f : X → Bool) (xs : List X) → list_any f xs ≡ is_some (find f xs)
any_is_found f [] = refl
any_is_found f (x ∷ xs) = any_by x (f x) (find f xs) (list_any f xs) (any_is_found f xs)

pub has_ground : (names : Names) (filler : ObjectId) (objects : List ObjectId) →
    is_some (find (is_ground names) objects) ≡ true → with_ground names filler objects ≡ objects
has_ground names filler objects e = ap (λ (b : Bool).
    if b then objects else objects ++ filler ∷ []) (any_is_found (is_ground names) objects ∙ e)

pub lacks_ground : (names : Names) (filler : ObjectId) (objects : List ObjectId) →
    is_some (find (is_ground names) objects) ≡ false → with_ground names filler objects ≡ objects ++ filler ∷ []
lacks_ground names filler objects e = ap (λ (b : Bool).
    if b then objects else objects ++ filler ∷ []) (any_is_found (is_ground names) objects ∙ e)

-- the objects of the cells from one on
pub from_cell : (f : ObjectId → Bool) (cells : List (Bor (List ObjectId))) (i : ℕ) (d : Bor (List ObjectId)) →
    i < length cells →
    find f (flat_map (λ objects. objects) (cells_shown (drop i cells))) ≡ option_or (find f (get_or cells i d).now)
    (find f (flat_map (λ objects. objects) (cells_shown (drop (i + 1) cells))))
from_cell f cells i d h =
    let more : i + 1 ≡ suc i = omega arith in
    let first : drop i cells ≡ get_or cells i d ∷ drop (i + 1) cells = rw more (drop-cons cells i d h) in
    ap (λ (rest : List (Bor (List ObjectId))). find f (flat_map (λ objects. objects) (cells_shown rest))) first
    ∙ find-append f (get_or cells i d).now (flat_map (λ objects. objects) (cells_shown (drop (i + 1) cells)))

pub first_here : (f : ObjectId → Bool) (cells : List (Bor (List ObjectId))) (i : ℕ) (d : Bor (List ObjectId))
    (object other : ObjectId) → i < length cells → find f (get_or cells i d).now ≡ Some object →
    unwrap_or (find f (flat_map (λ objects. objects) (cells_shown (drop i cells)))) other ≡ object
first_here f cells i d object other h e =
    ap (λ (found : Option ObjectId). unwrap_or found other) (from_cell f cells i d h)
    ∙ ap (λ (found : Option ObjectId). unwrap_or
    (option_or found (find f (flat_map (λ objects. objects) (cells_shown (drop (i + 1) cells))))) other) e

pub none_here : (f : ObjectId → Bool) (cells : List (Bor (List ObjectId))) (i : ℕ) (d : Bor (List ObjectId)) →
    i < length cells → find f (get_or cells i d).now ≡ None →
    find f (flat_map (λ objects. objects) (cells_shown (drop i cells))) ≡ find f
    (flat_map (λ objects. objects) (cells_shown (drop (i + 1) cells)))
none_here f cells i d h e = from_cell f cells i d h
    ∙ ap (λ (found : Option ObjectId). option_or found
    (find f (flat_map (λ objects. objects) (cells_shown (drop (i + 1) cells))))) e

-- a cell more
pub grown : (g : List ObjectId → List ObjectId) (cells : List (Bor (List ObjectId))) (i : ℕ) (d : Bor (List ObjectId))
    (made next : List (List ObjectId)) (item : List ObjectId) → i < length cells →
    made ≡ map g (cells_shown (take i cells)) → next ≡ made ++ item ∷ [] → item ≡ g (get_or cells i d).now →
    next ≡ map g (cells_shown (take (i + 1) cells))
grown g cells i d made next item h m n e =
    let more : i + 1 ≡ suc i = omega arith in
    let last : take (i + 1) cells ≡ take i cells ++ get_or cells i d ∷ [] = rw more (take-suc cells i d h) in
    let shown : cells_shown (take i cells ++ get_or cells i d ∷ []) ≡ cells_shown (take i cells) ++
    (get_or cells i d).now ∷ [] = map-append (λ (cell : Bor (List ObjectId)).
    cell.now) (take i cells) (get_or cells i d ∷ []) in
    n ∙ ap (λ (items : List (List ObjectId)). items ++ item ∷ []) m
    ∙ ap (λ (last : List ObjectId). map g (cells_shown (take i cells)) ++ last ∷ []) e
    ∙ sym (ap (λ (items : List (Bor (List ObjectId))). map g (cells_shown items)) last ∙ ap (map g) shown
    ∙ map-append g (cells_shown (take i cells)) ((get_or cells i d).now ∷ []))

taken : (cells : List (Bor (List ObjectId))) (n : ℕ) → length cells ≤ n → take n cells ≡ cells
taken cells n h = grind (arith, common_steps)

filler_is : (names : Names) (cells : List (List ObjectId)) (background filler : ObjectId) (layer : ℕ) →
    background ≡ slice_index_or (backgrounds names) 0 (let o : ObjectId = record { 0 = 0 } in o) →
    layer ≡ layer_of names background →
    filler ≡ unwrap_or (find (λ object. nat_eq (layer_of names object) layer) (flat_map (λ objects. objects) cells))
    background → filler ≡ ground names cells
filler_is names cells background filler layer b l f =
    f ∙ ap (λ (n : ℕ). unwrap_or (find (λ object.
    nat_eq (layer_of names object) n) (flat_map (λ objects. objects) cells)) background) (l ∙ ap (layer_of names) b)
    ∙ ap (λ (other : ObjectId). unwrap_or (find (is_ground names) (flat_map (λ objects. objects) cells)) other) b

-- all cells
pub grounds : (names : Names) (cells : List (Bor (List ObjectId))) (n : ℕ) (made : List (List ObjectId))
    (background filler : ObjectId) (layer : ℕ) → length cells ≤ n →
    background ≡ slice_index_or (backgrounds names) 0 (let o : ObjectId = record { 0 = 0 } in o) →
    layer ≡ layer_of names background →
    filler ≡ unwrap_or (find (λ object. nat_eq (layer_of names object) layer)
    (flat_map (λ objects. objects) (cells_shown cells))) background →
    made ≡ map (with_ground names filler) (cells_shown (take n cells)) → made ≡ grounded names (cells_shown cells)
grounds names cells n made background filler layer h b l f m =
    m ∙ ap (λ (items : List (Bor (List ObjectId))).
    map (with_ground names filler) (cells_shown items)) (taken cells n h)
    ∙ ap (λ (object : ObjectId). map (with_ground names object) (cells_shown cells))
    (filler_is names (cells_shown cells) background filler layer b l f)
