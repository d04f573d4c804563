-- Rows turned round, and the places of them.
use Rattle.std.proofs.Common.{◌≡◌, ℕ, suc, Bool, true, false, cond, List, [], ◌∷◌, ◌++◌, length, map, filter, flat_map}
use Rattle.std.proofs.Common.{reverse, slice_get, refl, sym, ◌∙◌, ap, ap₂, arith}
use Rattle.std.specs.Prelude.{◌≢◌, nat_eq}
use Rattle.std.proofs.lemmas.Grind.{flat_map-append}
use Rattle.std.proofs.lemmas.Bool.Decides.{nat_tests}
use Rattle.std.proofs.lemmas.List.{append-nil, map-append, map-id, reverse-append, reverse-reverse, length-reverse}
use Rattle.std.proofs.lemmas.List.Elements.{filter_agree}
use Rattle.std.proofs.lemmas.Simd.{map-map}
use Rattle.ps_model.specs.declared.pieces.Direction.{Direction}
use Rattle.ps_model.specs.declared.pieces.Direction.TheVariants.{Up, Down, Left, Right}
use Rattle.ps_model.specs.board.Grid.{Grid}
use Rattle.ps_model.specs.meaning.Directions.{opposite}
use Rattle.ps_model.specs.meaning.RuleMeanings.{CellMeaning}
use Rattle.ps_model.specs.board.Places.{cells_rightwards, cells_downwards, row_by_row, column_by_column, ways_along}
use Rattle.ps_model.specs.board.Places.{fits_there, fits_along, cells_in, places}
use Rattle.ps_model.specs.meaning.TurnedRound.{row_turned}
use Rattle.ps_laws.proofs.common.Stages.{map-flat_map, same_map, same_flat_map}
use Rattle.ps_laws.proofs.common.Truths.{and_then, second-false}

-- lists read backwards ------------------------------------------------------------------------------------------------

pub map-reverse : {A B : Type 0} (f : A → B) (xs : List A) → map f (reverse xs) ≡ reverse (map f xs)
map-reverse f [] = refl
map-reverse f (x ∷ xs) =
    ap (map f) (reverse-append (x ∷ []) xs) ∙ map-append f (reverse xs) (x ∷ [])
    ∙ ap (λ front. front ++ f x ∷ []) (map-reverse f xs) ∙ sym (reverse-append (f x ∷ []) (map f xs))

-- each list of a list read backwards twice
pub each_twice : {A : Type 0} (xss : List (List A)) → map reverse (map reverse xss) ≡ xss
each_twice xss = map-map reverse reverse xss ∙ same_map (λ xs. reverse (reverse xs)) (λ xs. xs) reverse-reverse xss
    ∙ map-id xss

chosen-map : {A B : Type 0} (f : A → B) (x : A) (xs : List A) (test : Bool) →
    cond test (f x ∷ map f xs) (map f xs) ≡ map f (cond test (x ∷ xs) xs)
chosen-map f x xs true = refl
chosen-map f x xs false = refl

filter-map : {A B : Type 0} (test : B → Bool) (f : A → B) (xs : List A) →
    filter test (map f xs) ≡ map f (filter (λ x. test (f x)) xs)
filter-map test f [] = refl
filter-map test f (x ∷ xs) =
    ap (λ (rest : List _). cond (test (f x)) (f x ∷ rest) rest) (filter-map test f xs)
    ∙ chosen-map f x (filter (λ y. test (f y)) xs) (test (f x))

-- rows turned round ---------------------------------------------------------------------------------------------------

-- its cells stand in reverse order
pub cells_in-turned : (row : List (List CellMeaning)) → cells_in (row_turned row) ≡ reverse (cells_in row)
cells_in-turned [] = refl
cells_in-turned (part ∷ row) =
    ap cells_in (reverse-append (reverse part ∷ []) (map reverse row))
    ∙ flat_map-append (λ (cells : List CellMeaning). cells) (reverse (map reverse row)) (reverse part ∷ [])
    ∙ ap₂ (λ (front behind : List CellMeaning). front ++ behind) (cells_in-turned row) (append-nil (reverse part))
    ∙ sym (reverse-append part (cells_in row))

-- its parts have their lengths in reverse order
sizes-turned : (row : List (List CellMeaning)) → reverse (map length (row_turned row)) ≡ map length row
sizes-turned row =
    ap reverse (map-reverse length (map reverse row))
    ∙ reverse-reverse (map length (map reverse row))
    ∙ map-map length reverse row
    ∙ same_map (λ part. length (reverse part)) length length-reverse row

-- what is made of its cells is that of the row's, turned round
pub row_turned-mapped : {A B : Type 0} (f : A → B) (row : List (List A)) →
    row_turned (map (map f) row) ≡ map (map f) (row_turned row)
row_turned-mapped f row =
    ap reverse (map-map reverse (map f) row ∙ same_map (λ part. reverse (map f part)) (λ part.
    map f (reverse part)) (λ part. sym (map-reverse f part)) row ∙ sym (map-map (map f) reverse row))
    ∙ sym (map-reverse (map f) (map reverse row))

-- turned round twice it is as it was
pub row_turned-twice : {Cell : Type 0} (row : List (List Cell)) → row_turned (row_turned row) ≡ row
row_turned-twice row = ap reverse (map-reverse reverse (map reverse row))
    ∙ reverse-reverse (map reverse (map reverse row)) ∙ each_twice row

-- what fits -----------------------------------------------------------------------------------------------------------

in_turn : (here more : Bool) → and_then more (and_then here true) ≡ and_then here more
in_turn true true = refl
in_turn true false = refl
in_turn false true = refl
in_turn false false = refl

-- cells that are more or fewer than the rule's don't fit
unequal-fit : (g : Grid) (meanings : List CellMeaning) (cells : List ℕ) → length meanings ≢ length cells →
    fits_along g meanings cells ≡ false
unequal-fit g [] [] h = absurd (h refl)
unequal-fit g [] (cell ∷ cells) h = refl
unequal-fit g (meaning ∷ meanings) [] h = refl
unequal-fit g (meaning ∷ meanings) (cell ∷ cells) h =
    second-false (fits_there meaning (slice_get g.cells cell)) (fits_along g meanings cells)
    (unequal-fit g meanings cells (λ e. h (ap suc e)))

-- two lists one after the other
fits-append : (g : Grid) (meanings others : List CellMeaning) (cells more : List ℕ) → length meanings ≡ length cells →
    fits_along g (meanings ++ others) (cells ++ more) ≡ and_then (fits_along g meanings cells)
    (fits_along g others more)
fits-append g [] others [] more e = refl
fits-append g [] others (cell ∷ cells) more e = absurd (omega arith)
fits-append g (meaning ∷ meanings) others [] more e = absurd (omega arith)
fits-append g (meaning ∷ meanings) others (cell ∷ cells) more e =
    ap (and_then (fits_there meaning (slice_get g.cells cell))) (fits-append g meanings others cells more (omega arith))
    ∙ grouped (fits_there meaning (slice_get g.cells cell)) (fits_along g meanings cells) (fits_along g others more)
  where
    grouped : (a b c : Bool) → and_then a (and_then b c) ≡ and_then (and_then a b) c
    grouped true b c = refl
    grouped false b c = refl

-- both lists read backwards
equal-reversed : (g : Grid) (meanings : List CellMeaning) (cells : List ℕ) → length meanings ≡ length cells →
    fits_along g (reverse meanings) (reverse cells) ≡ fits_along g meanings cells
equal-reversed g [] [] e = refl
equal-reversed g [] (cell ∷ cells) e = absurd (omega arith)
equal-reversed g (meaning ∷ meanings) [] e = absurd (omega arith)
equal-reversed g (meaning ∷ meanings) (cell ∷ cells) e =
    let same : length meanings ≡ length cells = omega arith in
    ap₂ (fits_along g) (reverse-append (meaning ∷ []) meanings) (reverse-append (cell ∷ []) cells)
    ∙ fits-append g (reverse meanings) (meaning ∷ []) (reverse cells) (cell ∷ []) (length-reverse meanings ∙ same
    ∙ sym (length-reverse cells))
    ∙ ap (λ (more : Bool). and_then more (and_then (fits_there meaning (slice_get g.cells cell)) true))
    (equal-reversed g meanings cells same)
    ∙ in_turn (fits_there meaning (slice_get g.cells cell)) (fits_along g meanings cells)

by-lengths : (g : Grid) (meanings : List CellMeaning) (cells : List ℕ) (same : Bool) →
    nat_eq (length meanings) (length cells) ≡ same →
    fits_along g (reverse meanings) (reverse cells) ≡ fits_along g meanings cells
by-lengths g meanings cells true e = equal-reversed g meanings cells (grind (arith, nat_tests))
by-lengths g meanings cells false e =
    let other : length meanings ≢ length cells = grind (arith, nat_tests) in
    unequal-fit g (reverse meanings) (reverse cells) (λ same.
    other (sym (length-reverse meanings) ∙ same ∙ length-reverse cells)) ∙ sym (unequal-fit g meanings cells other)

-- a row turned round fits a list of cells read backwards where the row fits the list
pub fits-turned : (g : Grid) (row : List (List CellMeaning)) (cells : List ℕ) →
    fits_along g (cells_in (row_turned row)) (reverse cells) ≡ fits_along g (cells_in row) cells
fits-turned g row cells =
    ap (λ (meanings : List CellMeaning). fits_along g meanings (reverse cells)) (cells_in-turned row)
    ∙ by-lengths g (cells_in row) cells (nat_eq (length (cells_in row)) (length cells)) refl

-- places --------------------------------------------------------------------------------------------------------------

-- those of these lists that fit
found-turned : (g : Grid) (row : List (List CellMeaning)) (lines : List (List ℕ)) →
    filter (fits_along g (cells_in (row_turned row))) (map reverse lines) ≡ map reverse
    (filter (fits_along g (cells_in row)) lines)
found-turned g row lines =
    filter-map (fits_along g (cells_in (row_turned row))) reverse lines
    ∙ ap (map reverse) (filter_agree (λ cells.
    fits_along g (cells_in (row_turned row)) (reverse cells)) (fits_along g (cells_in row)) (fits-turned g row)
    lines)

-- those that fit of the lists of each end, end by end
joined-turned : (g : Grid) (row : List (List CellMeaning)) (line : ℕ → List ℕ) (ends : List ℕ) →
    flat_map (λ end. filter (fits_along g (cells_in (row_turned row)))
    (map reverse (ways_along (reverse (map length (row_turned row))) (line end)))) ends
    ≡ map reverse (flat_map (λ end. filter (fits_along g (cells_in row)) (ways_along (map length row) (line end))) ends)
joined-turned g row line ends =
    ap (λ (sizes : List ℕ). flat_map (λ end. filter (fits_along g (cells_in (row_turned row)))
    (map reverse (ways_along sizes (line end)))) ends) (sizes-turned row)
    ∙ same_flat_map
    (λ end. filter (fits_along g (cells_in (row_turned row))) (map reverse (ways_along (map length row) (line end))))
    (λ end. map reverse (filter (fits_along g (cells_in row)) (ways_along (map length row) (line end))))
    (λ end. found-turned g row (ways_along (map length row) (line end))) ends
    ∙ sym (map-flat_map reverse (λ end. filter (fits_along g (cells_in row)) (ways_along (map length row) (line end)))
    ends)

-- a row upwards that is the row of a rule downwards turned round; and so leftwards
up-turned : (g : Grid) (row : List (List CellMeaning)) → places g Up (row_turned row) ≡ map reverse (places g Down row)
up-turned g row = joined-turned g row (cells_downwards g) (column_by_column g)

left-turned : (g : Grid) (row : List (List CellMeaning)) →
    places g Left (row_turned row) ≡ map reverse (places g Right row)
left-turned g row = joined-turned g row (cells_rightwards g) (row_by_row g)

-- the other way round
turned-back : (g : Grid) (direction other : Direction) →
    ((row : List (List CellMeaning)) → places g other (row_turned row) ≡ map reverse (places g direction row)) →
    (row : List (List CellMeaning)) → places g direction (row_turned row) ≡ map reverse (places g other row)
turned-back g direction other turned row =
    sym (each_twice (places g direction (row_turned row)))
    ∙ ap (map reverse) (sym (turned (row_turned row)) ∙ ap (places g other) (row_turned-twice row))

pub places-turned : (g : Grid) (direction : Direction) (row : List (List CellMeaning)) →
    places g (opposite direction) (row_turned row) ≡ map reverse (places g direction row)
places-turned g Up row = turned-back g Down Up (up-turned g) row
places-turned g Down row = up-turned g row
places-turned g Left row = turned-back g Right Left (left-turned g) row
places-turned g Right row = left-turned g row
