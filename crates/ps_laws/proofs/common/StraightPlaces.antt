-- The places of a row are straight lines.
use Rattle.std.proofs.Common.{◌≡◌, ℕ, zero, suc, ◌+◌, ◌-◌, ◌*◌, ◌/◌, ◌%◌, ◌≤◌, Bool, true, false, List, [], ◌∷◌, ◌++◌}
use Rattle.std.proofs.Common.{length, map, filter, flat_map, take, drop, reverse, refl, sym, ◌∙◌, ap, ap₂, arith}
use Rattle.std.specs.Prelude.{All, nat_le}
use Rattle.std.specs.List.{range_with_len}
use Rattle.std.proofs.lemmas.Bool.Decides.{nat_tests}
use Rattle.std.proofs.lemmas.List.{map-append, length-map, drop-map}
use Rattle.std.proofs.lemmas.List.FromFn.{take-map-range_with_len, length-range_with_len}
use Rattle.std.proofs.lemmas.List.Elements.{All-nil, All-cons, All-map, All-weaker, All-filter}
use Rattle.ps_model.specs.declared.pieces.Direction.{Direction}
use Rattle.ps_model.specs.declared.pieces.Direction.TheVariants.{Up, Down, Left, Right}
use Rattle.ps_model.specs.board.Grid.{Grid}
use Rattle.ps_model.specs.board.Places.{cells_rightwards, cells_downwards, search_order, stretches, ways_along}
use Rattle.ps_model.specs.board.Places.{fits_along, cells_in}
use Rattle.ps_laws.specs.Sliding.{steps_of, IsStraight, PlacesAreStraight}
use Rattle.ps_laws.proofs.common.Everywhere.{All-each}

-- what two values have, each where the test picks it
by_test : {A : Type 0} (P : A → Type 0) (test : Bool) (first second : A) → (test ≡ true → P first) → P second →
    P (elim test [ true ↦ first | false ↦ second ])
by_test P true first second p q = p refl
by_test P false first second p q = q

-- the rest of a range
drop-range : (k from count : ℕ) → drop k (range_with_len from count) ≡ range_with_len (from + k) (count - k)
drop-range zero from count =
    let same : from ≡ from + 0 = omega arith in
    let all : count ≡ count - 0 = omega arith in
    ap₂ range_with_len same all
drop-range (suc k) from zero = let none : 0 ≡ 0 - suc k = omega arith in ap (range_with_len (from + suc k)) none
drop-range (suc k) from (suc count) =
    let start : from + 1 + k ≡ from + suc k = omega arith in
    let fewer : count - k ≡ suc count - suc k = omega arith in
    drop-range k (from + 1) count ∙ ap₂ range_with_len start fewer

-- some gaps make that way along a line, from the step `from` on
abbrev IsWay : (ℕ → ℕ) → List ℕ → ℕ → List ℕ → Type 0
IsWay at sizes from way = (gaps : List ℕ) × (way ≡ map at (steps_of sizes gaps from))

-- the first part, and the rest of the way
taken : (at : ℕ → ℕ) (size from count : ℕ) (line others steps : List ℕ) → line ≡ map at (range_with_len from count) →
    nat_le size (length line) ≡ true → others ≡ map at steps →
    take size line ++ others ≡ map at (range_with_len from size ++ steps)
taken at size from count line others steps e fits rest =
    let long : length line ≡ count = ap (λ (l : List ℕ). length l) e ∙ length-map (range_with_len from count) at
    ∙ length-range_with_len from count in
    let room : nat_le size count ≡ true = sym (ap (nat_le size) long) ∙ fits in
    let few : size ≤ count = grind (arith, nat_tests, room) in
    ap₂ (λ (front behind : List ℕ). front ++ behind) (ap (take size) e
    ∙ take-map-range_with_len at from count size few) rest ∙ sym (map-append at (range_with_len from size) steps)

ways-straight : (at : ℕ → ℕ) (sizes : List ℕ) (from count : ℕ) (line : List ℕ) →
    line ≡ map at (range_with_len from count) → All (IsWay at sizes from) (ways_along sizes line)
ways-straight at [] from count line e = All-cons (IsWay at [] from) [] [] ([], refl) (All-nil (IsWay at [] from))
ways-straight at (size ∷ []) from count line e =
    by_test (All (IsWay at (size ∷ []) from)) (nat_le size (length line))
    (map (λ others. take size line ++ others) ([] ∷ [])) []
    (λ fits. All-cons (IsWay at (size ∷ []) from) (take size line ++ []) []
    ([], taken at size from count line [] [] e fits refl) (All-nil (IsWay at (size ∷ []) from)))
    (All-nil (IsWay at (size ∷ []) from))
ways-straight at (size ∷ next ∷ rest) from count line e =
    let others_behind : ℕ → List (List ℕ) = λ gap. ways_along (next ∷ rest) (drop (size + gap) line) in
    let gaps : List ℕ = range_with_len 0 (suc (length line - size)) in
    let behind : (gap : ℕ) → drop (size + gap) line ≡ map at
    (range_with_len (from + (size + gap)) (count - (size + gap))) =
    λ gap. ap (drop (size + gap)) e ∙ drop-map at (size + gap) (range_with_len from count)
    ∙ ap (map at) (drop-range (size + gap) from count) in
    by_test (All (IsWay at (size ∷ next ∷ rest) from)) (nat_le size (length line))
    (map (λ others. take size line ++ others) (flat_map others_behind gaps)) []
    (λ fits. All-map (IsWay at (size ∷ next ∷ rest) from) (λ others.
    take size line ++ others) (flat_map others_behind gaps)
    (All-each (λ others. IsWay at (size ∷ next ∷ rest) from (take size line ++ others)) others_behind gaps (λ gap.
    All-weaker (IsWay at (next ∷ rest) (from + (size + gap))) (λ others.
    IsWay at (size ∷ next ∷ rest) from (take size line ++ others))
    (λ others way. (
      gap ∷ way.0,
      taken at size from count line others
          (steps_of (next ∷ rest) way.0 (from + (size + gap))) e fits way.1,
    ))
    (others_behind gap) (ways-straight at (next ∷ rest) (from + (size + gap)) (count - (size + gap))
    (drop (size + gap) line) (behind gap)))))
    (All-nil (IsWay at (size ∷ next ∷ rest) from))

-- in each direction
stretches-straight : (g : Grid) (direction : Direction) (sizes : List ℕ) (end : ℕ) →
    All (IsStraight g direction sizes) (stretches g direction sizes end)
stretches-straight g Up sizes end =
    All-map (IsStraight g Up sizes) reverse (ways_along (reverse sizes) (cells_downwards g end))
    (All-weaker (IsWay (λ steps. end + steps) (reverse sizes) 0) (λ way.
    IsStraight g Up sizes (reverse way)) (λ way is.
    (end, is.0, ap reverse is.1)) (ways_along (reverse sizes) (cells_downwards g end))
    (ways-straight (λ steps. end + steps) (reverse sizes) 0 (g.height - end % g.height) (cells_downwards g end) refl))
stretches-straight g Down sizes end =
    All-weaker (IsWay (λ steps. end + steps) sizes 0) (IsStraight g Down sizes) (λ way is.
    (end, is.0, is.1)) (ways_along sizes (cells_downwards g end))
    (ways-straight (λ steps. end + steps) sizes 0 (g.height - end % g.height) (cells_downwards g end) refl)
stretches-straight g Left sizes end =
    All-map (IsStraight g Left sizes) reverse (ways_along (reverse sizes) (cells_rightwards g end))
    (All-weaker (IsWay (λ steps. end + steps * g.height) (reverse sizes) 0) (λ way.
    IsStraight g Left sizes (reverse way)) (λ way is. (end, is.0, ap reverse is.1))
    (ways_along (reverse sizes) (cells_rightwards g end))
    (ways-straight (λ steps. end + steps * g.height) (reverse sizes) 0 (g.width - end / g.height)
    (cells_rightwards g end) refl))
stretches-straight g Right sizes end =
    All-weaker (IsWay (λ steps. end + steps * g.height) sizes 0) (IsStraight g Right sizes) (λ way is.
    (end, is.0, is.1)) (ways_along sizes (cells_rightwards g end))
    (ways-straight (λ steps. end + steps * g.height) sizes 0 (g.width - end / g.height) (cells_rightwards g end) refl)

pub places_straight : PlacesAreStraight
places_straight g direction row =
    All-each (IsStraight g direction (map length row)) (λ end.
    filter (fits_along g (cells_in row)) (stretches g direction (map length row) end)) (search_order g direction)
    (λ end. All-filter (fits_along g (cells_in row)) (IsStraight g direction (map length row))
    (stretches g direction (map length row) end) (stretches-straight g direction (map length row) end))
