-- The first place of a row on a line, or behind a way on it, and then on the lines behind.
use Rattle.std.proofs.Common.{◌≡◌, ◌∙◌, ℕ, ◌+◌, ◌-◌, ◌*◌, ◌<◌, ◌≤◌, Bool, Option, List, [], ◌∷◌, ◌++◌, length, map}
use Rattle.std.proofs.Common.{Fits, w64, take, drop, refl, subst, sym, ap, arith}
use Rattle.std.specs.Prelude.{All}
use Rattle.std.proofs.Math.Nat.{mul-le-mul_right}
use Rattle.std.proofs.lemmas.Grind.{common_steps}
use Rattle.std.proofs.lemmas.List.{length-map}
use Rattle.ps_model.specs.declared.limits.TheConstants.{SIDE_LIMIT}
use Rattle.ps_model.specs.board.Grid.{Grid, IsGrid}
use Rattle.ps_program.specs.declared.cells.CompiledCell.{CompiledCell}
use Rattle.ps_program.specs.declared.rows.Axis.{Axis}
use Rattle.ps_program.specs.declared.rows.Axis.TheVariants.{Down, Right}
use Rattle.ps_program.specs.declared.rows.TheConstants.{PART_LIMIT}
use Rattle.ps_places.specs.FittingWays.{way_fits}
use Rattle.ps_places.specs.Lines.{line_count}
use Rattle.ps_places.specs.RowPlaces.{part_sizes, place_fits, places_on_lines, sets_on, way_cells}
use Rattle.ps_places.specs.Spaced.{IsSpaced}
use Rattle.ps_places.specs.Seeking.{place_on, places_after}
use Rattle.ps_places.specs.Ways.{from_first, positions_from, ways_behind, ways_from}
use Rattle.ps_places.proofs.FirstOf.{first-append-none, first-append-some}
use Rattle.ps_places.proofs.NextWays.{ways_behind-long, ways_from-long}
use Rattle.ps_places.proofs.PlacesOfWays.{first-of-places}

-- a grid has few lines, and a room has the sets of each of them
pub lines-few : (axis : Axis) (g : Grid) → IsGrid g → line_count axis g ≤ SIDE_LIMIT
lines-few Down g shape = shape.columns
lines-few Right g shape = shape.rows

pub sets-within : (line count all : ℕ) → line < SIDE_LIMIT → count ≤ PART_LIMIT → all ≡ PART_LIMIT * SIDE_LIMIT →
    line * count + count ≤ all
sets-within line count all low few e =
    let next : line + 1 ≤ SIDE_LIMIT = omega (arith, low) in
    let most : (line + 1) * count ≤ SIDE_LIMIT * count = mul-le-mul_right count next in
    omega (arith, most, few, e)

pub slice-on : (starts : List (List Bool)) (line count : ℕ) →
    take (line * count + count - line * count) (drop (line * count) starts) ≡ sets_on starts count line
slice-on starts line count =
    let e : line * count + count - line * count ≡ count = omega arith in
    ap (λ (n : ℕ). take n (drop (line * count) starts)) e

enough : {X : Type 0} (xs : List X) (a n : ℕ) → a + n ≤ length xs → length (take n (drop a xs)) ≡ n
enough xs a n h = grind (arith, common_steps)

sets-long : (starts : List (List Bool)) (parts : List (List CompiledCell)) (line : ℕ) → line < SIDE_LIMIT →
    length parts ≤ PART_LIMIT → length starts ≡ PART_LIMIT * SIDE_LIMIT →
    length (sets_on starts (length parts) line) ≡ length (part_sizes parts)
sets-long starts parts line low few e =
    enough starts (line * length parts) (length parts) (sets-within line (length parts) (length starts) low few e)
    ∙ sym (length-map parts length)

-- where the sets of a line stand, for a row whose number of parts is read off a list of them
pub low_line : (line count : ℕ) → line < count → count ≤ SIDE_LIMIT → line < SIDE_LIMIT
low_line line count low few = omega arith

pub end_within : (line count n long : ℕ) → n ≡ count → line < SIDE_LIMIT → count ≤ PART_LIMIT →
    long ≡ PART_LIMIT * SIDE_LIMIT → line * n + n ≤ long
end_within line count n long same low few all = rw same (sets-within line count long low few all)

pub start_within : (line count n long : ℕ) → n ≡ count → line < SIDE_LIMIT → count ≤ PART_LIMIT →
    long ≡ PART_LIMIT * SIDE_LIMIT → line * n ≤ long
start_within line count n long same low few all = omega (arith, end_within line count n long same low few all)

pub start_below : (line count n long : ℕ) → n ≡ count → line < SIDE_LIMIT → 0 < count → count ≤ PART_LIMIT →
    long ≡ PART_LIMIT * SIDE_LIMIT → line * n < long
start_below line count n long same low some few all = omega (arith, end_within line count n long same low few all)

pub start_fits : (line count n : ℕ) → n ≡ count → line < SIDE_LIMIT → count ≤ PART_LIMIT → Fits w64 (line * n)
start_fits line count n same low few =
    omega (arith, end_within line count n (PART_LIMIT * SIDE_LIMIT) same low few refl)

pub end_fits : (line count n : ℕ) → n ≡ count → line < SIDE_LIMIT → count ≤ PART_LIMIT → Fits w64 (line * n + n)
end_fits line count n same low few =
    omega (arith, end_within line count n (PART_LIMIT * SIDE_LIMIT) same low few refl)

pub sets_taken : {X : Type 0} (starts : List X) (line count n : ℕ) → n ≡ count → line < SIDE_LIMIT →
    count ≤ PART_LIMIT → length starts ≡ PART_LIMIT * SIDE_LIMIT →
    length (take (line * n + n - line * n) (drop (line * n) starts)) ≡ n
sets_taken starts line count n same low few all =
    let e : line * n + n - line * n ≡ n = omega arith in
    rw e (enough starts (line * n) n (end_within line count n (length starts) same low few all))

long_ways : (parts : List (List CompiledCell)) (ways : List (List ℕ)) →
    All (λ way. length way ≡ length (part_sizes parts)) ways → All (λ way. length way ≡ length parts) ways
long_ways parts ways all = λ k d low. all k d low ∙ length-map parts length

-- the places of some ways
some_place : (g : Grid) (table : Option (List ℕ)) (axis : Axis) (line : ℕ) (parts : List (List CompiledCell))
    (ways : List (List ℕ)) (others : List (List ℕ)) (way : List ℕ) (behind : List (List ℕ)) →
    All (λ w. length w ≡ length (part_sizes parts)) ways →
    from_first (way_fits g table axis line parts) ways ≡ way ∷ behind →
    from_first (place_fits g table parts) (map (way_cells axis g.height line (part_sizes parts)) ways ++ others)
    ≡ place_on axis g.height parts line way ∷ (map (way_cells axis g.height line (part_sizes parts)) behind ++ others)
some_place g table axis line parts ways others way behind long found =
    first-append-some (place_fits g table parts) (map (way_cells axis g.height line (part_sizes parts)) ways) others
    (place_on axis g.height parts line way) (map (way_cells axis g.height line (part_sizes parts)) behind)
    (first-of-places g table axis line parts ways (long_ways parts ways long)
    ∙ ap (map (way_cells axis g.height line (part_sizes parts))) found)

no_place : (g : Grid) (table : Option (List ℕ)) (axis : Axis) (line : ℕ) (parts : List (List CompiledCell))
    (ways : List (List ℕ)) (others : List (List ℕ)) →
    All (λ w. length w ≡ length (part_sizes parts)) ways → from_first (way_fits g table axis line parts) ways ≡ [] →
    from_first (place_fits g table parts) (map (way_cells axis g.height line (part_sizes parts)) ways ++ others)
    ≡ from_first (place_fits g table parts) others
no_place g table axis line parts ways others long none =
    first-append-none (place_fits g table parts) (map (way_cells axis g.height line (part_sizes parts)) ways) others
    (first-of-places g table axis line parts ways (long_ways parts ways long)
    ∙ ap (map (way_cells axis g.height line (part_sizes parts))) none)

-- on one line and the lines behind it
pub line-found : (g : Grid) (table : Option (List ℕ)) (axis : Axis) (parts : List (List CompiledCell))
    (starts : List (List Bool)) (line : ℕ) (ls : List ℕ) (way : List ℕ) →
    line < SIDE_LIMIT → length parts ≤ PART_LIMIT → length starts ≡ PART_LIMIT * SIDE_LIMIT →
    from_first (way_fits g table axis line parts)
    (ways_from (take (line * length parts + length parts - line * length parts)
    (drop (line * length parts) starts)) (part_sizes parts) 0)
    ≡ way ∷ ways_behind (take (line * length parts + length parts - line * length parts)
    (drop (line * length parts) starts)) (part_sizes parts) way →
    from_first (place_fits g table parts) (places_on_lines axis g.height parts starts (line ∷ ls))
    ≡ place_on axis g.height parts line way
    ∷ (map (way_cells axis g.height line (part_sizes parts)) (ways_behind (sets_on starts (length parts) line)
    (part_sizes parts) way) ++ places_on_lines axis g.height parts starts ls)
line-found g table axis parts starts line ls way low few e found =
    some_place g table axis line parts (ways_from (sets_on starts (length parts) line) (part_sizes parts) 0)
    (places_on_lines axis g.height parts starts ls) way
    (ways_behind (sets_on starts (length parts) line) (part_sizes parts) way)
    (ways_from-long (sets_on starts (length parts) line) (part_sizes parts) 0 (sets-long starts parts line low few e))
    (rw slice-on at found)

pub line-none : (g : Grid) (table : Option (List ℕ)) (axis : Axis) (parts : List (List CompiledCell))
    (starts : List (List Bool)) (line : ℕ) (ls : List ℕ) →
    line < SIDE_LIMIT → length parts ≤ PART_LIMIT → length starts ≡ PART_LIMIT * SIDE_LIMIT →
    from_first (way_fits g table axis line parts)
    (ways_from (take (line * length parts + length parts - line * length parts)
    (drop (line * length parts) starts)) (part_sizes parts) 0) ≡ [] →
    from_first (place_fits g table parts) (places_on_lines axis g.height parts starts (line ∷ ls))
    ≡ from_first (place_fits g table parts) (places_on_lines axis g.height parts starts ls)
line-none g table axis parts starts line ls low few e none =
    no_place g table axis line parts (ways_from (sets_on starts (length parts) line) (part_sizes parts) 0)
    (places_on_lines axis g.height parts starts ls)
    (ways_from-long (sets_on starts (length parts) line) (part_sizes parts) 0 (sets-long starts parts line low few e))
    (rw slice-on at none)

-- behind a way on a line
pub next-found : (g : Grid) (table : Option (List ℕ)) (axis : Axis) (parts : List (List CompiledCell))
    (starts : List (List Bool)) (lines : List Bool) (line : ℕ) (old way : List ℕ) →
    line < SIDE_LIMIT → length parts ≤ PART_LIMIT → length starts ≡ PART_LIMIT * SIDE_LIMIT →
    from_first (way_fits g table axis line parts) (ways_behind
    (take (line * length parts + length parts - line * length parts) (drop (line * length parts) starts))
    (part_sizes parts) old)
    ≡ way ∷ ways_behind (take (line * length parts + length parts - line * length parts)
    (drop (line * length parts) starts)) (part_sizes parts) way →
    from_first (place_fits g table parts) (places_after axis g.height parts starts lines line old)
    ≡ place_on axis g.height parts line way ∷ places_after axis g.height parts starts lines line way
next-found g table axis parts starts lines line old way low few e found =
    some_place g table axis line parts (ways_behind (sets_on starts (length parts) line) (part_sizes parts) old)
    (places_on_lines axis g.height parts starts (positions_from lines (line + 1))) way
    (ways_behind (sets_on starts (length parts) line) (part_sizes parts) way)
    (ways_behind-long (sets_on starts (length parts) line) (part_sizes parts) old
    (sets-long starts parts line low few e))
    (rw slice-on at found)

pub next-none : (g : Grid) (table : Option (List ℕ)) (axis : Axis) (parts : List (List CompiledCell))
    (starts : List (List Bool)) (lines : List Bool) (line : ℕ) (old : List ℕ) →
    line < SIDE_LIMIT → length parts ≤ PART_LIMIT → length starts ≡ PART_LIMIT * SIDE_LIMIT →
    from_first (way_fits g table axis line parts) (ways_behind
    (take (line * length parts + length parts - line * length parts) (drop (line * length parts) starts))
    (part_sizes parts) old) ≡ [] →
    from_first (place_fits g table parts) (places_after axis g.height parts starts lines line old)
    ≡ from_first (place_fits g table parts) (places_on_lines axis g.height parts starts
    (positions_from lines (line + 1)))
next-none g table axis parts starts lines line old low few e none =
    no_place g table axis line parts (ways_behind (sets_on starts (length parts) line) (part_sizes parts) old)
    (places_on_lines axis g.height parts starts (positions_from lines (line + 1)))
    (ways_behind-long (sets_on starts (length parts) line) (part_sizes parts) old
    (sets-long starts parts line low few e))
    (rw slice-on at none)

-- the way that is found stands at the front of a room's way
pub front : (way rest : List ℕ) (n : ℕ) → length way ≡ n → take n (way ++ rest) ≡ way
front way rest n e = grind (arith, common_steps)

pub found-in-front : (fits : List ℕ → Bool) (axis : Axis) (height : ℕ) (parts : List (List CompiledCell))
    (starts : List (List Bool)) (lines : List Bool) (line : ℕ) (all : List (List ℕ)) (way rest : List ℕ) →
    length way ≡ length parts → from_first fits all
    ≡ place_on axis height parts line way ∷ places_after axis height parts starts lines line way →
    from_first fits all ≡ place_on axis height parts line (take (length parts) (way ++ rest)) ∷ places_after axis
    height parts starts lines line (take (length parts) (way ++ rest))
found-in-front fits axis height parts starts lines line all way rest long found =
    found ∙ ap (λ (w : List ℕ). place_on axis height parts line w ∷ places_after axis height parts starts lines line w)
    (sym (front way rest (length parts) long))

-- the way of a place that is chosen stands in front of what the room keeps of others
pub spaced-in-front : (parts : List (List CompiledCell)) (way rest : List ℕ) → length way ≡ length parts →
    IsSpaced (part_sizes parts) 0 way → IsSpaced (part_sizes parts) 0 (take (length parts) (way ++ rest))
spaced-in-front parts way rest long spaced =
    subst (λ (w : List ℕ). IsSpaced (part_sizes parts) 0 w) (sym (front way rest (length parts) long)) spaced

-- and has as many positions as the row has parts
pub way_room : (n count long : ℕ) → n ≡ count → count ≤ PART_LIMIT → long ≡ 3 → n ≤ long
way_room n count long same few all = omega arith
