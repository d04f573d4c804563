-- The cells of the places of a row of two parts that have one number in the row: they are those that lie so many
-- steps behind each beginning of the part that they are of, where it has a partner.
use Rattle.std.proofs.Common.{◌≡◌, ◌∙◌, ℕ, zero, suc, ◌+◌, ◌-◌, ◌*◌, ◌<◌, ◌≤◌, ◌&&◌, Bool, true, false, Option}
use Rattle.std.proofs.Common.{List, [], ◌∷◌, ◌++◌, length, map, refl, sym, ap, ap₂, arith}
use Rattle.std.specs.Prelude.{nat_eq, nat_le, slice_index_or}
use Rattle.std.specs.List.{flat_map, list_any, range_with_len}
use Rattle.std.proofs.lemmas.Bool.{and_parts, eqb-true, eq-eqb}
use Rattle.std.proofs.lemmas.Bool.Decides.{nat_tests}
use Rattle.std.proofs.lemmas.List.{get_or_append_left, get_or-append-add, length-map}
use Rattle.std.proofs.lemmas.List.FromFn.{length-map-range_with_len, get_or-map-range_with_len}
use Rattle.std.proofs.lemmas.Nat.{div-add-mod', div-mul-add, mod-mul-add, div_below, mod_below}
use Rattle.std.proofs.Math.Bool.{and_comm, or-false}
use Rattle.ps_model.specs.declared.limits.TheConstants.{SIDE_LIMIT}
use Rattle.ps_model.specs.board.Grid.{Grid, IsGrid}
use Rattle.ps_model.specs.board.Places.{places}
use Rattle.ps_model.specs.meaning.RuleMeanings.{CellMeaning}
use Rattle.ps_laws.proofs.common.Truths.{same_tests}
use Rattle.ps_laws.proofs.common.Lists.{any-flat_map, any-map}
use Rattle.ps_board.specs.ColumnSets.{columns_where}
use Rattle.ps_program.specs.Axes.{direction_of}
use Rattle.ps_program.specs.declared.cells.CompiledCell.{CompiledCell}
use Rattle.ps_program.specs.declared.rows.Axis.{Axis}
use Rattle.ps_program.specs.declared.rows.Axis.TheVariants.{Down, Right}
use Rattle.ps_places.specs.FoundStarts.{begins_on, part_of}
use Rattle.ps_places.specs.Lines.{cell_meaning, cell_on, line_count, line_long, part_meaning}
use Rattle.ps_places.specs.RowPlaces.{parts_meaning}
use Rattle.ps_places.specs.Ways.{positions_from, ways_from}
use Rattle.ps_places.proofs.FoundPlaces.{begins_on-meant, short_lines, some-meant, true_sets, true_sets-are, ways_of}
use Rattle.ps_places.proofs.LinePlaces.{places-by_line, places_along}
use Rattle.ps_places.proofs.LineWays.{cells_of_way, fits_from_position}
use Rattle.ps_places.specs.PartTargets.{is_reached, is_target, has_partner, line_of, number_in_row, own_part}
use Rattle.ps_places.specs.PartTargets.{position_of}
use Rattle.ps_places.proofs.AnyOf.{any-alike, any-both, any-found, any-here, any-positions, all}
use Rattle.ps_places.proofs.AnyOf.{any-swap}
use Rattle.ps_places.proofs.RowsTogether.{le_true}

-- tests joined in another order
first_kept : (t p e le : Bool) → le ≡ true → (t && (le && (p && e))) ≡ (e && (t && p))
first_kept true true true le h = rw h refl
first_kept true true false le h = rw h refl
first_kept true false true le h = rw h refl
first_kept true false false le h = rw h refl
first_kept false p true le h = refl
first_kept false p false le h = refl

turned : (t a e : Bool) → (t && (a && e)) ≡ (e && (a && t))
turned true true true = refl
turned true true false = refl
turned true false true = refl
turned true false false = refl
turned false true true = refl
turned false true false = refl
turned false false true = refl
turned false false false = refl

second_kept : (t u a e le : Bool) → le ≡ true → (t && (le && (u && (a && e)))) ≡ (e && (u && (a && t)))
second_kept true true a e le h = rw h (turned true a e)
second_kept true false a true le h = rw h refl
second_kept true false a false le h = rw h refl
second_kept false true true true le h = refl
second_kept false true true false le h = refl
second_kept false true false true le h = refl
second_kept false true false false le h = refl
second_kept false false a true le h = refl
second_kept false false a false le h = refl

from_start : (p : ℕ) → nat_le 0 p ≡ true
from_start p = let low : 0 ≤ p = omega arith in grind (arith, nat_tests, low)

-- a cell of a way of two parts
in_first : (cell : ℕ → ℕ) (p q n1 n2 c : ℕ) → c < n1 →
    slice_index_or (cells_of_way cell (n1 ∷ n2 ∷ []) (p ∷ q ∷ [])) c 0 ≡ cell (p + c)
in_first cell p q n1 n2 c low =
    let long : length (map cell (range_with_len p n1)) ≡ n1 = length-map-range_with_len cell p n1 in
    let within : c < length (map cell (range_with_len p n1)) = rw long low in
    get_or_append_left (map cell (range_with_len p n1)) (map cell (range_with_len q n2) ++ []) 0 c within
    ∙ get_or-map-range_with_len cell p n1 c (p + c) 0 low refl

in_second : (cell : ℕ → ℕ) (p q n1 n2 c : ℕ) → c < n2 →
    slice_index_or (cells_of_way cell (n1 ∷ n2 ∷ []) (p ∷ q ∷ [])) (n1 + c) 0 ≡ cell (q + c)
in_second cell p q n1 n2 c low =
    let front : List ℕ = map cell (range_with_len p n1) in
    let back : List ℕ = map cell (range_with_len q n2) in
    let long : length front ≡ n1 = length-map-range_with_len cell p n1 in
    let within : c < length back = rw (length-map-range_with_len cell q n2) low in
    ap (λ (k : ℕ). slice_index_or (front ++ (back ++ [])) (k + c) 0) (sym long)
    ∙ get_or-append-add front (back ++ []) c 0
    ∙ get_or_append_left back [] 0 c within
    ∙ get_or-map-range_with_len cell q n2 c (q + c) 0 low refl

-- ways of two parts ---------------------------------------------------------------------------------------------------

-- whether a way of two parts has something
any_way : (hit : List ℕ → Bool) (t u : ℕ → Bool) (n1 n2 : ℕ) →
    list_any hit (ways_from (columns_where t ∷ columns_where u ∷ []) (n1 ∷ n2 ∷ []) 0)
    ≡ list_any (λ p. t p && (nat_le 0 p && list_any (λ q. u q && (nat_le (p + n1) q && hit (p ∷ q ∷ []))) all)) all
any_way hit t u n1 n2 =
    let seconds : ℕ → List (List ℕ) = λ p. flat_map (λ q. map (λ way. q ∷ way) ([] ∷ [])) (positions_from
    (columns_where u) (p + n1)) in
    any-flat_map hit (λ p. map (λ way. p ∷ way) (seconds p)) (positions_from (columns_where t) 0)
    ∙ any-alike (λ p. list_any hit (map (λ way. p ∷ way) (seconds p)))
    (λ p. list_any (λ q. u q && (nat_le (p + n1) q && hit (p ∷ q ∷ []))) all) (positions_from (columns_where t) 0)
    (λ p.
    any-map hit (λ way. p ∷ way) (seconds p)
    ∙ any-flat_map (λ way. hit (p ∷ way)) (λ q. map (λ way. q ∷ way) ([] ∷ [])) (positions_from (columns_where u)
    (p + n1))
    ∙ any-alike (λ q. list_any (λ way. hit (p ∷ way)) (map (λ way. q ∷ way) ([] ∷ []))) (λ q. hit (p ∷ q ∷ []))
    (positions_from (columns_where u) (p + n1)) (λ q. or-false (hit (p ∷ q ∷ [])))
    ∙ any-positions (λ q. hit (p ∷ q ∷ [])) u (p + n1))
    ∙ any-positions (λ p. list_any (λ q. u q && (nat_le (p + n1) q && hit (p ∷ q ∷ []))) all) t 0

-- where that is said of the first part's position alone, or of the second part's
any_first : (hit : List ℕ → Bool) (e t u : ℕ → Bool) (n1 n2 : ℕ) → ((p q : ℕ) → hit (p ∷ q ∷ []) ≡ e p) →
    list_any hit (ways_from (columns_where t ∷ columns_where u ∷ []) (n1 ∷ n2 ∷ []) 0)
    ≡ list_any (λ p. e p && (t p && list_any (λ q. nat_le (p + n1) q && u q) all)) all
any_first hit e t u n1 n2 says =
    any_way hit t u n1 n2
    ∙ any-alike (λ p. t p && (nat_le 0 p && list_any (λ q. u q && (nat_le (p + n1) q && hit (p ∷ q ∷ []))) all))
    (λ p. e p && (t p && list_any (λ q. nat_le (p + n1) q && u q) all)) all
    (λ p.
    ap (λ (b : Bool). t p && (nat_le 0 p && b))
    (any-alike (λ q. u q && (nat_le (p + n1) q && hit (p ∷ q ∷ []))) (λ q. e p && (nat_le (p + n1) q && u q)) all
    (λ q. ap (λ (b : Bool). u q && (nat_le (p + n1) q && b)) (says p q) ∙ turned (u q) (nat_le (p + n1) q) (e p))
    ∙ any-both (e p) (λ q. nat_le (p + n1) q && u q) all)
    ∙ ap (λ (b : Bool). t p && (nat_le 0 p && b)) (and_comm (e p) (list_any (λ q. nat_le (p + n1) q && u q) all))
    ∙ first_kept (t p) (list_any (λ q. nat_le (p + n1) q && u q) all) (e p) (nat_le 0 p) (from_start p))

any_second : (hit : List ℕ → Bool) (e t u : ℕ → Bool) (n1 n2 : ℕ) → ((p q : ℕ) → hit (p ∷ q ∷ []) ≡ e q) →
    list_any hit (ways_from (columns_where t ∷ columns_where u ∷ []) (n1 ∷ n2 ∷ []) 0)
    ≡ list_any (λ q. e q && (u q && list_any (λ p. nat_le (p + n1) q && t p) all)) all
any_second hit e t u n1 n2 says =
    any_way hit t u n1 n2
    ∙ any-alike (λ p. t p && (nat_le 0 p && list_any (λ q. u q && (nat_le (p + n1) q && hit (p ∷ q ∷ []))) all))
    (λ p. list_any (λ q. e q && (u q && (nat_le (p + n1) q && t p))) all) all
    (λ p.
    sym (any-both (t p) (λ q. nat_le 0 p && (u q && (nat_le (p + n1) q && hit (p ∷ q ∷ [])))) all
    ∙ ap (λ (b : Bool). t p && b) (any-both (nat_le 0 p) (λ q. u q && (nat_le (p + n1) q && hit (p ∷ q ∷ []))) all))
    ∙ any-alike (λ q. t p && (nat_le 0 p && (u q && (nat_le (p + n1) q && hit (p ∷ q ∷ []))))) (λ q. e q && (u q &&
    (nat_le (p + n1) q && t p))) all
    (λ q.
    ap (λ (b : Bool). t p && (nat_le 0 p && (u q && (nat_le (p + n1) q && b)))) (says p q)
    ∙ second_kept (t p) (u q) (nat_le (p + n1) q) (e q) (nat_le 0 p) (from_start p)))
    ∙ any-swap (λ p q. e q && (u q && (nat_le (p + n1) q && t p))) all all
    ∙ any-alike (λ q. list_any (λ p. e q && (u q && (nat_le (p + n1) q && t p))) all)
    (λ q. e q && (u q && list_any (λ p. nat_le (p + n1) q && t p) all)) all
    (λ q.
    any-both (e q) (λ p. u q && (nat_le (p + n1) q && t p)) all
    ∙ ap (λ (b : Bool). e q && b) (any-both (u q) (λ p. nat_le (p + n1) q && t p) all))

-- cells and their positions -------------------------------------------------------------------------------------------

pub line_of-on : (g : Grid) (axis : Axis) (line position : ℕ) → line < line_count axis g → position < line_long axis g →
    line_of axis g.height (cell_on axis g.height line position) ≡ line
line_of-on g Down line position low far = div-mul-add line g.height position far
line_of-on g Right line position low far = mod-mul-add position g.height line low

pub position_of-on : (g : Grid) (axis : Axis) (line position : ℕ) → line < line_count axis g →
    position < line_long axis g →
    position_of axis g.height (cell_on axis g.height line position) ≡ position
position_of-on g Down line position low far = mod-mul-add line g.height position far
position_of-on g Right line position low far = div-mul-add position g.height line low

pub cell_on-of : (axis : Axis) (height n : ℕ) → cell_on axis height (line_of axis height n)
    (position_of axis height n) ≡ n
cell_on-of Down height n = div-add-mod' n height
cell_on-of Right height n = div-add-mod' n height

pub line_of-low : (g : Grid) (axis : Axis) (n : ℕ) → IsGrid g → n < g.width * g.height →
    line_of axis g.height n < line_count axis g
line_of-low g Down n grid low = div_below n g.height g.width grid.some_row low
line_of-low g Right n grid low = mod_below n g.height grid.some_row

pub position_of-low : (g : Grid) (axis : Axis) (n : ℕ) → IsGrid g → n < g.width * g.height →
    position_of axis g.height n < line_long axis g
position_of-low g Down n grid low = mod_below n g.height grid.some_row
position_of-low g Right n grid low = div_below n g.height g.width grid.some_row low

-- all places ----------------------------------------------------------------------------------------------------------

module _ (g : Grid) (table : Option (List ℕ)) (axis : Axis) (first second : List CompiledCell) (grid : IsGrid g)
    (some : 0 < length first) (more : 0 < length second) where
  abbrev meant : List (List CellMeaning)
  meant = parts_meaning table (first ∷ second ∷ [])

  -- a place has its cell with a number there
  abbrev hits : Bool → ℕ → ℕ → List ℕ → Bool
  hits leads steps n place = nat_eq n (slice_index_or place (number_in_row leads (length first) steps) 0)

  abbrev begun : Bool → ℕ → ℕ → Bool
  begun leads line p = is_target g table axis leads first second line p

  whole : (i : ℕ) → i < length (first ∷ second ∷ []) → 0 < length (part_of (first ∷ second ∷ []) i)
  whole zero low = some
  whole (suc zero) low = more
  whole (suc (suc i)) low = absurd (omega arith)

  abbrev fits_at : List CompiledCell → ℕ → ℕ → Bool
  fits_at part line = fits_from_position g (cell_on axis g.height line) (line_long axis g) (part_meaning table part)

  line_ways : (line : ℕ) → places_along g axis meant line
      ≡ map (cells_of_way (cell_on axis g.height line) (map length meant))
      (ways_from (columns_where (fits_at first line) ∷ columns_where (fits_at second line) ∷ []) (map length meant) 0)
  line_ways line =
      ways_of g axis line meant (true_sets g (cell_on axis g.height line) (line_long axis g) meant) (omega arith)
      (short_lines g axis grid)
      (true_sets-are g (cell_on axis g.height line) (line_long axis g) meant (some-meant table
      (first ∷ second ∷ []) whole))

  meant_long : (part : List CompiledCell) → length (part_meaning table part) ≡ length part
  meant_long part = length-map part (cell_meaning table)

  on_line : (leads : Bool) (steps n line : ℕ) → steps < length (own_part leads first second) →
      list_any (hits leads steps n) (places_along g axis meant line)
      ≡ list_any (λ p. nat_eq n (cell_on axis g.height line (p + steps)) && begun leads line p) all
  on_line true steps n line low =
      let cell : ℕ → ℕ = cell_on axis g.height line in
      let t : ℕ → Bool = fits_at first line in
      let u : ℕ → Bool = fits_at second line in
      let n1 : ℕ = length (part_meaning table first) in
      let n2 : ℕ = length (part_meaning table second) in
      let within : steps < n1 = rw (meant_long first) low in
      ap (list_any (hits true steps n)) (line_ways line)
      ∙ any-map (hits true steps n) (cells_of_way cell (n1 ∷ n2 ∷ [])) (ways_from
      (columns_where t ∷ columns_where u ∷ []) (n1 ∷ n2 ∷ []) 0)
      ∙ any_first (λ way. hits true steps n (cells_of_way cell (n1 ∷ n2 ∷ []) way)) (λ p. nat_eq n (cell
      (p + steps))) t u n1 n2
      (λ p q. ap (nat_eq n) (in_first cell p q n1 n2 steps within))
      ∙ any-alike (λ p. nat_eq n (cell (p + steps)) && (t p && list_any (λ q. nat_le (p + n1) q && u q) all))
      (λ p. nat_eq n (cell (p + steps)) && begun true line p) all
      (λ p. ap (λ (b : Bool). nat_eq n (cell (p + steps)) && b)
      (ap₂ (λ (a b : Bool). a && b) (sym (begins_on-meant g table axis line first p))
      (any-alike (λ q. nat_le (p + n1) q && u q) (λ q. nat_le
      (p + length first) q && begins_on g table axis line second q) all
      (λ q. ap₂ (λ (k : ℕ) (b : Bool). nat_le (p + k) q && b) (meant_long first) (sym
      (begins_on-meant g table axis line second q))))))
  on_line false steps n line low =
      let cell : ℕ → ℕ = cell_on axis g.height line in
      let t : ℕ → Bool = fits_at first line in
      let u : ℕ → Bool = fits_at second line in
      let n1 : ℕ = length (part_meaning table first) in
      let n2 : ℕ = length (part_meaning table second) in
      let within : steps < n2 = rw (meant_long second) low in
      ap (list_any (hits false steps n)) (line_ways line)
      ∙ any-map (hits false steps n) (cells_of_way cell (n1 ∷ n2 ∷ [])) (ways_from
      (columns_where t ∷ columns_where u ∷ []) (n1 ∷ n2 ∷ []) 0)
      ∙ any_second (λ way. hits false steps n (cells_of_way cell (n1 ∷ n2 ∷ []) way)) (λ q. nat_eq n (cell
      (q + steps))) t u n1 n2
      (λ p q. ap (nat_eq n)
      (ap (λ (k : ℕ). slice_index_or (cells_of_way cell (n1 ∷ n2 ∷ []) (p ∷ q ∷ [])) (k + steps) 0) (sym
      (meant_long first))
      ∙ in_second cell p q n1 n2 steps within))
      ∙ any-alike (λ q. nat_eq n (cell (q + steps)) && (u q && list_any (λ p. nat_le (p + n1) q && t p) all))
      (λ q. nat_eq n (cell (q + steps)) && begun false line q) all
      (λ q. ap (λ (b : Bool). nat_eq n (cell (q + steps)) && b)
      (ap₂ (λ (a b : Bool). a && b) (sym (begins_on-meant g table axis line second q))
      (any-alike (λ p. nat_le (p + n1) q && t p) (λ p. nat_le
      (p + length first) q && begins_on g table axis line first p) all
      (λ p. ap₂ (λ (k : ℕ) (b : Bool). nat_le (p + k) q && b) (meant_long first) (sym
      (begins_on-meant g table axis line first p))))))

  -- the part begins where it has room
  within_line : (leads : Bool) (line p : ℕ) → begun leads line p ≡ true →
      p + length (own_part leads first second) ≤ line_long axis g
  within_line leads line p is =
      let begins : begins_on g table axis line (own_part leads first second) p ≡ true =
      (and_parts (begins_on g table axis line (own_part leads first second) p)
      (has_partner g table axis leads first second line p) is).0 in
      let room : nat_le (p + length (own_part leads first second)) (line_long axis g) ≡ true =
      (and_parts (nat_le (p + length (own_part leads first second)) (line_long axis g)) _ begins).0 in
      grind (arith, nat_tests, room)

  abbrev on_lines : Bool → ℕ → ℕ → Bool
  on_lines leads steps n =
      list_any (λ line. list_any (λ p. nat_eq n (cell_on axis g.height line (p + steps)) && begun leads line p) all)
      (range_with_len 0 (line_count axis g))

  reached_forth : (leads : Bool) (steps n : ℕ) → steps < length (own_part leads first second) →
      on_lines leads steps n ≡ true →
      is_reached g table axis leads first second steps n ≡ true
  reached_forth leads steps n low is =
      let on = any-found (λ line. list_any (λ p. nat_eq n (cell_on axis g.height line
      (p + steps)) && begun leads line p) all) 0 (line_count axis g) is in
      let line : ℕ = on.number in
      let at = any-found (λ p. nat_eq n (cell_on axis g.height line
      (p + steps)) && begun leads line p) 0 SIDE_LIMIT on.is in
      let p : ℕ = at.number in
      let both = and_parts (nat_eq n (cell_on axis g.height line (p + steps))) (begun leads line p) at.is in
      let same : n ≡ cell_on axis g.height line (p + steps) = eqb-true n (cell_on axis g.height line
      (p + steps)) both.0 in
      let room : p + length (own_part leads first second) ≤ line_long axis g = within_line leads line p both.1 in
      let far : p + steps < line_long axis g = omega (arith, room, low) in
      let few : line < line_count axis g = let below : line < 0 + line_count axis g = on.far in omega (arith, below) in
      let is_line : line_of axis g.height n ≡ line = ap (line_of axis g.height) same ∙ line_of-on g axis line
      (p + steps) few far in
      let is_position : position_of axis g.height n ≡ p + steps = ap (position_of axis g.height) same
      ∙ position_of-on g axis line (p + steps) few far in
      let reach : steps ≤ p + steps = omega arith in
      let yes : nat_le steps (p + steps) ≡ true = le_true steps (p + steps) reach in
      let start : p + steps - steps ≡ p = omega arith in
      ap₂ (λ (l k : ℕ). nat_le steps k && begun leads l (k - steps)) is_line is_position
      ∙ ap₂ (λ (b : Bool) (k : ℕ). b && begun leads line k) yes start ∙ both.1

  reached_back : (leads : Bool) (steps n : ℕ) → n < g.width * g.height →
      is_reached g table axis leads first second steps n ≡ true →
      on_lines leads steps n ≡ true
  reached_back leads steps n low is =
      let line : ℕ = line_of axis g.height n in
      let position : ℕ = position_of axis g.height n in
      let p : ℕ = position - steps in
      let both = and_parts (nat_le steps position) (begun leads line p) is in
      let reach : steps ≤ position = let yes : nat_le steps position ≡ true = both.0 in grind (arith, nat_tests, yes) in
      let far : position < line_long axis g = position_of-low g axis n grid low in
      let short : line_long axis g ≤ SIDE_LIMIT = short_lines g axis grid in
      let place : p + steps ≡ position = omega (arith, reach) in
      let here : n ≡ cell_on axis g.height line (p + steps) = sym (ap (cell_on axis g.height line) place
      ∙ cell_on-of axis g.height n) in
      any-here (λ line. list_any (λ p. nat_eq n (cell_on axis g.height line
      (p + steps)) && begun leads line p) all) 0 (line_count axis g) line (omega arith)
      (let few : line < line_count axis g = line_of-low g axis n grid low in omega (arith, few))
      (any-here (λ p. nat_eq n (cell_on axis g.height line (p + steps)) && begun leads line p) 0 SIDE_LIMIT p
      (omega arith) (omega (arith, far, short))
      (ap₂ (λ (a b : Bool). a && b) (eq-eqb n (cell_on axis g.height line (p + steps)) here) both.1))

  pub targets-are : (leads : Bool) (steps n : ℕ) → steps < length (own_part leads first second) →
      n < g.width * g.height →
      list_any (hits leads steps n) (places g (direction_of axis) meant) ≡ is_reached g table axis leads first second
      steps n
  targets-are leads steps n low inside =
      ap (list_any (hits leads steps n)) (places-by_line g axis meant)
      ∙ any-flat_map (hits leads steps n) (places_along g axis meant) (range_with_len 0 (line_count axis g))
      ∙ any-alike (λ line. list_any (hits leads steps n) (places_along g axis meant line))
      (λ line. list_any (λ p. nat_eq n (cell_on axis g.height line (p + steps)) && begun leads line p) all)
      (range_with_len 0 (line_count axis g))
      (λ line. on_line leads steps n line low)
      ∙ same_tests (on_lines leads steps n) (is_reached g table axis leads first second steps n)
      (reached_forth leads steps n low) (reached_back leads steps n inside)
