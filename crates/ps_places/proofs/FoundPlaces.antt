-- The places of a row from the sets of positions that were found.
use Rattle.std.proofs.Common.{◌≡◌, ◌∙◌, ℕ, ◌+◌, ◌*◌, ◌<◌, ◌≤◌, ◌&&◌, suc, zero, Bool, true, false, Option, List, []}
use Rattle.std.proofs.Common.{◌∷◌, length, map, filter, drop, refl, sym, ap, ap₂, arith}
use Rattle.std.specs.Prelude.{All, nat_le, slice_index_or}
use Rattle.std.specs.List.{range_with_len, flat_map}
use Rattle.std.proofs.lemmas.Grind.{common_steps}
use Rattle.std.proofs.lemmas.List.{get_or-take, get_or-drop, length-map}
use Rattle.std.proofs.lemmas.List.Elements.{All-get_or}
use Rattle.std.proofs.Math.Nat.{add-mul, mul-le-mul_right}
use Rattle.ps_model.specs.declared.limits.TheConstants.{SIDE_LIMIT}
use Rattle.ps_model.specs.board.Grid.{Grid, IsGrid}
use Rattle.ps_model.specs.board.Places.{fits_along, places}
use Rattle.ps_model.specs.meaning.RuleMeanings.{CellMeaning}
use Rattle.ps_program.specs.Axes.{direction_of}
use Rattle.ps_laws.specs.WholeRows.{HasCells}
use Rattle.ps_program.specs.declared.cells.CompiledCell.{CompiledCell}
use Rattle.ps_program.specs.declared.rows.Axis.{Axis}
use Rattle.ps_program.specs.declared.rows.Axis.TheVariants.{Down, Right}
use Rattle.ps_board.specs.ColumnSets.{column_at, columns_where, set_columns}
use Rattle.ps_board.proofs.ColumnLaws.{set_columns-are, set_columns-where, none_on}
use Rattle.ps_board.proofs.Taken.{AreBelow, ArePassed, gathered-all}
use Rattle.ps_places.specs.FoundStarts.{AreLinesFound, BeginInSets, HasNoWay, begins_on, part_of, set_of}
use Rattle.ps_places.specs.Lines.{cell_meaning, cell_on, line_count, line_long, part_meaning}
use Rattle.ps_places.specs.RowPlaces.{part_sizes, parts_meaning, places_on, places_on_lines, sets_on, way_cells}
use Rattle.ps_places.specs.Starts.{AreWhere}
use Rattle.ps_places.specs.Ways.{positions_from, ways_from}
use Rattle.ps_places.proofs.LinePlaces.{line_cells-are, places-by_line, places_along, way_cells-are}
use Rattle.ps_places.proofs.LineWays.{AreSetsOf, cells_of_way, fits_from_position, ways_on_line}
use Rattle.ps_places.proofs.Ranges.{flat_map-none, passing-agree}
use Rattle.ps_places.proofs.FoundLines.{few_lines}

-- a part begins where its meaning has room and fits
pub begins_on-meant : (g : Grid) (table : Option (List ℕ)) (axis : Axis) (line : ℕ) (part : List CompiledCell)
    (position : ℕ) →
    begins_on g table axis line part position ≡ fits_from_position g (cell_on axis g.height line) (line_long axis g)
    (part_meaning table part) position
begins_on-meant g table axis line part position =
    ap₂ (λ (n : ℕ) (cells : List ℕ). nat_le (position + n) (line_long axis g) && fits_along g
    (part_meaning table part) cells)
    (sym (length-map part (cell_meaning table)))
    (line_cells-are axis g.height line position (length part)
    ∙ ap (λ (n : ℕ). map (cell_on axis g.height line) (range_with_len position n))
    (sym (length-map part (cell_meaning table))))

-- the sets of a line
pub sets-are : (g : Grid) (table : Option (List ℕ)) (axis : Axis) (line : ℕ) (parts : List (List CompiledCell))
    (sets : List (List Bool)) → length sets ≡ length parts →
    ((i : ℕ) → i < length parts → 0 < length (part_of parts i)) →
    ((i : ℕ) → i < length parts → AreWhere (begins_on g table axis line (part_of parts i)) (slice_index_or sets i [])) →
    AreSetsOf g (cell_on axis g.height line) (line_long axis g) (parts_meaning table parts) sets
sets-are g table axis line [] [] e some are = tt
sets-are g table axis line [] (set ∷ sets) e some are = absurd (omega arith)
sets-are g table axis line (part ∷ parts) [] e some are = absurd (omega arith)
sets-are g table axis line (part ∷ parts) (set ∷ sets) e some are =
    let here : AreWhere (begins_on g table axis line part) set = are 0 (omega arith) in
    let long : length (part_meaning table part) ≡ length part = length-map part (cell_meaning table) in
    let cells : 0 < length part = some 0 (omega arith) in (
      set_columns-are set (fits_from_position g (cell_on axis g.height line) (line_long axis g)
          (part_meaning table part))
          (λ x low. here.at x low ∙ begins_on-meant g table axis line part x),
      (
        rw long cells,
        sets-are g table axis line parts sets (omega arith) (λ i low. some (suc i) (omega arith))
            (λ i low. are (suc i) (omega arith)),
      ),
    )

-- the places on a line
pub ways_of : (g : Grid) (axis : Axis) (line : ℕ) (parts : List (List CellMeaning)) (sets : List (List Bool)) →
    0 < length parts → line_long axis g ≤ SIDE_LIMIT →
    AreSetsOf g (cell_on axis g.height line) (line_long axis g) parts sets →
    places_along g axis parts line ≡ map (cells_of_way (cell_on axis g.height line) (map length parts))
    (ways_from sets (map length parts) 0)
ways_of g axis line [] sets some small are = absurd (omega arith)
ways_of g axis line (part ∷ parts) [] some small are = absurd are
ways_of g axis line (part ∷ parts) (set ∷ sets) some small are =
    ways_on_line g (cell_on axis g.height line) (line_long axis g) part parts set sets 0 (line_long axis g) are
    (omega arith) (omega arith) small

sizes-meant : (table : Option (List ℕ)) (parts : List (List CompiledCell)) →
    map length (parts_meaning table parts) ≡ part_sizes parts
sizes-meant table [] = refl
sizes-meant table (part ∷ parts) = ap₂ (λ (n : ℕ) (ns : List ℕ). n ∷ ns) (length-map part (cell_meaning table))
    (sizes-meant table parts)

ways-meant : (axis : Axis) (height line : ℕ) (sizes : List ℕ) (ways : List (List ℕ)) →
    map (cells_of_way (cell_on axis height line) sizes) ways ≡ map (way_cells axis height line sizes) ways
ways-meant axis height line sizes [] = refl
ways-meant axis height line sizes (way ∷ ways) = ap₂ (λ (x : List ℕ) (xs : List (List ℕ)). x ∷ xs)
    (sym (way_cells-are axis height line sizes way)) (ways-meant axis height line sizes ways)

-- a line on which one of the parts begins nowhere
abbrev pub true_sets : Grid → (ℕ → ℕ) → ℕ → List (List CellMeaning) → List (List Bool)
true_sets g cell long parts = map (λ part. columns_where (fits_from_position g cell long part)) parts

pub true_sets-are : (g : Grid) (cell : ℕ → ℕ) (long : ℕ) (parts : List (List CellMeaning)) →
    ((i : ℕ) → i < length parts → 0 < length (slice_index_or parts i [])) →
    AreSetsOf g cell long parts (true_sets g cell long parts)
true_sets-are g cell long [] some = tt
true_sets-are g cell long (part ∷ parts) some = (
  set_columns-where (fits_from_position g cell long part),
  (some 0 (omega arith), true_sets-are g cell long parts (λ i low. some (suc i) (omega arith))),
)

no_ways_from : (g : Grid) (cell : ℕ → ℕ) (long : ℕ) (parts : List (List CellMeaning)) (number from : ℕ) →
    number < length parts →
    ((position : ℕ) → position < SIDE_LIMIT → fits_from_position g cell long (slice_index_or parts number []) position
    ≡ false) →
    ways_from (true_sets g cell long parts) (map length parts) from ≡ []
no_ways_from g cell long [] number from low none = absurd (omega arith)
no_ways_from g cell long (part ∷ parts) zero from low none =
    ap (λ (positions : List ℕ). flat_map (λ position. map (λ way. position ∷ way)
    (ways_from (true_sets g cell long parts) (map length parts) (position + length part)))
    (filter (λ position. nat_le from position) positions))
    (set_columns-where (fits_from_position g cell long part)
    ∙ none_on (fits_from_position g cell long part) 0 SIDE_LIMIT (λ position near far. none position (omega arith)))
no_ways_from g cell long (part ∷ parts) (suc number) from low none =
    flat_map-none (λ position. map (λ way. position ∷ way)
    (ways_from (true_sets g cell long parts) (map length parts) (position + length part)))
    (positions_from (columns_where (fits_from_position g cell long part)) from)
    (λ position. ap (map (λ way. position ∷ way)) (no_ways_from g cell long parts number (position + length part)
    (omega arith) none))

-- parts as they are meant, by number
part_of-meant : (table : Option (List ℕ)) (parts : List (List CompiledCell)) (i : ℕ) → i < length parts →
    slice_index_or (parts_meaning table parts) i [] ≡ part_meaning table (part_of parts i)
part_of-meant table [] i low = absurd (omega arith)
part_of-meant table (part ∷ parts) zero low = refl
part_of-meant table (part ∷ parts) (suc i) low = part_of-meant table parts i (omega arith)

pub some-meant : (table : Option (List ℕ)) (parts : List (List CompiledCell)) →
    ((i : ℕ) → i < length parts → 0 < length (part_of parts i)) → (i : ℕ) → i < length (parts_meaning table parts) →
    0 < length (slice_index_or (parts_meaning table parts) i [])
some-meant table parts some i low =
    let within : i < length parts = rw (← length-map parts (part_meaning table)) low in
    let long : length (slice_index_or (parts_meaning table parts) i []) ≡ length (part_of parts i) =
    ap length (part_of-meant table parts i within) ∙ length-map (part_of parts i) (cell_meaning table) in
    rw long (some i within)

-- a line that wasn't found has no place
pub no_places : (g : Grid) (table : Option (List ℕ)) (axis : Axis) (line : ℕ) (parts : List (List CompiledCell)) →
    line_long axis g ≤ SIDE_LIMIT →
    ((i : ℕ) → i < length parts → 0 < length (part_of parts i)) → HasNoWay g table axis parts line →
    places_along g axis (parts_meaning table parts) line ≡ []
no_places g table axis line parts small some none =
    let cell : ℕ → ℕ = cell_on axis g.height line in
    let long : ℕ = line_long axis g in
    let meant : List (List CellMeaning) = parts_meaning table parts in
    let within : none.number < length meant = rw (length-map parts (part_meaning table)) none.within in
    ways_of g axis line meant (true_sets g cell long meant) (omega (arith, within)) small
    (true_sets-are g cell long meant (some-meant table parts some))
    ∙ ap (map (cells_of_way cell (map length meant)))
    (no_ways_from g cell long meant none.number 0 within
    (λ position low.
    ap (λ (part : List CellMeaning). fits_from_position g cell long part position)
    (part_of-meant table parts none.number none.within)
    ∙ sym (begins_on-meant g table axis line (part_of parts none.number) position) ∙ (none.nowhere).at position low))

-- a line that was found
sets_on-at : (starts : List (List Bool)) (count line i : ℕ) → i < count →
    slice_index_or (sets_on starts count line) i [] ≡ set_of starts count line i
sets_on-at starts count line i low = get_or-take count (drop (line * count) starts) i [] low
    ∙ get_or-drop (line * count) starts i []

sets_on-long : (starts : List (List Bool)) (count line : ℕ) → line < SIDE_LIMIT → SIDE_LIMIT * count ≤ length starts →
    length (sets_on starts count line) ≡ count
sets_on-long starts count line low long =
    let step : (line + 1) * count ≡ line * count + 1 * count = add-mul line 1 count in
    let most : (line + 1) * count ≤ SIDE_LIMIT * count =
    mul-le-mul_right count (let next : line + 1 ≤ SIDE_LIMIT = omega arith in next) in
    let room : line * count + count ≤ length starts = omega arith in
    grind (arith, common_steps, room)

pub found_places : (g : Grid) (table : Option (List ℕ)) (axis : Axis) (line : ℕ) (parts : List (List CompiledCell))
    (starts : List (List Bool)) → line < SIDE_LIMIT → line_long axis g ≤ SIDE_LIMIT →
    SIDE_LIMIT * length parts ≤ length starts → 0 < length parts →
    ((i : ℕ) → i < length parts → 0 < length (part_of parts i)) →
    BeginInSets g table axis parts line (set_of starts (length parts) line) (length parts) →
    places_along g axis (parts_meaning table parts) line ≡ places_on axis g.height parts starts line
found_places g table axis line parts starts low small long any some found =
    let sets : List (List Bool) = sets_on starts (length parts) line in
    let cell : ℕ → ℕ = cell_on axis g.height line in
    let meant : 0 < length (parts_meaning table parts) = rw (length-map parts (part_meaning table)) any in
    ways_of g axis line (parts_meaning table parts) sets meant small
    (sets-are g table axis line parts sets (sets_on-long starts (length parts) line low long) some
    (λ i within. rw (sets_on-at starts (length parts) line i within) (found.at i within)))
    ∙ ap (λ (sizes : List ℕ). map (cells_of_way cell sizes) (ways_from sets sizes 0)) (sizes-meant table parts)
    ∙ ways-meant axis g.height line (part_sizes parts) (ways_from sets (part_sizes parts) 0)

-- all places ----------------------------------------------------------------------------------------------------------

pub short_lines : (g : Grid) (axis : Axis) → IsGrid g → line_long axis g ≤ SIDE_LIMIT
short_lines g Down grid = grid.rows
short_lines g Right grid = grid.columns

not_in : (lines : List Bool) (line count : ℕ) (b : Bool) → column_at lines line ≡ b → count ≤ line →
    (column_at lines line ≡ true → line < count) → column_at lines line ≡ false
not_in lines line count true e far below = absurd (let low : line < count = below e in omega arith)
not_in lines line count false e far below = e

found_on_lines : (g : Grid) (table : Option (List ℕ)) (axis : Axis) (parts : List (List CompiledCell))
    (starts : List (List Bool)) (lines : List Bool) → IsGrid g → 0 < length parts → All HasCells parts →
    SIDE_LIMIT * length parts ≤ length starts → AreLinesFound g table axis parts starts lines (length parts) →
    flat_map (places_along g axis (parts_meaning table parts)) (set_columns lines)
    ≡ flat_map (places_on axis g.height parts starts) (set_columns lines)
unfolding set_columns
found_on_lines g table axis parts starts lines grid any whole long are =
    let few : line_count axis g ≤ SIDE_LIMIT = few_lines g axis grid in
    passing-agree (places_along g axis (parts_meaning table parts)) (places_on axis g.height parts starts)
    (column_at lines) (range_with_len 0 SIDE_LIMIT)
    (λ line is.
    let low : line < line_count axis g = are.below line is in
    found_places g table axis line parts starts (omega (arith, low, few)) (short_lines g axis grid) long any
    (λ i within. All-get_or HasCells parts i [] within whole)
    ((are.each line low).found is))

-- the lines found have all places of the row
pub places-found : (g : Grid) (table : Option (List ℕ)) (axis : Axis) (parts : List (List CompiledCell))
    (starts : List (List Bool)) (lines : List Bool) → IsGrid g → 0 < length parts → All HasCells parts →
    SIDE_LIMIT * length parts ≤ length starts → AreLinesFound g table axis parts starts lines (length parts) →
    places g (direction_of axis) (parts_meaning table parts)
    ≡ places_on_lines axis g.height parts starts (set_columns lines)
places-found g table axis parts starts lines grid any whole long are =
    let count : ℕ = line_count axis g in
    let few : count ≤ SIDE_LIMIT = few_lines g axis grid in
    let below : AreBelow count lines = record {
      at =
          λ line low far. not_in lines line count (column_at lines line) refl far (are.below line);
    } in
    let passed : ArePassed (λ line. places_along g axis (parts_meaning table parts) line ≡ []) count lines =
    record {
      at = λ line low out.
          no_places g table axis line parts (short_lines g axis grid)
          (λ i within. All-get_or HasCells parts i [] within whole) ((are.each line low).none out);
    } in
    places-by_line g axis (parts_meaning table parts)
    ∙ sym (gathered-all (places_along g axis (parts_meaning table parts)) lines count few below passed)
    ∙ found_on_lines g table axis parts starts lines grid any whole long are
