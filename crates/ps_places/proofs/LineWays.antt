-- The ways of parts along a line, where the set of each part has exactly the positions at which it fits.
use Rattle.std.proofs.Common.{◌≡◌, ◌∙◌, ℕ, ◌+◌, ◌-◌, ◌<◌, ◌≤◌, ◌&&◌, suc, Bool, true, false, cond, List, [], ◌∷◌, ◌++◌}
use Rattle.std.proofs.Common.{length, map, filter, take, drop, refl, sym, ap, ap₂, arith}
use Rattle.std.specs.Prelude.{nat_le, slice_get, ⊤}
use Rattle.std.specs.List.{range_with_len, flat_map}
use Rattle.std.proofs.lemmas.Bool.Decides.{nat_tests}
use Rattle.std.proofs.lemmas.Simd.{map-map}
use Rattle.std.proofs.lemmas.List.FromFn.{length-map-range_with_len, take-map-range_with_len}
use Rattle.ps_model.specs.declared.limits.TheConstants.{SIDE_LIMIT}
use Rattle.ps_model.specs.board.Grid.{Grid}
use Rattle.ps_model.specs.board.Places.{cells_in, fits_along, fits_there, ways_along}
use Rattle.ps_model.specs.meaning.RuleMeanings.{CellMeaning}
use Rattle.ps_laws.proofs.common.Stages.{map-flat_map}
use Rattle.ps_board.specs.ColumnSets.{set_columns}
use Rattle.ps_places.specs.Ways.{positions_from, ways_from}
use Rattle.ps_places.proofs.Ranges.{agree_from, both_ends, drop-map-range, filter-flat_map, lists_passing}
use Rattle.ps_laws.proofs.common.Lists.{range_lists-agree}
use Rattle.ps_places.proofs.Ranges.{passing_from}

-- the line's cells from a position on
abbrev pub line_from : (ℕ → ℕ) → ℕ → ℕ → List ℕ
line_from cell long position = map cell (range_with_len position (long - position))

-- the cells of parts of these sizes that lie a way on it
abbrev pub cells_of_way : (ℕ → ℕ) → List ℕ → List ℕ → List ℕ
cells_of_way cell [] way = []
cells_of_way cell (size ∷ sizes) [] = []
cells_of_way cell (size ∷ sizes) (position ∷ way) =
    map cell (range_with_len position size) ++ cells_of_way cell sizes way

-- a part has room from a position on, and fits there
abbrev pub fits_from_position : Grid → (ℕ → ℕ) → ℕ → List CellMeaning → ℕ → Bool
fits_from_position g cell long part position = nat_le (position + length part) long && fits_along g part
    (map cell (range_with_len position (length part)))

-- there is a set for each part, with the positions at which the part fits; each part has a cell
abbrev pub AreSetsOf : Grid → (ℕ → ℕ) → ℕ → List (List CellMeaning) → List (List Bool) → Type 0
AreSetsOf g cell long [] [] = ⊤
AreSetsOf g cell long [] (set ∷ sets) = ⊥
AreSetsOf g cell long (part ∷ parts) [] = ⊥
AreSetsOf g cell long (part ∷ parts) (set ∷ sets) =
    (set_columns set ≡ filter (fits_from_position g cell long part) (range_with_len 0 SIDE_LIMIT)) ×
    ((0 < length part) × AreSetsOf g cell long parts sets)

-- cells of a part, and cells behind them
if_and : (test a b : Bool) → (elim test [ true ↦ a && b | false ↦ false ])
    ≡ ((elim test [ true ↦ a | false ↦ false ]) && b)
if_and true a b = refl
if_and false a b = refl

pub fits_along-append : (g : Grid) (part others : List CellMeaning) (cells more : List ℕ) → length part ≡ length cells →
    fits_along g (part ++ others) (cells ++ more) ≡ (fits_along g part cells && fits_along g others more)
fits_along-append g [] others [] more e = refl
fits_along-append g [] others (cell ∷ cells) more e = absurd (omega arith)
fits_along-append g (meaning ∷ part) others [] more e = absurd (omega arith)
fits_along-append g (meaning ∷ part) others (cell ∷ cells) more e =
    ap (λ (b : Bool). elim (fits_there meaning (slice_get g.cells cell)) [ true ↦ b | false ↦ false ])
    (fits_along-append g part others cells more (omega arith))
    ∙ if_and (fits_there meaning (slice_get g.cells cell)) (fits_along g part cells) (fits_along g others more)

one_more : {X Y : Type 0} (f : X → Y) (x : X) (xs : List X) (here b : Bool) →
    cond (here && b) (f x ∷ cond here (map f xs) []) (cond here (map f xs) [])
    ≡ cond here (map f (cond b (x ∷ xs) xs)) []
one_more f x xs true true = refl
one_more f x xs true false = refl
one_more f x xs false b = refl

none_of : {X : Type 0} (b : Bool) (none : List X) → none ≡ [] → [] ≡ cond b none []
none_of true none e = sym e
none_of false none e = refl

fitting_behind : (g : Grid) (part others : List CellMeaning) (cells : List ℕ) (rest : List (List ℕ)) →
    length part ≡ length cells →
    filter (fits_along g (part ++ others)) (map (λ more. cells ++ more) rest)
    ≡ cond (fits_along g part cells) (map (λ more. cells ++ more) (filter (fits_along g others) rest)) []
fitting_behind g part others cells [] e = none_of (fits_along g part cells) [] refl
fitting_behind g part others cells (more ∷ rest) e =
    ap₂ (λ (b : Bool) (xs : List (List ℕ)). cond b ((cells ++ more) ∷ xs) xs)
    (fits_along-append g part others cells more e) (fitting_behind g part others cells rest e)
    ∙ one_more (λ more. cells ++ more) more (filter (fits_along g others) rest) (fits_along g part cells)
    (fits_along g others more)

-- the ways of the parts behind the first one
abbrev pub ways_of_others : List ℕ → ℕ → List ℕ → List (List ℕ)
ways_of_others [] size line = [] ∷ []
ways_of_others (next ∷ rest) size line = flat_map (λ gap. ways_along (next ∷ rest) (drop (size + gap) line))
    (range_with_len 0 (suc (length line - size)))

ways_here : (size : ℕ) (sizes line : List ℕ) (test : Bool) → nat_le size (length line) ≡ test → test ≡ true →
    ways_along (size ∷ sizes) line ≡ map (λ others. take size line ++ others) (ways_of_others sizes size line)
ways_here size [] line test e holds = rw (e, holds, ways_along) refl
ways_here size (next ∷ rest) line test e holds = rw (e, holds, ways_along) refl

no_ways : (size : ℕ) (sizes line : List ℕ) (test : Bool) → nat_le size (length line) ≡ test → test ≡ false →
    ways_along (size ∷ sizes) line ≡ []
no_ways size [] line test e fails = rw (e, fails, ways_along) refl
no_ways size (next ∷ rest) line test e fails = rw (e, fails, ways_along) refl

-- the ways whose first part lies at one position
one_position : (g : Grid) (cell : ℕ → ℕ) (long : ℕ) (part : List CellMeaning) (parts : List (List CellMeaning))
    (sets : List (List Bool)) (position : ℕ) (room : Bool) →
    nat_le (position + length part) long ≡ room → 0 < length part →
    (position + length part ≤ long →
    filter (fits_along g (cells_in parts)) (ways_of_others (map length parts) (length part)
    (line_from cell long position))
    ≡ map (cells_of_way cell (map length parts)) (ways_from sets (map length parts) (position + length part))) →
    filter (fits_along g (part ++ cells_in parts))
    (ways_along (length part ∷ map length parts) (line_from cell long position))
    ≡ cond (room && fits_along g part (map cell (range_with_len position (length part))))
    (map (cells_of_way cell (length part ∷ map length parts))
    (map (λ way. position ∷ way) (ways_from sets (map length parts) (position + length part)))) []
one_position g cell long part parts sets position true t some others =
    let size : ℕ = length part in
    let sizes : List ℕ = map length parts in
    let line : List ℕ = line_from cell long position in
    let here : List ℕ = map cell (range_with_len position size) in
    let ways : List (List ℕ) = ways_from sets sizes (position + size) in
    let fit : position + size ≤ long = grind (arith, nat_tests) in
    let near : size ≤ long - position = omega arith in
    let holds : nat_le size (long - position) ≡ true = grind (arith, nat_tests, near) in
    let front : take size line ≡ here = take-map-range_with_len cell position (long - position) size near in
    let same : length part ≡ length (take size line) =
    sym (ap length front ∙ length-map-range_with_len cell position size) in
    ap (filter (fits_along g (part ++ cells_in parts)))
    (ways_here size sizes line _ refl (ap (nat_le size) (length-map-range_with_len cell position (long - position))
    ∙ holds))
    ∙ fitting_behind g part (cells_in parts) (take size line) (ways_of_others sizes size line) same
    ∙ ap₂ (λ (cells : List ℕ) (rest : List (List ℕ)). cond (fits_along g part cells)
    (map (λ more. cells ++ more) rest) []) front (others fit)
    ∙ ap (λ (all : List (List ℕ)). cond (fits_along g part here) all [])
    (map-map (λ more. here ++ more) (cells_of_way cell sizes) ways
    ∙ sym (map-map (cells_of_way cell (size ∷ sizes)) (λ way. position ∷ way) ways))
one_position g cell long part parts sets position false t some others =
    let size : ℕ = length part in
    let fails : nat_le size (long - position) ≡ false = grind (arith, nat_tests, some) in
    ap (filter (fits_along g (part ++ cells_in parts)))
    (no_ways size (map length parts) (line_from cell long position) _ refl
    (ap (nat_le size) (length-map-range_with_len cell position (long - position)) ∙ fails))

-- a part has no room beyond the line's end
beyond : (g : Grid) (cell : ℕ → ℕ) (long : ℕ) (part : List CellMeaning) (position : ℕ) → 0 < length part →
    long ≤ position → fits_from_position g cell long part position ≡ false
beyond g cell long part position some far = let out : nat_le (position + length part) long ≡ false =
    grind (arith, nat_tests, some, far) in rw out refl

positions-are : (g : Grid) (cell : ℕ → ℕ) (long : ℕ) (part : List CellMeaning) (set : List Bool) (from n : ℕ) →
    set_columns set ≡ filter (fits_from_position g cell long part) (range_with_len 0 SIDE_LIMIT) → 0 < length part →
    from ≤ long → long ≤ from + n → long ≤ SIDE_LIMIT →
    filter (fits_from_position g cell long part) (range_with_len from n) ≡ positions_from set from
positions-are g cell long part set from n is some near far small =
    let test : ℕ → Bool = fits_from_position g cell long part in
    let all : from + (SIDE_LIMIT - from) ≡ SIDE_LIMIT = omega arith in
    both_ends test from n (SIDE_LIMIT - from) long far (omega arith)
    (λ position past. beyond g cell long part position some past)
    ∙ sym (passing_from test from 0 from (SIDE_LIMIT - from) (omega arith))
    ∙ ap (λ (k : ℕ). filter (λ p. nat_le from p) (filter test (range_with_len 0 k))) all
    ∙ ap (filter (λ p. nat_le from p)) (sym is)

gathered : (g : Grid) (cell : ℕ → ℕ) (long : ℕ) (part : List CellMeaning) (parts : List (List CellMeaning))
    (set : List Bool) (sets : List (List Bool)) (from n : ℕ) →
    set_columns set ≡ filter (fits_from_position g cell long part) (range_with_len 0 SIDE_LIMIT) → 0 < length part →
    from ≤ long → long ≤ from + n → long ≤ SIDE_LIMIT →
    ((position : ℕ) → position + length part ≤ long →
    filter (fits_along g (cells_in parts)) (ways_of_others (map length parts) (length part)
    (line_from cell long position))
    ≡ map (cells_of_way cell (map length parts)) (ways_from sets (map length parts) (position + length part))) →
    flat_map (λ position. filter (fits_along g (part ++ cells_in parts))
    (ways_along (length part ∷ map length parts) (line_from cell long position))) (range_with_len from n)
    ≡ map (cells_of_way cell (length part ∷ map length parts))
    (ways_from (set ∷ sets) (length part ∷ map length parts) from)
gathered g cell long part parts set sets from n is some near far small others =
    let sizes : List ℕ = map length parts in
    let test : ℕ → Bool = fits_from_position g cell long part in
    let ways : ℕ → List (List ℕ) = λ position. map (λ way. position ∷ way)
    (ways_from sets sizes (position + length part)) in
    let here : ℕ → List (List ℕ) = λ position. map (cells_of_way cell (length part ∷ sizes)) (ways position) in
    range_lists-agree (λ position. filter (fits_along g (part ++ cells_in parts))
    (ways_along (length part ∷ sizes) (line_from cell long position)))
    (λ position. cond (test position) (here position) []) from n
    (λ position low high. one_position g cell long part parts sets position
    (nat_le (position + length part) long) refl some (others position))
    ∙ lists_passing here test (range_with_len from n)
    ∙ ap (flat_map here) (positions-are g cell long part set from n is some near far small)
    ∙ sym (map-flat_map (cells_of_way cell (length part ∷ sizes)) ways (positions_from set from))

-- the line's cells behind a part and a gap
line_behind : (cell : ℕ → ℕ) (long position size gap : ℕ) →
    drop (size + (0 + gap)) (line_from cell long position) ≡ line_from cell long (position + size + gap)
line_behind cell long position size gap =
    let at : position + (size + (0 + gap)) ≡ position + size + gap = omega arith in
    let left : long - position - (size + (0 + gap)) ≡ long - (position + size + gap) = omega arith in
    drop-map-range cell position (long - position) (size + (0 + gap))
    ∙ ap₂ (λ (a n : ℕ). map cell (range_with_len a n)) at left

-- all ways from a position on
pub ways_on_line : (g : Grid) (cell : ℕ → ℕ) (long : ℕ) (part : List CellMeaning) (parts : List (List CellMeaning))
    (set : List Bool) (sets : List (List Bool)) (from n : ℕ) →
    AreSetsOf g cell long (part ∷ parts) (set ∷ sets) → from ≤ long → long ≤ from + n → long ≤ SIDE_LIMIT →
    flat_map (λ position. filter (fits_along g (part ++ cells_in parts))
    (ways_along (length part ∷ map length parts) (line_from cell long position))) (range_with_len from n)
    ≡ map (cells_of_way cell (length part ∷ map length parts))
    (ways_from (set ∷ sets) (length part ∷ map length parts) from)
ways_on_line g cell long part [] set [] from n are near far small =
    gathered g cell long part [] set [] from n are.0 are.1.0 near far small (λ position fit. refl)
ways_on_line g cell long part [] set (more ∷ sets) from n are near far small = absurd (are.1.1)
ways_on_line g cell long part (next ∷ rest) set [] from n are near far small = absurd (are.1.1)
ways_on_line g cell long part (next ∷ rest) set (more ∷ sets) from n are near far small =
    let size : ℕ = length part in
    let sizes : List ℕ = length next ∷ map length rest in
    gathered g cell long part (next ∷ rest) set (more ∷ sets) from n are.0 are.1.0 near far small
    (λ position fit.
    let line : List ℕ = line_from cell long position in
    let fits : List ℕ → Bool = fits_along g (next ++ cells_in rest) in
    let count : ℕ = suc (long - (position + size)) in
    let counted : suc (length line - size) ≡ count =
    let whole : length line ≡ long - position = length-map-range_with_len cell position (long - position) in
    omega arith in
    filter-flat_map fits (λ gap. ways_along sizes (drop (size + gap) line))
    (range_with_len 0 (suc (length line - size)))
    ∙ ap (λ (k : ℕ). flat_map (λ gap. filter fits (ways_along sizes (drop (size + gap) line))) (range_with_len 0 k))
    counted
    ∙ agree_from (λ gap. filter fits (ways_along sizes (drop (size + gap) line)))
    (λ place. filter fits (ways_along sizes (line_from cell long place))) 0 (position + size) count
    (λ gap low. ap (λ (cells : List ℕ). filter fits (ways_along sizes cells)) (line_behind cell long position size gap))
    ∙ ways_on_line g cell long next rest more sets (position + size) count are.1.1 fit (omega arith) small)
