-- The cells of a place downwards or rightwards have rising numbers: each a greater one than that before it.
use Rattle.std.proofs.Common.{◌≡◌, ℕ, zero, suc, ◌+◌, ◌-◌, ◌*◌, ◌/◌, ◌%◌, ◌≤◌, List, [], ◌∷◌, ◌++◌, length, map, filter}
use Rattle.std.proofs.Common.{flat_map, take, drop, refl, ap, arith}
use Rattle.std.specs.Prelude.{All, nat_le, ⊤}
use Rattle.std.specs.List.{range_with_len}
use Rattle.std.proofs.lemmas.List.Elements.{All-nil, All-cons, All-map, All-weaker, All-filter, All-same}
use Rattle.ps_model.specs.declared.pieces.Direction.{Direction}
use Rattle.ps_model.specs.declared.pieces.Direction.TheVariants.{Up, Down, Left, Right}
use Rattle.ps_model.specs.board.Grid.{Grid}
use Rattle.ps_model.specs.meaning.RuleMeanings.{CellMeaning}
use Rattle.ps_model.specs.board.Places.{cells_rightwards, cells_downwards, row_by_row, column_by_column, ways_along}
use Rattle.ps_model.specs.board.Places.{fits_along, cells_in, places}
use Rattle.ps_laws.proofs.common.Everywhere.{either_way, All-each}

-- the numbers rise, from one on
abbrev pub Rises : ℕ → List ℕ → Type 0
Rises low [] = ⊤
Rises low (cell ∷ cells) = (low ≤ cell) × Rises (suc cell) cells

-- the cells rise wherever the line does
abbrev Within : List ℕ → List ℕ → Type 0
Within line cells = (low : ℕ) → Rises low line → Rises low cells

-- what rises from a number on does so from a smaller one on
lower : (low high : ℕ) (cells : List ℕ) → low ≤ high → Rises high cells → Rises low cells
lower low high [] h rises = tt
lower low high (cell ∷ cells) h rises = let first : high ≤ cell = rises.0 in (omega arith, rises.1)

-- the rest of a line
drop-rises : (n : ℕ) (line : List ℕ) (low : ℕ) → Rises low line → Rises low (drop n line)
drop-rises zero line low rises = rises
drop-rises (suc n) [] low rises = tt
drop-rises (suc n) (cell ∷ cells) low rises = let first : low ≤ cell = rises.0 in
    drop-rises n cells low (lower low (suc cell) cells (omega arith) rises.1)

-- the beginning of a line, and then cells of its rest
taken-within : (size next : ℕ) (line others : List ℕ) → size ≤ next → Within (drop next line) others →
    Within line (take size line ++ others)
taken-within zero next line others h within low rises = within low (drop-rises next line low rises)
taken-within (suc size) zero line others h within low rises = absurd (omega arith)
taken-within (suc size) (suc next) [] others h within low rises = within low tt
taken-within (suc size) (suc next) (cell ∷ cells) others h within low rises =
    (rises.0, taken-within size next cells others (omega arith) within (suc cell) rises.1)

-- all ways along a line
ways-within : (sizes line : List ℕ) → All (Within line) (ways_along sizes line)
ways-within [] line = All-cons (Within line) [] [] (λ low rises. tt) (All-nil (Within line))
ways-within (size ∷ []) line =
    either_way (All (Within line)) (nat_le size (length line)) (map (λ others. take size line ++ others) ([] ∷ [])) []
    (All-cons (Within line) (take size line ++ []) [] (taken-within size size line [] (omega arith) (λ low rises. tt))
    (All-nil (Within line)))
    (All-nil (Within line))
ways-within (size ∷ next ∷ rest) line =
    let others_behind : ℕ → List (List ℕ) = λ gap. ways_along (next ∷ rest) (drop (size + gap) line) in
    let gaps : List ℕ = range_with_len 0 (suc (length line - size)) in
    either_way (All (Within line)) (nat_le size (length line))
    (map (λ others. take size line ++ others) (flat_map others_behind gaps)) []
    (All-map (Within line) (λ others. take size line ++ others) (flat_map others_behind gaps)
    (All-each (λ others. Within line (take size line ++ others)) others_behind gaps (λ gap.
    All-weaker (Within (drop (size + gap) line)) (λ others. Within line (take size line ++ others))
    (λ others within. taken-within size (size + gap) line others (omega arith) within) (others_behind gap)
    (ways-within (next ∷ rest) (drop (size + gap) line)))))
    (All-nil (Within line))

-- a line downwards, and a line rightwards
steps-rise : (cell start count low : ℕ) → low ≤ cell + start →
    Rises low (map (λ steps. cell + steps) (range_with_len start count))
steps-rise cell start zero low h = tt
steps-rise cell start (suc count) low h = (h, steps-rise cell (start + 1) count (suc (cell + start)) (omega arith))

columns-rise : (cell height start count low : ℕ) → 1 ≤ height → low ≤ cell + start * height →
    Rises low (map (λ steps. cell + steps * height) (range_with_len start count))
columns-rise cell height start zero low some h = tt
columns-rise cell height start (suc count) low some h =
    let next : (start + 1) * height ≡ start * height + height = omega arith in
    (h, columns-rise cell height (start + 1) count (suc (cell + start * height)) some (omega arith))

-- the ways along a line that rises
ways-rise : (sizes line : List ℕ) → Rises 0 line → All (Rises 0) (ways_along sizes line)
ways-rise sizes line rises = All-weaker (Within line) (Rises 0) (λ cells within.
    within 0 rises) (ways_along sizes line) (ways-within sizes line)

-- places downwards
down-rise : (g : Grid) (row : List (List CellMeaning)) → All (Rises 0) (places g Down row)
down-rise g row =
    All-each (Rises 0) (λ end. filter (fits_along g (cells_in row))
    (ways_along (map length row) (cells_downwards g end))) (column_by_column g) (λ end.
    All-filter (fits_along g (cells_in row)) (Rises 0) (ways_along (map length row) (cells_downwards g end))
    (ways-rise (map length row) (cells_downwards g end) (steps-rise end 0 (g.height - end % g.height) 0 (omega arith))))

-- places rightwards: on a grid without rows there are none
right-rise : (g : Grid) (row : List (List CellMeaning)) (height : ℕ) → g.height ≡ height →
    All (Rises 0) (places g Right row)
right-rise g row zero none =
    let found : ℕ → List (List ℕ) = λ end. filter (fits_along g (cells_in row))
    (ways_along (map length row) (cells_rightwards g end)) in
    All-same (Rises 0) (places g Right row) []
    (ap (λ (rows : ℕ). flat_map found (flat_map (λ at.
    map (λ column. column * g.height + at) (range_with_len 0 g.width)) (range_with_len 0 rows))) none)
    (All-nil (Rises 0))
right-rise g row (suc more) some =
    All-each (Rises 0) (λ end. filter (fits_along g (cells_in row))
    (ways_along (map length row) (cells_rightwards g end))) (row_by_row g) (λ end.
    All-filter (fits_along g (cells_in row)) (Rises 0) (ways_along (map length row) (cells_rightwards g end))
    (ways-rise (map length row) (cells_rightwards g end)
    (columns-rise end g.height 0 (g.width - end / g.height) 0 (omega arith) (omega arith))))

-- the direction is down or right
abbrev pub IsForwards : Direction → Type 0
IsForwards Up = ⊥
IsForwards Down = ⊤
IsForwards Left = ⊥
IsForwards Right = ⊤

pub places-rise : (g : Grid) (direction : Direction) → IsForwards direction → (row : List (List CellMeaning)) →
    All (Rises 0) (places g direction row)
places-rise g Up h row = absurd h
places-rise g Down h row = down-rise g row
places-rise g Left h row = absurd h
places-rise g Right h row = right-rise g row g.height refl
