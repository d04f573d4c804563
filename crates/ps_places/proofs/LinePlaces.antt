-- The places of a row line by line.
use Rattle.std.proofs.Common.{◌≡◌, ◌∙◌, ℕ, ◌+◌, ◌-◌, ◌*◌, ◌<◌, suc, zero, Bool, List, [], ◌∷◌, ◌++◌, length, map}
use Rattle.std.proofs.Common.{filter, refl, sym, ap, ap₂, arith}
use Rattle.std.specs.List.{range_with_len, flat_map}
use Rattle.std.proofs.lemmas.List.Folds.{flat_map-map}
use Rattle.std.proofs.lemmas.Nat.{div-mul-add, mod-mul-add}
use Rattle.std.proofs.Math.Nat.{add-mul}
use Rattle.ps_model.specs.board.Grid.{Grid}
use Rattle.ps_model.specs.board.Places.{cells_in, cells_downwards, cells_rightwards, fits_along, places, ways_along}
use Rattle.ps_model.specs.meaning.RuleMeanings.{CellMeaning}
use Rattle.ps_laws.proofs.common.Stages.{flat_map-flat_map}
use Rattle.ps_program.specs.Axes.{direction_of}
use Rattle.ps_program.specs.declared.rows.Axis.{Axis}
use Rattle.ps_program.specs.declared.rows.Axis.TheVariants.{Down, Right}
use Rattle.ps_places.specs.Lines.{cell_on, line_cells, line_count, line_long}
use Rattle.ps_places.specs.RowPlaces.{way_cells}
use Rattle.ps_places.proofs.LineWays.{cells_of_way, line_from}
use Rattle.ps_places.proofs.Ranges.{agree_from, flat_map-agree, map-range-agree, map-range-shift}
use Rattle.ps_laws.proofs.common.Lists.{range_lists-agree}
use Rattle.ps_places.proofs.Ranges.{ranges_apart}

-- the cells of a line by position
pub line_cells-are : (axis : Axis) (height line position size : ℕ) →
    line_cells axis height line position size ≡ map (cell_on axis height line) (range_with_len position size)
line_cells-are Down height line position size =
    map-range-agree (λ k. line * height + position + k * 1) (λ k. cell_on Down height line (k + position)) 0 size
    (λ k low high. omega arith)
    ∙ map-range-shift (cell_on Down height line) 0 size position
    ∙ ap (λ (a : ℕ). map (cell_on Down height line) (range_with_len a size))
    (let e : 0 + position ≡ position = omega arith in e)
line_cells-are Right height line position size =
    map-range-agree (λ k. position * height + line + k * height) (λ k. cell_on Right height line (k + position)) 0 size
    (λ k low high. let split : (k + position) * height ≡ k * height + position * height =
    add-mul k position height in omega (arith, split))
    ∙ map-range-shift (cell_on Right height line) 0 size position
    ∙ ap (λ (a : ℕ). map (cell_on Right height line) (range_with_len a size))
    (let e : 0 + position ≡ position = omega arith in e)

pub way_cells-are : (axis : Axis) (height line : ℕ) (sizes way : List ℕ) →
    way_cells axis height line sizes way ≡ cells_of_way (cell_on axis height line) sizes way
way_cells-are axis height line [] way = refl
way_cells-are axis height line (size ∷ sizes) [] = refl
way_cells-are axis height line (size ∷ sizes) (position ∷ way) =
    ap₂ (λ (xs ys : List ℕ). xs ++ ys) (line_cells-are axis height line position size)
    (way_cells-are axis height line sizes way)

-- the cells from one on to the edge
downwards : (g : Grid) (x y : ℕ) → y < g.height → cells_downwards g (x * g.height + y)
    ≡ line_from (cell_on Down g.height x) g.height y
downwards g x y low =
    ap (λ (n : ℕ). map (λ steps. x * g.height + y + steps) (range_with_len 0 (g.height - n)))
    (mod-mul-add x g.height y low)
    ∙ map-range-agree (λ steps. x * g.height + y + steps) (λ steps. cell_on Down g.height x (steps + y)) 0
    (g.height - y) (λ k near far. omega arith)
    ∙ map-range-shift (cell_on Down g.height x) 0 (g.height - y) y
    ∙ ap (λ (a : ℕ). map (cell_on Down g.height x) (range_with_len a (g.height - y)))
    (let e : 0 + y ≡ y = omega arith in e)

rightwards : (g : Grid) (row x : ℕ) → row < g.height →
    cells_rightwards g (x * g.height + row) ≡ line_from (cell_on Right g.height row) g.width x
rightwards g row x low =
    ap (λ (n : ℕ). map (λ steps. x * g.height + row + steps * g.height) (range_with_len 0 (g.width - n)))
    (div-mul-add x g.height row low)
    ∙ map-range-agree (λ steps. x * g.height + row + steps * g.height)
    (λ steps. cell_on Right g.height row (steps + x)) 0 (g.width - x)
    (λ k near far. let split : (k + x) * g.height ≡ k * g.height + x * g.height =
    add-mul k x g.height in omega (arith, split))
    ∙ map-range-shift (cell_on Right g.height row) 0 (g.width - x) x
    ∙ ap (λ (a : ℕ). map (cell_on Right g.height row) (range_with_len a (g.width - x)))
    (let e : 0 + x ≡ x = omega arith in e)

-- cells column by column
pub column_lists : {X : Type 0} (f : ℕ → List X) (h a n : ℕ) →
    flat_map f (range_with_len (a * h) (n * h)) ≡ flat_map (λ x. flat_map (λ y. f (x * h + y)) (range_with_len 0 h))
    (range_with_len a n)
column_lists f h a zero = let none : 0 * h ≡ 0 = omega arith in
    ap (λ (k : ℕ). flat_map f (range_with_len (a * h) k)) none
column_lists f h a (suc n) =
    let more : suc n * h ≡ h + n * h = let split : (1 + n) * h ≡ 1 * h + n * h = add-mul 1 n h in
    let s : suc n ≡ 1 + n = omega arith in rw s (omega (arith, split)) in
    let next : a * h + h ≡ (a + 1) * h = let split : (a + 1) * h ≡ a * h + 1 * h = add-mul a 1 h in
    omega (arith, split) in
    ap (λ (k : ℕ). flat_map f (range_with_len (a * h) k)) more
    ∙ ranges_apart f (a * h) h (n * h) (a * h + h) refl
    ∙ ap₂ (λ (xs ys : List _). xs ++ ys)
    (agree_from f (λ y. f (a * h + y)) (a * h) 0 h
    (λ y low. ap (λ (k : ℕ). f (a * h + k)) (let e : y ≡ 0 + y = omega arith in e)))
    (ap (λ (k : ℕ). flat_map f (range_with_len k (n * h))) next ∙ column_lists f h (a + 1) n)

-- the places on a line, position by position of the first part
abbrev pub places_along : Grid → Axis → List (List CellMeaning) → ℕ → List (List ℕ)
places_along g axis parts line =
    flat_map (λ position. filter (fits_along g (cells_in parts))
    (ways_along (map length parts) (line_from (cell_on axis g.height line) (line_long axis g) position)))
    (range_with_len 0 (line_long axis g))

-- all places
pub places-by_line : (g : Grid) (axis : Axis) (parts : List (List CellMeaning)) →
    places g (direction_of axis) parts ≡ flat_map (places_along g axis parts) (range_with_len 0 (line_count axis g))
places-by_line g Down parts =
    let fits : List ℕ → Bool = fits_along g (cells_in parts) in
    let at : ℕ → List (List ℕ) = λ cell. filter fits (ways_along (map length parts) (cells_downwards g cell)) in
    let start : 0 * g.height ≡ 0 = omega arith in
    ap (λ (a : ℕ). flat_map at (range_with_len a (g.width * g.height))) (sym start)
    ∙ column_lists at g.height 0 g.width
    ∙ flat_map-agree (λ x. flat_map (λ y. at (x * g.height + y)) (range_with_len 0 g.height))
    (places_along g Down parts) (range_with_len 0 g.width)
    (λ x. range_lists-agree (λ y. at (x * g.height + y))
    (λ y. filter fits (ways_along (map length parts) (line_from (cell_on Down g.height x) g.height y))) 0 g.height
    (λ y low high. ap (λ (cells : List ℕ). filter fits (ways_along (map length parts) cells))
    (downwards g x y (omega (arith, high)))))
places-by_line g Right parts =
    let fits : List ℕ → Bool = fits_along g (cells_in parts) in
    let at : ℕ → List (List ℕ) = λ cell. filter fits (ways_along (map length parts) (cells_rightwards g cell)) in
    flat_map-flat_map at (λ row. map (λ column. column * g.height + row) (range_with_len 0 g.width))
    (range_with_len 0 g.height)
    ∙ range_lists-agree (λ row. flat_map at (map (λ column. column * g.height + row) (range_with_len 0 g.width)))
    (places_along g Right parts) 0 g.height
    (λ row near far.
    flat_map-map at (λ column. column * g.height + row) (range_with_len 0 g.width)
    ∙ flat_map-agree (λ x. at (x * g.height + row))
    (λ x. filter fits (ways_along (map length parts) (line_from (cell_on Right g.height row) g.width x)))
    (range_with_len 0 g.width)
    (λ x. ap (λ (cells : List ℕ). filter fits (ways_along (map length parts) cells))
    (rightwards g row x (omega (arith, far)))))
