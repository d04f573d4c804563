-- Chains of the movement, and places of rules: chains of any length count, and places are straight lines of cells of
-- the board.
use Rattle.std.specs.Prelude.{◌≡◌, ◌<◌, ◌+◌, ◌*◌, ℕ, true, List, [], ◌∷◌, ◌++◌, All, length, map, reverse}
use Rattle.std.specs.List.{range_with_len}
use Rattle.ps_model.specs.declared.pieces.Direction.{Direction}
use Rattle.ps_model.specs.declared.pieces.Direction.TheVariants.{Up, Down, Left, Right}
use Rattle.ps_model.specs.board.Grid.{Grid, IsGrid, cell_count}
use Rattle.ps_model.specs.board.Movement.{slides_within, slides}
use Rattle.ps_model.specs.board.Places.{cells_in, places}
use Rattle.ps_model.specs.meaning.RuleMeanings.{CellMeaning}

-- a chain of any length that ends in a bare cell makes an object slide: none has more links than there are cells
abbrev pub ChainsSlide : Type 0
ChainsSlide = (g : Grid) (layer links cell : ℕ) → slides_within g layer links cell ≡ true → slides g layer cell ≡ true

-- the cells of a place are cells of the board
abbrev pub PlacesLieOnBoards : Type 0
PlacesLieOnBoards = (g : Grid) (direction : Direction) (row : List (List CellMeaning)) → IsGrid g →
    All (All (λ cell. cell < cell_count g)) (places g direction row)

-- a place has a cell of the board for each cell of the row
abbrev pub PlacesAreWhole : Type 0
PlacesAreWhole = (g : Grid) (direction : Direction) (row : List (List CellMeaning)) →
    All (λ place. length place ≡ length (cells_in row)) (places g direction row)

-- how many steps on from its end each cell of a line stands, for parts of these lengths with these gaps between them
abbrev pub steps_of : List ℕ → List ℕ → ℕ → List ℕ
steps_of [] gaps from = []
steps_of (size ∷ sizes) [] from = range_with_len from size ++ steps_of sizes [] (from + size)
steps_of (size ∷ sizes) (gap ∷ gaps) from = range_with_len from size ++ steps_of sizes gaps (from + (size + gap))

-- the straight line of cells in a direction, for such parts and gaps, whose leftmost or topmost end is that cell
abbrev pub straight : Grid → Direction → List ℕ → List ℕ → ℕ → List ℕ
straight g Up sizes gaps end = reverse (map (λ steps. end + steps) (steps_of (reverse sizes) gaps 0))
straight g Down sizes gaps end = map (λ steps. end + steps) (steps_of sizes gaps 0)
straight g Left sizes gaps end = reverse (map (λ steps. end + steps * g.height) (steps_of (reverse sizes) gaps 0))
straight g Right sizes gaps end = map (λ steps. end + steps * g.height) (steps_of sizes gaps 0)

-- some end and some gaps make that place
abbrev pub IsStraight : Grid → Direction → List ℕ → List ℕ → Type 0
IsStraight g direction sizes place = (end : ℕ) × (gaps : List ℕ) × (place ≡ straight g direction sizes gaps end)

-- the places of a row are straight lines, with gaps between its parts alone
abbrev pub PlacesAreStraight : Type 0
PlacesAreStraight =
    (g : Grid) (direction : Direction) (row : List (List CellMeaning)) →
    All (IsStraight g direction (map length row)) (places g direction row)
