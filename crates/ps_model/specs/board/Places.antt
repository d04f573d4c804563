-- The places of a row of a rule on a grid: straight lists of cells in the rule's direction, with any gap at an
-- ellipsis, of which each fits. Horizontal directions are searched row by row from the top, each from the left.
-- Vertical ones are searched column by column from the left, each from the top. A place is ordered by its leftmost or
-- topmost end cell, then by the gap nearest to that end, then by the other gap.
use Rattle.std.specs.Prelude.{ℕ, suc, ◌+◌, ◌-◌, ◌*◌, ◌/◌, ◌%◌, nat_le, Bool, true, false, Option, Some, None, List, []}
use Rattle.std.specs.Prelude.{◌∷◌, ◌++◌, length, map, filter, take, drop, reverse, slice_get}
use Rattle.std.specs.List.{flat_map, range_with_len}
use Rattle.ps_model.specs.declared.pieces.Direction.{Direction}
use Rattle.ps_model.specs.declared.pieces.Direction.TheVariants.{Up, Down, Left, Right}
use Rattle.ps_model.specs.declared.pieces.Slot.{Slot}
use Rattle.ps_model.specs.board.Grid.{Grid, cell_count}
use Rattle.ps_model.specs.meaning.RuleMeanings.{CellMeaning}

-- the cells from one on to the right edge
abbrev pub cells_rightwards : Grid → ℕ → List ℕ
cells_rightwards g cell = map (λ steps. cell + steps * g.height) (range_with_len 0 (g.width - cell / g.height))

-- the cells from one on to the lower edge
abbrev pub cells_downwards : Grid → ℕ → List ℕ
cells_downwards g cell = map (λ steps. cell + steps) (range_with_len 0 (g.height - cell % g.height))

-- all cells, row by row from the top
abbrev pub row_by_row : Grid → List ℕ
row_by_row g = flat_map (λ row. map (λ column. column * g.height + row) (range_with_len 0 g.width))
    (range_with_len 0 g.height)

-- all cells, column by column from the left
abbrev pub column_by_column : Grid → List ℕ
column_by_column g = range_with_len 0 (cell_count g)

-- the ways in which parts of these lengths lie on a line of cells. The first part is at its beginning, each other one
-- after any gap; least gaps come first
abbrev pub ways_along : List ℕ → List ℕ → List (List ℕ)
ways_along [] line = [] ∷ []
ways_along (size ∷ sizes) line = elim (nat_le size (length line)) [
  | true ↦ map (λ others. take size line ++ others) (elim sizes [
    | [] ↦ [] ∷ []
    | next ∷ rest ↦ flat_map (λ gap. ways_along sizes (drop (size + gap) line))
        (range_with_len 0 (suc (length line - size)))
  ])
  | false ↦ []
]

-- the lists of cells in a direction, for parts of these lengths, whose leftmost or topmost end is that cell. Those of a
-- row that goes left or up are those of the row turned round that goes right or down, read backwards
abbrev pub stretches : Grid → Direction → List ℕ → ℕ → List (List ℕ)
stretches g Up sizes end = map reverse (ways_along (reverse sizes) (cells_downwards g end))
stretches g Down sizes end = ways_along sizes (cells_downwards g end)
stretches g Left sizes end = map reverse (ways_along (reverse sizes) (cells_rightwards g end))
stretches g Right sizes end = ways_along sizes (cells_rightwards g end)

-- the order in which cells are searched in a direction
abbrev pub search_order : Grid → Direction → List ℕ
search_order g Up = column_by_column g
search_order g Down = column_by_column g
search_order g Left = row_by_row g
search_order g Right = row_by_row g

-- the cell of the board, if there is one, fits
abbrev pub fits_there : CellMeaning → Option (List Slot) → Bool
fits_there meaning None = false
fits_there meaning (Some cell) = meaning.fits cell

-- each cell of a list fits the rule's cell of the same place; there are as many of both
abbrev pub fits_along : Grid → List CellMeaning → List ℕ → Bool
fits_along g [] [] = true
fits_along g [] (cell ∷ cells) = false
fits_along g (meaning ∷ meanings) [] = false
fits_along g (meaning ∷ meanings) (cell ∷ cells) =
    elim (fits_there meaning (slice_get g.cells cell)) [ true ↦ fits_along g meanings cells | false ↦ false ]

-- the cells of a row in written order
abbrev pub cells_in : List (List CellMeaning) → List CellMeaning
cells_in row = flat_map (λ part. part) row

-- the places of a row in a direction
abbrev pub places : Grid → Direction → List (List CellMeaning) → List (List ℕ)
places g direction row = flat_map (λ end. filter (fits_along g (cells_in row))
    (stretches g direction (map length row) end)) (search_order g direction)
