-- The places of a row of a rule, as what is kept of it tells: lines of the board, and on each of them a set of
-- positions for each part.
use Rattle.std.specs.Prelude.{ℕ, ◌+◌, ◌*◌, Bool, Option, List, [], ◌∷◌, ◌++◌, map, take, drop, length}
use Rattle.std.specs.List.{flat_map}
use Rattle.ps_model.specs.board.Grid.{Grid}
use Rattle.ps_model.specs.board.Places.{fits_along}
use Rattle.ps_model.specs.meaning.RuleMeanings.{CellMeaning}
use Rattle.ps_board.specs.ColumnSets.{set_columns}
use Rattle.ps_program.specs.declared.cells.CompiledCell.{CompiledCell}
use Rattle.ps_program.specs.declared.rows.Axis.{Axis}
use Rattle.ps_program.specs.declared.rows.CompiledRow.{CompiledRow}
use Rattle.ps_places.specs.Scratch.{Scratch}
use Rattle.ps_places.specs.Lines.{line_cells, part_meaning}
use Rattle.ps_places.specs.Ways.{positions_from, ways_behind, ways_from}

-- what parts of a row mean on a board with that table, and what a row does; what its cells mean, in written order
abbrev pub parts_meaning : Option (List ℕ) → List (List CompiledCell) → List (List CellMeaning)
parts_meaning table parts = map (part_meaning table) parts

abbrev pub row_meaning : Option (List ℕ) → CompiledRow → List (List CellMeaning)
row_meaning table row = parts_meaning table row.parts

abbrev pub cells_meaning : Option (List ℕ) → List (List CompiledCell) → List CellMeaning
cells_meaning table parts = flat_map (part_meaning table) parts

-- the sizes of parts
abbrev pub part_sizes : List (List CompiledCell) → List ℕ
part_sizes parts = map length parts

-- the sets of a line, of as many parts
abbrev pub sets_on : List (List Bool) → ℕ → ℕ → List (List Bool)
sets_on starts count line = take count (drop (line * count) starts)

-- the cells of parts of these sizes that lie a way on a line
abbrev pub way_cells : Axis → ℕ → ℕ → List ℕ → List ℕ → List ℕ
way_cells axis height line [] way = []
way_cells axis height line (size ∷ sizes) [] = []
way_cells axis height line (size ∷ sizes) (position ∷ way) =
    line_cells axis height line position size ++ way_cells axis height line sizes way

-- the places of parts on a line, and on each of some lines
abbrev pub places_on : Axis → ℕ → List (List CompiledCell) → List (List Bool) → ℕ → List (List ℕ)
places_on axis height parts starts line =
    map (way_cells axis height line (part_sizes parts))
    (ways_from (sets_on starts (length parts) line) (part_sizes parts) 0)

abbrev pub places_on_lines : Axis → ℕ → List (List CompiledCell) → List (List Bool) → List ℕ → List (List ℕ)
places_on_lines axis height parts starts lines = flat_map (places_on axis height parts starts) lines

-- the places of a row, the one that is chosen, and those behind it
abbrev pub all_places : ℕ → CompiledRow → Scratch → List (List ℕ)
all_places height row scratch = places_on_lines row.axis height row.parts scratch.starts.items (set_columns scratch.lines)

abbrev pub way_of : CompiledRow → Scratch → List ℕ
way_of row scratch = take (length row.parts) scratch.way

abbrev pub place_at : ℕ → CompiledRow → Scratch → List ℕ
place_at height row scratch = way_cells row.axis height scratch.line (part_sizes row.parts) (way_of row scratch)

abbrev pub places_behind : ℕ → CompiledRow → Scratch → List (List ℕ)
places_behind height row scratch =
    map (way_cells row.axis height scratch.line (part_sizes row.parts))
    (ways_behind (sets_on scratch.starts.items (length row.parts) scratch.line) (part_sizes row.parts) (way_of row scratch))
    ++ places_on_lines row.axis height row.parts scratch.starts.items (positions_from scratch.lines (scratch.line + 1))

-- the row fits at a place
abbrev pub place_fits : Grid → Option (List ℕ) → List (List CompiledCell) → List ℕ → Bool
place_fits g table parts place = fits_along g (cells_meaning table parts) place
