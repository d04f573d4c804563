-- The next place of a row behind one, whose line and way are told apart from what is kept of the row.
use Rattle.std.specs.Prelude.{◌≡◌, ℕ, ◌+◌, ◌<◌, true, List, ◌++◌, map, length, Bool}
use Rattle.ps_model.specs.board.Grid.{Grid}
use Rattle.ps_board.specs.ColumnSets.{column_at}
use Rattle.ps_program.specs.declared.cells.CompiledCell.{CompiledCell}
use Rattle.ps_program.specs.declared.rows.Axis.{Axis}
use Rattle.ps_places.specs.Lines.{line_count}
use Rattle.ps_places.specs.RowPlaces.{part_sizes, places_on_lines, sets_on, way_cells}
use Rattle.ps_places.specs.Ways.{positions_from, ways_behind}

-- the numbers of a set are lines of the board
pub record AreLines (g : Grid) (axis : Axis) (lines : List Bool) : Type 0 where
  pub at : (line : ℕ) → column_at lines line ≡ true → line < line_count axis g

-- the place of a way on a line, and the places behind it
abbrev pub place_on : Axis → ℕ → List (List CompiledCell) → ℕ → List ℕ → List ℕ
place_on axis height parts line way = way_cells axis height line (part_sizes parts) way

abbrev pub places_after : Axis → ℕ → List (List CompiledCell) → List (List Bool) → List Bool → ℕ → List ℕ →
    List (List ℕ)
places_after axis height parts starts lines line way =
    map (way_cells axis height line (part_sizes parts))
    (ways_behind (sets_on starts (length parts) line) (part_sizes parts) way)
    ++ places_on_lines axis height parts starts (positions_from lines (line + 1))
