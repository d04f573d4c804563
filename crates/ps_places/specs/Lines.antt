-- The lines of a board along an axis: its columns, whose cells follow each other downwards, or its rows, whose cells
-- follow each other to the right. A cell has a position on its line, counted from the line's topmost or leftmost cell.
use Rattle.std.specs.Prelude.{ℕ, ◌+◌, ◌*◌, Bool, Option, List, map, length}
use Rattle.std.specs.List.{range_with_len}
use Rattle.ps_model.specs.board.Grid.{Grid}
use Rattle.ps_model.specs.board.Places.{fits_along}
use Rattle.ps_model.specs.meaning.RuleMeanings.{CellMeaning}
use Rattle.ps_model.specs.meaning.Compiled.{meaning_of_cell}
use Rattle.ps_program.specs.declared.cells.CompiledCell.{CompiledCell}
use Rattle.ps_program.specs.declared.rows.Axis.{Axis}
use Rattle.ps_program.specs.declared.rows.Axis.TheVariants.{Down, Right}
use Rattle.ps_program.specs.ProgramShown.{cell_shown}
use Rattle.ps_match.specs.InRoom.{cell_in_room}

-- the number of the cell at a position of a line, on a board so high
abbrev pub cell_on : Axis → ℕ → ℕ → ℕ → ℕ
cell_on Down height line position = line * height + position
cell_on Right height line position = position * height + line

-- the numbers from one cell of a line to the next
abbrev pub step_along : Axis → ℕ → ℕ
step_along Down height = 1
step_along Right height = height

-- how many lines a grid has, and how many cells each of them
abbrev pub line_count : Axis → Grid → ℕ
line_count Down g = g.width
line_count Right g = g.height

abbrev pub line_long : Axis → Grid → ℕ
line_long Down g = g.height
line_long Right g = g.width

-- so many cells from one on, with such a step
abbrev pub cells_from : ℕ → ℕ → ℕ → List ℕ
cells_from step first size = map (λ k. first + k * step) (range_with_len 0 size)

-- the cells of so many from a position of a line on
abbrev pub line_cells : Axis → ℕ → ℕ → ℕ → ℕ → List ℕ
line_cells axis height line position size = cells_from (step_along axis height) (cell_on axis height line position) size

-- what a cell of a rule means, on a board with that table, and what the cells of a part mean
abbrev pub cell_meaning : Option (List ℕ) → CompiledCell → CellMeaning
cell_meaning table cell = meaning_of_cell (cell_in_room table (cell_shown cell))

abbrev pub part_meaning : Option (List ℕ) → List CompiledCell → List CellMeaning
part_meaning table part = map (cell_meaning table) part

-- a part of a rule fits, its first cell at a position of a line
abbrev pub part_fits : Grid → Option (List ℕ) → Axis → ℕ → List CompiledCell → ℕ → Bool
part_fits g table axis line part position = fits_along g (part_meaning table part)
    (line_cells axis g.height line position (length part))
