-- Places of a part that begin on one row of the board, rewritten together: one cell of the part after the other.
use Rattle.std.specs.Prelude.{ℕ, ◌+◌, Bool, ◌||◌, true, false, Option, List, [], ◌∷◌}
use Rattle.ps_model.specs.declared.pieces.Slot.{Slot}
use Rattle.ps_model.specs.board.Grid.{Grid}
use Rattle.ps_model.specs.board.Attempts.{Rewritten}
use Rattle.ps_board.specs.ColumnSets.{columns_ahead}
use Rattle.ps_program.specs.declared.cells.CompiledCell.{CompiledCell}
use Rattle.ps_program.specs.declared.rows.Axis.{Axis}
use Rattle.ps_program.specs.declared.rows.Axis.TheVariants.{Down, Right}
use Rattle.ps_match.specs.Together.{is_on_row, rewritten_where}
use Rattle.ps_places.specs.Lines.{cell_meaning}

-- the row of the board so many steps from one along an axis
abbrev pub row_at : Axis → ℕ → ℕ → ℕ
row_at Down row steps = row + steps
row_at Right row steps = row

-- the cells so many steps from those of some columns of a row
abbrev pub cells_behind : Axis → ℕ → ℕ → List Bool → ℕ → ℕ → Bool
cells_behind Down height row columns steps = is_on_row height (row + steps) columns
cells_behind Right height row columns steps = is_on_row height row (columns_ahead columns steps)

-- cells of a grid rewritten together, where others may have changed before
abbrev pub then_where : Rewritten → (List Slot → List Slot) → (ℕ → Bool) → Rewritten
then_where before becomes chosen =
    let after : Rewritten = rewritten_where before.grid becomes chosen in
    record { grid = after.grid; changed = before.changed || after.changed }

-- what is rewritten, if it can change something
abbrev pub if_changes : Bool → Rewritten → Rewritten → Rewritten
if_changes true written r = written
if_changes false written r = r

-- one cell of a part, and all from one on
abbrev pub cell_changed : Rewritten → Option (List ℕ) → Axis → ℕ → List Bool → ℕ → CompiledCell → Rewritten
cell_changed r table axis row columns steps cell =
    let g : Grid = r.grid in
    if_changes cell.changes (then_where r (cell_meaning table cell).rewritten
    (cells_behind axis g.height row columns steps)) r

abbrev pub cells_changed : Rewritten → Option (List ℕ) → Axis → ℕ → List Bool → ℕ → List CompiledCell → Rewritten
cells_changed r table axis row columns steps [] = r
cells_changed r table axis row columns steps (cell ∷ cells) =
    cells_changed (cell_changed r table axis row columns steps cell) table axis row columns (steps + 1) cells
