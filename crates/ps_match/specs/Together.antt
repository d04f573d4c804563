-- Cells of a grid that are rewritten together: each cell that is chosen becomes what is made of it, and each other one
-- stays as it was.
use Rattle.std.specs.Prelude.{ℕ, ◌/◌, ◌%◌, nat_eq, Bool, ◌&&◌, not, if◌then◌else◌, List, length, map}
use Rattle.std.specs.List.{list_any, range_with_len}
use Rattle.ps_model.specs.declared.pieces.Slot.{Slot}
use Rattle.ps_model.specs.board.Grid.{Grid, cell_at}
use Rattle.ps_model.specs.board.Attempts.{Rewritten, same_cell}
use Rattle.ps_board.specs.ColumnSets.{column_at}

-- what a cell of the grid becomes
abbrev pub cell_where : Grid → (List Slot → List Slot) → (ℕ → Bool) → ℕ → List Slot
cell_where g becomes chosen n = if chosen n then becomes (cell_at g n) else cell_at g n

-- the cell is chosen, and what is made of it is another one
abbrev pub changes_where : Grid → (List Slot → List Slot) → (ℕ → Bool) → ℕ → Bool
changes_where g becomes chosen n = chosen n && not (same_cell (cell_at g n) (becomes (cell_at g n)))

-- the cells that are chosen rewritten, and whether one of them changed
unfoldable pub rewritten_where : Grid → (List Slot → List Slot) → (ℕ → Bool) → Rewritten
rewritten_where g becomes chosen = record {
  grid = record g { cells = map (cell_where g becomes chosen) (range_with_len 0 (length g.cells)) };
  changed = list_any (changes_where g becomes chosen) (range_with_len 0 (length g.cells));
}

-- the cell lies on that row of a board of `height` rows, in one of these columns
abbrev pub is_on_row : ℕ → ℕ → List Bool → ℕ → Bool
is_on_row height row columns n = nat_eq (n % height) row && column_at columns (n / height)
