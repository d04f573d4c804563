-- The slots of the cells of a row, layer by layer.
use Rattle.std.proofs.Common.{◌≡◌, ◌∙◌, ℕ, ◌+◌, ◌*◌, ◌<◌, ◌≤◌, ◌||◌, Bool, false, List, [], length, take, sym, ap, ap₂}
use Rattle.std.proofs.Common.{arith}
use Rattle.std.specs.List.{list_any}
use Rattle.std.proofs.lemmas.List.{take_all}
use Rattle.std.proofs.lemmas.List.Folds.{list_any_more}
use Rattle.ps_model.specs.declared.limits.TheConstants.{SIDE_LIMIT}
use Rattle.ps_model.specs.declared.pieces.Slot.{Slot}
use Rattle.ps_model.specs.declared.pieces.Slot.TheVariants.{Bare}
use Rattle.ps_model.specs.board.Grid.{Grid, IsGrid, cell_at, slot_at}
use Rattle.ps_board.specs.ColumnSets.{column_at, either_columns, no_columns}
use Rattle.ps_board.specs.RowsOfGrids.{row_slots}
use Rattle.ps_board.proofs.ColumnLaws.{column_at-where}
use Rattle.ps_board.proofs.PassedColumns.{cell_below}

-- the slots of a cell, passed by layer by layer
cell_long : (g : Grid) → IsGrid g → (x row : ℕ) → x < g.width → row < g.height →
    length (cell_at g (x * g.height + row)) ≡ g.layers
cell_long g shape x row across down =
    let within : x * g.height + row < length g.cells = rw shape.cells (cell_below g.width g.height x row across down) in
    shape.slots (x * g.height + row) [] within

pub row_more : (passes : Slot → Bool) (g : Grid) → IsGrid g → (x row layer : ℕ) (all more : List Bool) → x < g.width →
    row < g.height → layer < g.layers →
    column_at all x ≡ list_any passes (take layer (cell_at g (x * g.height + row))) →
    more ≡ row_slots passes g layer row →
    column_at (either_columns all more) x ≡ list_any passes (take (layer + 1) (cell_at g (x * g.height + row)))
row_more passes g shape x row layer all more across down low so_far is =
    let within : x < SIDE_LIMIT = omega (arith, across, shape.columns) in
    let slots : layer < length (cell_at g (x * g.height + row)) = rw (cell_long g shape x row across down) low in
    column_at-where (λ y. column_at all y || column_at more y) x within
    ∙ ap₂ (λ (a b : Bool). a || b) so_far
    (ap (λ (columns : List Bool). column_at columns x) is
    ∙ column_at-where (λ y. passes (slot_at g (y * g.height + row) layer)) x within)
    ∙ sym (list_any_more passes (cell_at g (x * g.height + row)) layer Bare slots)

pub row_whole : (passes : Slot → Bool) (g : Grid) → IsGrid g → (x row count : ℕ) → x < g.width → row < g.height →
    g.layers ≤ count →
    list_any passes (take count (cell_at g (x * g.height + row))) ≡ list_any passes (cell_at g (x * g.height + row))
row_whole passes g shape x row count across down all =
    let slots : length (cell_at g (x * g.height + row)) ≤ count = rw (cell_long g shape x row across down) all in
    ap (list_any passes) (take_all count (cell_at g (x * g.height + row)) slots)

-- no column
pub column_at-none : (x : ℕ) → x < SIDE_LIMIT → column_at no_columns x ≡ false
column_at-none x low = column_at-where (λ y. false) x low
