-- Rows of a list board, read column by column.
use Rattle.std.proofs.Common.{◌≡◌, ◌∙◌, ℕ, ◌+◌, ◌*◌, ◌≤◌, Bool, false, List, [], length, ap, arith}
use Rattle.std.specs.Prelude.{slice_index_or}
use Rattle.std.specs.Simd.{first_chunks}
use Rattle.std.proofs.Math.Nat.{mul-le-mul_right}
use Rattle.std.proofs.lemmas.List.{get_or_past}
use Rattle.ps_model.specs.declared.pieces.Slot.{Slot}
use Rattle.ps_model.specs.declared.pieces.Slot.TheVariants.{Bare}
use Rattle.ps_board.specs.ColumnSets.{columns_where}
use Rattle.ps_board.proofs.Cells.{length-first_chunks}
use Rattle.ps_board.proofs.PassedColumns.{scanned, scanned-all}

-- the slot of a cell on a layer, in a list of slots
abbrev pub slot_in : ℕ → ℕ → List Slot → ℕ → ℕ → Slot
slot_in layers count slots cell layer = slice_index_or (slice_index_or (first_chunks layers count slots) cell []) layer
    Bare

-- no slot stands beyond the last column
bare_beyond : (width height layers : ℕ) (slots : List Slot) (layer row x : ℕ) → width ≤ x →
    slot_in layers (width * height) slots (x * height + row) layer ≡ Bare
bare_beyond width height layers slots layer row x far =
    let across : width * height ≤ x * height = mul-le-mul_right height far in
    let past : length (first_chunks layers (width * height) slots) ≤ x * height + row =
    rw (length-first_chunks layers (width * height) slots) (omega (arith, across)) in
    ap (λ (cell : List Slot). slice_index_or cell layer Bare)
    (get_or_past (first_chunks layers (width * height) slots) (x * height + row) [] past)

-- the columns that pass a test which a bare slot fails, all columns passed by
pub row-passed : (passes : Slot → Bool) (width height layers : ℕ) (slots : List Slot) (layer row count : ℕ) →
    passes Bare ≡ false → width ≤ count →
    scanned (λ x. passes (slot_in layers (width * height) slots (x * height + row) layer)) count
    ≡ columns_where (λ x. passes (slot_in layers (width * height) slots (x * height + row) layer))
row-passed passes width height layers slots layer row count bare all =
    scanned-all (λ x. passes (slot_in layers (width * height) slots (x * height + row) layer)) count
    (λ x far. ap passes (bare_beyond width height layers slots layer row x (omega (arith, all, far))) ∙ bare)
