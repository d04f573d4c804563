-- The columns of a row in which the slot of a layer passes a test, by a set.
use Rattle.std.proofs.Common.{◌≡◌, ◌∙◌, ℕ, ◌+◌, ◌*◌, ◌<◌, ◌≤◌, inl, inr, Bool, false, not, ◌&&◌, List, [], length}
use Rattle.std.proofs.Common.{get_or, sym, ap, arith}
use Rattle.std.specs.Prelude.{nat_lt}
use Rattle.std.proofs.Math.Nat.{mul-le-mul_right}
use Rattle.std.proofs.lemmas.Bool.{cases_lt, lt-ltb, le-ltb}
use Rattle.std.proofs.lemmas.List.{get_or_past}
use Rattle.ps_model.specs.declared.pieces.Slot.{Slot}
use Rattle.ps_model.specs.declared.pieces.Slot.TheVariants.{Bare}
use Rattle.ps_model.specs.declared.pieces.Motion.TheVariants.{Still}
use Rattle.ps_model.specs.board.Grid.{Grid, motion_in, slot_at}
use Rattle.ps_model.specs.meaning.Fitting.{same_motion}
use Rattle.ps_rows.specs.RowTests.{IsRowOf}
use Rattle.ps_board.specs.RowsOfGrids.{is_moving}
use Rattle.ps_board.specs.ColumnSets.{column_at}
use Rattle.ps_model.specs.declared.limits.TheConstants.{SIDE_LIMIT}

-- no slot stands beyond the last column
bare_beyond : (g : Grid) (layer row x : ℕ) → length g.cells ≡ g.width * g.height → g.width ≤ x →
    slot_at g (x * g.height + row) layer ≡ Bare
bare_beyond g layer row x many far =
    let across : g.width * g.height ≤ x * g.height = mul-le-mul_right g.height far in
    let past : length g.cells ≤ x * g.height + row = omega (arith, many, across) in
    ap (λ (cell : List Slot). get_or cell layer Bare) (get_or_past g.cells (x * g.height + row) [] past)

-- of the columns of a board those of a row that pass
pub row_cut : (g : Grid) (row layer : ℕ) (full part : List Bool) (passes : Slot → Bool) →
    length g.cells ≡ g.width * g.height →
    ((x : ℕ) → x < SIDE_LIMIT → column_at full x ≡ nat_lt x g.width) →
    IsRowOf g row part (λ cell. passes (get_or cell layer Bare)) → passes Bare ≡ false → (x : ℕ) → x < SIDE_LIMIT →
    (column_at full x && column_at part x) ≡ passes (slot_at g (x * g.height + row) layer)
row_cut g row layer full part passes many wide told bare x low = elim (cases_lt x g.width) [
  | inl h ↦ ap (λ (b : Bool). b && column_at part x) (wide x low ∙ lt-ltb x g.width h) ∙ told x h
  | inr far ↦
      ap (λ (b : Bool). b && column_at part x) (wide x low ∙ le-ltb x g.width far)
      ∙ sym (ap passes (bare_beyond g layer row x many far) ∙ bare)
]

-- the columns in which a layer isn't at rest, by those in which it is
pub movers_cut : (g : Grid) (row layer : ℕ) (full still : List Bool) → length g.cells ≡ g.width * g.height →
    ((x : ℕ) → x < SIDE_LIMIT → column_at full x ≡ nat_lt x g.width) →
    IsRowOf g row still (λ cell. same_motion Still (motion_in (get_or cell layer Bare))) → (x : ℕ) → x < SIDE_LIMIT →
    (column_at full x && not (column_at still x)) ≡ is_moving (slot_at g (x * g.height + row) layer)
movers_cut g row layer full still many wide told x low = elim (cases_lt x g.width) [
  | inl h ↦ ap (λ (b : Bool). b && not (column_at still x)) (wide x low ∙ lt-ltb x g.width h) ∙ ap not (told x h)
  | inr far ↦
      ap (λ (b : Bool). b && not (column_at still x)) (wide x low ∙ le-ltb x g.width far)
      ∙ sym (ap is_moving (bare_beyond g layer row x many far))
]
