-- Rows in which the planes of objects have changed, noted in a set.
use Rattle.std.proofs.Common.{◌≡◌, ◌≢◌, ◌∙◌, ℕ, ◌+◌, ◌*◌, ◌%◌, ◌<◌, ◌≤◌, inl, inr, Bool, true, false, Option, List, []}
use Rattle.std.proofs.Common.{◌∷◌, refl, sym, ap, arith}
use Rattle.std.specs.Prelude.{if◌then◌else◌}
use Rattle.std.proofs.lemmas.Bool.{cases_eq, false≢true}
use Rattle.std.proofs.lemmas.Nat.{mod_below}
use Rattle.ps_model.specs.declared.limits.TheConstants.{SIDE_LIMIT}
use Rattle.ps_model.specs.declared.pieces.Motion.{Motion}
use Rattle.ps_model.specs.board.Movement.{is_number}
use Rattle.ps_board.specs.ColumnSets.{column_at, no_columns, with_column}
use Rattle.ps_board.proofs.ColumnLaws.{with_here, with_other}
use Rattle.ps_rows.specs.Planes.{row_of, with_cell, with_cell_in}
use Rattle.ps_rows.specs.RowChanges.{AreRowsChanged, Change}
use Rattle.ps_rows.specs.Sameness.{PlanesDifferOnlyOn}
use Rattle.ps_rows.specs.Showing.{motion_plane, motion_planes, with_slot_in}
use Rattle.ps_rows.proofs.Moves.{five_false}
use Rattle.ps_rows.proofs.RowCopies.{row_kept}
use Rattle.ps_rows.proofs.Sets.{none_at}

-- nothing has changed yet
pub none_touched : (height planes : ℕ) (words origin : List (List Bool)) (rows : List Bool) → origin ≡ words →
    PlanesDifferOnlyOn height planes origin words rows
none_touched height planes words origin rows same = λ plane below row under off.
    ap (λ (ws : List (List Bool)). row_of ws (plane * height + row)) same

module _ (height planes : ℕ) (origin before after : List (List Bool)) (touched : List Bool)
    (noted : PlanesDifferOnlyOn height planes origin before touched) where
  -- no row more
  pub planes_stay : PlanesDifferOnlyOn height planes before after no_columns →
      PlanesDifferOnlyOn height planes origin after touched
  planes_stay stay = λ plane below row under off.
      noted plane below row under off ∙ stay plane below row under (none_at row)

  module _ (row : ℕ) (short : height ≤ SIDE_LIMIT)
      (kept : (plane y : ℕ) → plane < planes → y < height → y ≢ row →
      row_of after (plane * height + y) ≡ row_of before (plane * height + y)) where
    -- one row more
    pub row_touched : PlanesDifferOnlyOn height planes origin after (with_column touched row true)
    row_touched = λ plane below y under off.
        elim (cases_eq y row) [
          | inl e ↦
              let low : row < SIDE_LIMIT = rw (sym e) (omega (arith, under, short)) in
              absurd (false≢true (sym off ∙ ap (column_at (with_column touched row true)) e
              ∙ with_here touched row true low))
          | inr n ↦
              noted plane below y under (sym (with_other touched row y true (omega (arith, under, short)) n) ∙ off)
              ∙ sym (kept plane y below under n)
        ]

    -- one row more, or none where no object came or went
    pub row_noted : (moved : Bool) → (moved ≡ false → PlanesDifferOnlyOn height planes before after no_columns) →
        PlanesDifferOnlyOn height planes origin after (if moved then with_column touched row true else touched)
    row_noted true stay = row_touched
    row_noted false stay = planes_stay (stay refl)

-- motions that are written behind all planes of objects leave those as they are
pub objects_stay : (height row first : ℕ) (motions : Change) (words same written : List (List Bool)) → same ≡ words →
    AreRowsChanged height row motions same written (motion_planes first) →
    PlanesDifferOnlyOn height first words written no_columns
objects_stay height row first motions words same written is changed = λ plane below y under off.
    sym (changed.elsewhere plane y under (λ e. five_false first plane (inl below))
    ∙ ap (λ (ws : List (List Bool)). row_of ws (plane * height + y)) is)

-- a cell that is put leaves the other rows as they are
other_row : (height : ℕ) (words : List (List Bool)) (cell p : ℕ) (on : Bool) (plane y : ℕ) → 0 < height → y < height →
    y ≢ cell % height →
    row_of (with_cell height words cell p on) (plane * height + y) ≡ row_of words (plane * height + y)
unfolding with_cell
other_row height words cell p on plane y some under apart =
    row_kept height p (cell % height) _ plane y words _ (mod_below cell height some) under (λ e. apart) refl

other_rows : (height cell : ℕ) (chosen : Option ℕ) (words : List (List Bool)) (listed : List ℕ) (plane y : ℕ) →
    0 < height → y < height → y ≢ cell % height →
    row_of (with_cell_in height cell chosen words listed) (plane * height + y) ≡ row_of words (plane * height + y)
unfolding with_cell_in
other_rows height cell chosen words [] plane y some under apart = refl
other_rows height cell chosen words (p ∷ ps) plane y some under apart =
    other_rows height cell chosen (with_cell height words cell p (is_number chosen p)) ps plane y some under apart
    ∙ other_row height words cell p (is_number chosen p) plane y some under apart

pub slot_elsewhere : (height cell : ℕ) (objects : List ℕ) (object : Option ℕ) (first : ℕ) (motion : Motion)
    (words : List (List Bool)) (plane y : ℕ) → 0 < height → y < height → y ≢ cell % height →
    row_of (with_slot_in height cell objects object first motion words) (plane * height + y)
    ≡ row_of words (plane * height + y)
slot_elsewhere height cell objects object first motion words plane y some under apart =
    other_rows height cell (motion_plane first motion) (with_cell_in height cell object words objects)
    (motion_planes first) plane y some under apart
    ∙ other_rows height cell object words objects plane y some under apart
