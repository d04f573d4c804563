-- The cells of a row of a grid that fit a mask, by a set of columns.
use Rattle.std.proofs.Common.{◌≡◌, ℕ, ◌+◌, ◌*◌, ◌<◌, ◌≤◌, inl, inr, List, [], length, sym, ap, ◌∙◌, arith, Bool}
use Rattle.std.specs.Prelude.{slice_get}
use Rattle.std.proofs.Math.Nat.{mul-le-mul_left}
use Rattle.std.proofs.lemmas.Bool.{cases_lt}
use Rattle.std.proofs.lemmas.Nat.{mul-add-lt}
use Rattle.std.proofs.lemmas.Option.{slice_get-get_or, slice_get_past}
use Rattle.ps_model.specs.declared.pieces.Slot.{Slot}
use Rattle.ps_model.specs.board.Places.{fits_there}
use Rattle.ps_model.specs.meaning.Compiled.{CellMask, mask_fits}
use Rattle.ps_match.specs.InRoom.{meaning_of_mask}
use Rattle.ps_rows.specs.Showing.{grid_shown, cells_shown}
use Rattle.ps_rows.specs.RowTests.{IsRowOf, IsWithin}
use Rattle.ps_rows.proofs.Rests.{cells_long}
use Rattle.ps_board.specs.ColumnSets.{column_at}
use Rattle.ps_model.specs.declared.limits.TheConstants.{SIDE_LIMIT}

pub row_told : (table : List ℕ) (width height layers : ℕ) (words : List (List Bool)) (row : ℕ) → row < height →
    (mask : CellMask) (word : List Bool) →
    IsRowOf (grid_shown table width height layers words) row word (mask_fits mask) →
    IsWithin (grid_shown table width height layers words) word → (x : ℕ) → x < SIDE_LIMIT →
    column_at word x ≡ fits_there (meaning_of_mask mask)
    (slice_get (cells_shown table layers height words (width * height)) (x * height + row))
row_told table width height layers words row under mask word inside within x low =
    let cells : List (List Slot) = cells_shown table layers height words (width * height) in
    let long : length cells ≡ width * height = cells_long table layers height words (width * height) in
    elim (cases_lt x width) [
      | inl h ↦
          let place : x * height + row < height * width = mul-add-lt x height row width h under in
          let there : x * height + row < length cells = omega arith in
          inside x h ∙ sym (ap (fits_there (meaning_of_mask mask)) (slice_get-get_or cells (x * height + row) [] there))
      | inr off ↦
          let more : height * width ≤ height * x = mul-le-mul_left height off in
          let beyond : length cells ≤ x * height + row = omega arith in
          within x off low ∙ sym (ap (fits_there (meaning_of_mask mask))
          (slice_get_past cells (x * height + row) beyond))
    ]
