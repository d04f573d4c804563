-- A cell that fits a compiled cell whose write changes nothing that it fits is written to itself.
use Rattle.std.proofs.Common.{◌≡◌, ◌∙◌, ℕ, ◌&&◌, ◌||◌, Bool, true, false, Option, Some, None, List, [], ◌∷◌}
use Rattle.std.proofs.Common.{filter, refl, sym, ap, ap₂}
use Rattle.std.specs.Prelude.{not, slice_get, slice_set}
use Rattle.std.specs.List.{list_all}
use Rattle.std.proofs.Math.Bool.{or-false}
use Rattle.std.proofs.lemmas.Bool.{and_parts, not-false}
use Rattle.std.proofs.lemmas.List.{set-get_or}
use Rattle.std.proofs.lemmas.Option.{get_or_from_slice_get}
use Rattle.ps_model.specs.declared.pieces.Slot.{Slot}
use Rattle.ps_model.specs.meaning.Compiled as model
use Rattle.ps_model.specs.meaning.Compiled.{cell_written, mask_fits}
use Rattle.ps_model.specs.meaning.RuleMeanings.{CellMeaning}
use Rattle.ps_model.specs.board.Grid.{Grid}
use Rattle.ps_model.specs.board.Places.{fits_there}
use Rattle.ps_model.specs.board.Attempts.{Rewritten, rewritten_cell, same_cell}
use Rattle.ps_laws.proofs.common.SameThings.{same_cell-own}
use Rattle.ps_board.specs.Runnable.{has_room_for}
use Rattle.ps_program.specs.declared.cells.CompiledCell.{CompiledCell}
use Rattle.ps_program.specs.ProgramShown.{cell_shown, mask_shown, write_shown}
use Rattle.ps_program.specs.Leaving.{is_listed, keeps_layer, leaves}
use Rattle.ps_program.proofs.LeavingCells.{leaves-cell}
use Rattle.ps_match.specs.InRoom.{cell_in_room, write_in_room}
use Rattle.ps_places.specs.Lines.{cell_meaning}

-- a write that changes nothing that its cell fits still doesn't, without what has no room
pub all_of_kept : {X : Type 0} (test keep : X → Bool) (xs : List X) → list_all test xs ≡ true →
    list_all test (filter keep xs) ≡ true
all_of_kept test keep [] all = refl
all_of_kept test keep (x ∷ xs) all =
    let parts = and_parts (test x) (list_all test xs) all in
    by (keep x) refl parts.0 (all_of_kept test keep xs parts.1) where
      by : (b : Bool) → keep x ≡ b → test x ≡ true → list_all test (filter keep xs) ≡ true →
          list_all test (filter keep (x ∷ xs)) ≡ true
      by true e here rest = rw (e, here) rest
      by false e here rest = rw e rest

leaves_in_room : (table : Option (List ℕ)) (cell : CompiledCell) → leaves (cell_shown cell) ≡ true →
    leaves (cell_in_room table (cell_shown cell)) ≡ true
leaves_in_room None cell stays = stays
leaves_in_room (Some layers) cell stays =
    let mask : model.CellMask = mask_shown cell.mask in
    let write : model.CellWrite = write_shown cell.write in
    let parts = and_parts (list_all (is_listed mask.barred) write.gone) (list_all (keeps_layer mask) write.layers) stays
    in
    ap₂ (λ (a b : Bool). a && b) parts.0 (all_of_kept (keeps_layer mask) (has_room_for (Some layers)) write.layers
    parts.1)

pub written_to_itself : (table : Option (List ℕ)) (cell : CompiledCell) → cell.changes ≡ false → (slots : List Slot) →
    mask_fits (mask_shown cell.mask) slots ≡ true →
    cell_written (write_in_room table (write_shown cell.write)) slots ≡ slots
written_to_itself table cell idle slots fits =
    leaves-cell (cell_in_room table (cell_shown cell)) slots
    (leaves_in_room table cell (not-false (leaves (cell_shown cell)) (sym cell.tells ∙ idle))) fits

-- a cell that stays, rewritten
abbrev pub with_change : Rewritten → List (List Slot) → Bool → Rewritten
with_change r cells changed = record {
  grid = let g : Grid = r.grid in record g { cells = cells };
  changed = r.changed || changed;
}

pub kept_cell : (r : Rewritten) (m : CellMeaning) (number : ℕ) (found : Option (List Slot)) →
    slice_get (r.grid).cells number ≡ found → ((slots : List Slot) → found ≡ Some slots → m.rewritten slots ≡ slots) →
    rewritten_cell r m number found ≡ r
kept_cell r m number None is stays = refl
kept_cell r m number (Some slots) is stays =
    let cells : List (List Slot) = (r.grid).cells in
    let put : slice_set cells number slots ≡ cells =
    ap (slice_set cells number) (sym (get_or_from_slice_get cells number slots slots is))
    ∙ set-get_or cells number slots in
    ap (λ (new : List Slot). with_change r (slice_set cells number new) (not (same_cell slots new))) (stays slots refl)
    ∙ ap₂ (with_change r) put (ap not (same_cell-own slots))
    ∙ ap (λ (b : Bool). let again : Rewritten = record { grid = r.grid; changed = b } in again) (or-false r.changed)

pub idle_cell : (r : Rewritten) (table : Option (List ℕ)) (cell : CompiledCell) (number : ℕ)
    (found : Option (List Slot)) → cell.changes ≡ false → slice_get (r.grid).cells number ≡ found →
    fits_there (cell_meaning table cell) found ≡ true →
    rewritten_cell r (cell_meaning table cell) number found ≡ r
idle_cell r table cell number found idle is fit =
    kept_cell r (cell_meaning table cell) number found is
    (λ slots same. written_to_itself table cell idle slots
    (ap (fits_there (cell_meaning table cell)) (sym same) ∙ fit))
