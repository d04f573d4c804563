-- Cells that are written to themselves.
use Rattle.std.proofs.Common.{◌≡◌, ◌∙◌, ℕ, ◌<◌, Bool, true, false, Option, List, [], length, refl, sym, ap, ap₂, arith}
use Rattle.std.specs.Prelude.{slice_get}
use Rattle.std.proofs.lemmas.Option.{slice_get-get_or}
use Rattle.ps_model.specs.declared.pieces.Slot.{Slot}
use Rattle.ps_model.specs.board.Grid.{Grid, cell_at}
use Rattle.ps_model.specs.board.Places.{fits_there}
use Rattle.ps_laws.proofs.common.SameThings.{same_cell-own}
use Rattle.ps_program.specs.declared.cells.CompiledCell.{CompiledCell}
use Rattle.ps_match.specs.Together.{cell_where, changes_where, rewritten_where}
use Rattle.ps_match.proofs.Chosen.{any_agree, rewritten_of, where-none}
use Rattle.ps_match.proofs.RowWritten.{told}
use Rattle.ps_places.specs.Lines.{cell_meaning}
use Rattle.ps_places.proofs.Ranges.{map-range-agree}
use Rattle.ps_places.proofs.WrittenToItself.{written_to_itself}

-- where each cell that is chosen becomes itself, nothing changes
module _ (g : Grid) (becomes : List Slot → List Slot) (chosen : ℕ → Bool) (stays : (n : ℕ) → n < length g.cells →
    chosen n ≡ true → becomes (cell_at g n) ≡ cell_at g n) where
  cell_by : (n : ℕ) (b : Bool) → n < length g.cells → chosen n ≡ b → cell_where g becomes chosen n ≡ cell_at g n
  cell_by n true low e = rw e (stays n low e)
  cell_by n false low e = rw e refl

  change_by : (n : ℕ) (b : Bool) → n < length g.cells → chosen n ≡ b → changes_where g becomes chosen n ≡ false
  change_by n true low e = rw (e, stays n low e, same_cell-own (cell_at g n)) refl
  change_by n false low e = rw e refl

  pub where_still : rewritten_where g becomes chosen ≡ told g false
  unfolding rewritten_where
  where_still =
      ap₂ (rewritten_of g)
      (map-range-agree (cell_where g becomes chosen) (cell_where g becomes (λ n. false)) 0 (length g.cells)
      (λ n low high. cell_by n (chosen n) (omega (arith, high)) refl))
      (any_agree (changes_where g becomes chosen) (changes_where g becomes (λ n. false)) 0 (length g.cells)
      (λ n low high. change_by n (chosen n) (omega (arith, high)) refl))
      ∙ where-none g becomes (λ n. false) (λ n low. refl)

-- cells where it fits by its mask stay
pub stays_where : (g : Grid) (table : Option (List ℕ)) (cell : CompiledCell) (chosen : ℕ → Bool) →
    cell.changes ≡ false →
    ((n : ℕ) → n < length g.cells → chosen n ≡ true →
    fits_there (cell_meaning table cell) (slice_get g.cells n) ≡ true) →
    rewritten_where g (cell_meaning table cell).rewritten chosen ≡ told g false
stays_where g table cell chosen idle fit =
    where_still g (cell_meaning table cell).rewritten chosen
    (λ n low here. written_to_itself table cell idle (cell_at g n)
    (ap (fits_there (cell_meaning table cell)) (sym (slice_get-get_or g.cells n [] low)) ∙ fit n low here))
