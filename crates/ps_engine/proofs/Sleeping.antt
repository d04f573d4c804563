-- Rows whose cells' writes wake none of their own masks: what doesn't fit now fits nowhere later, so that a combination
-- which can't be applied can be left out for good.
use Rattle.std.proofs.Common.{◌≡◌, ◌∙◌, ℕ, zero, suc, Bool, true, false, Option, Some, None, List, [], ◌∷◌, fold}
use Rattle.std.proofs.Common.{filter, cond, refl, sym, ap}
use Rattle.std.specs.Prelude.{All, slice_get, slice_set}
use Rattle.std.proofs.lemmas.List.Elements.{All-head, All-tail}
use Rattle.ps_model.specs.declared.pieces.Slot.{Slot}
use Rattle.ps_model.specs.board.Grid.{Grid}
use Rattle.ps_model.specs.board.Places.{fits_along, fits_there, cells_in}
use Rattle.ps_model.specs.board.Attempts.{Rewritten, all_fit, applied, rewritten_along, rewritten_cell, rewritten_rows}
use Rattle.ps_model.specs.meaning.RuleMeanings.{CellMeaning}
use Rattle.ps_laws.proofs.common.Truths.{first-false, second-false}

-- where a cell doesn't fit, it doesn't behind another one's write
abbrev pub Sleeps : CellMeaning → CellMeaning → Type 0
Sleeps writing asking = (cell : List Slot) → asking.fits cell ≡ false → asking.fits (writing.rewritten cell) ≡ false

-- so for all cells that write and all that ask
abbrev pub LetSleep : List CellMeaning → List CellMeaning → Type 0
LetSleep writing asking = All (λ write. All (Sleeps write) asking) writing

-- so for all rows that write and all that ask
abbrev pub RowsLetSleep : List (List (List CellMeaning)) → List (List (List CellMeaning)) → Type 0
RowsLetSleep writing asking = All (λ row. All (λ other. LetSleep (cells_in row) (cells_in other)) asking) writing

-- one cell of the board -----------------------------------------------------------------------------------------------

-- a cell of the board that doesn't fit doesn't when one is put that doesn't fit where that stood
put_off : (a : CellMeaning) (old new : List Slot) (cells : List (List Slot)) (n m : ℕ) → slice_get cells m ≡ Some old →
    (a.fits old ≡ false → a.fits new ≡ false) →
    fits_there a (slice_get cells n) ≡ false → fits_there a (slice_get (slice_set cells m new) n) ≡ false
put_off a old new [] n m there off h = absurd (cc)
put_off a old new (cell ∷ cells) zero zero there off h = let is : cell ≡ old = cc in off (ap a.fits (sym is) ∙ h)
put_off a old new (cell ∷ cells) zero (suc m) there off h = h
put_off a old new (cell ∷ cells) (suc n) zero there off h = h
put_off a old new (cell ∷ cells) (suc n) (suc m) there off h = put_off a old new cells n m there off h

cell_off : (a b : CellMeaning) → Sleeps b a → (r : Rewritten) (n m : ℕ) (found : Option (List Slot)) →
    slice_get (r.grid).cells m ≡ found → fits_there a (slice_get (r.grid).cells n) ≡ false →
    fits_there a (slice_get ((rewritten_cell r b m found).grid).cells n) ≡ false
cell_off a b asleep r n m None e h = h
cell_off a b asleep r n m (Some cell) e h = put_off a cell (b.rewritten cell) (r.grid).cells n m e (asleep cell) h

-- places --------------------------------------------------------------------------------------------------------------

-- cells that don't fit along a place don't behind one write
off_parts : (test others : Bool) (P : Type 0) → (elim test [ true ↦ others | false ↦ false ]) ≡ false →
    (test ≡ false → P) → (others ≡ false → P) → P
off_parts true others P h one other = other h
off_parts false others P h one other = one refl

along_off : (b : CellMeaning) (r : Rewritten) (m : ℕ) (asking : List CellMeaning) (place : List ℕ) →
    All (Sleeps b) asking → fits_along r.grid asking place ≡ false →
    fits_along (rewritten_cell r b m (slice_get (r.grid).cells m)).grid asking place ≡ false
along_off b r m [] [] asleep h = h
along_off b r m [] (cell ∷ cells) asleep h = refl
along_off b r m (a ∷ asking) [] asleep h = refl
along_off b r m (a ∷ asking) (cell ∷ cells) asleep h =
    off_parts (fits_there a (slice_get (r.grid).cells cell)) (fits_along r.grid asking cells)
    (fits_along (rewritten_cell r b m (slice_get (r.grid).cells m)).grid (a ∷ asking) (cell ∷ cells) ≡ false) h
    (λ off. first-false _ _ (cell_off a b (All-head (Sleeps b) a asking asleep) r cell m (slice_get (r.grid).cells m)
    refl off))
    (λ off. second-false _ _ (along_off b r m asking cells (All-tail (Sleeps b) a asking asleep) off))

-- nor behind the writes along another place
row_off : (r : Rewritten) (writing : List CellMeaning) (at : List ℕ) (asking : List CellMeaning) (place : List ℕ) →
    LetSleep writing asking → fits_along r.grid asking place ≡ false →
    fits_along (rewritten_along r writing at).grid asking place ≡ false
row_off r [] at asking place asleep h = h
row_off r (b ∷ writing) [] asking place asleep h = h
row_off r (b ∷ writing) (m ∷ at) asking place asleep h =
    row_off (rewritten_cell r b m (slice_get (r.grid).cells m)) writing at asking place
    (All-tail (λ write. All (Sleeps write) asking) b writing asleep)
    (along_off b r m asking place (All-head (λ write. All (Sleeps write) asking) b writing asleep) h)

-- combinations --------------------------------------------------------------------------------------------------------

-- a combination that doesn't fit doesn't behind the writes of a row
all_off : (r : Rewritten) (writing : List (List CellMeaning)) (at : List ℕ) (asking : List (List (List CellMeaning)))
    (places : List (List ℕ)) →
    All (λ other. LetSleep (cells_in writing) (cells_in other)) asking → all_fit r.grid asking places ≡ false →
    all_fit (rewritten_along r (cells_in writing) at).grid asking places ≡ false
all_off r writing at [] places asleep h = absurd (cc)
all_off r writing at (row ∷ asking) [] asleep h = refl
all_off r writing at (row ∷ asking) (place ∷ places) asleep h =
    off_parts (fits_along r.grid (cells_in row) place) (all_fit r.grid asking places)
    (all_fit (rewritten_along r (cells_in writing) at).grid (row ∷ asking) (place ∷ places) ≡ false) h
    (λ off. first-false _ _ (row_off r (cells_in writing) at (cells_in row) place
    (All-head (λ other. LetSleep (cells_in writing) (cells_in other)) row asking asleep) off))
    (λ off. second-false _ _ (all_off r writing at asking places
    (All-tail (λ other. LetSleep (cells_in writing) (cells_in other)) row asking asleep) off))

-- nor behind those of all rows
rows_off : (r : Rewritten) (writing : List (List (List CellMeaning))) (at : List (List ℕ))
    (asking : List (List (List CellMeaning))) (places : List (List ℕ)) → RowsLetSleep writing asking →
    all_fit r.grid asking places ≡ false → all_fit (rewritten_rows r writing at).grid asking places ≡ false
rows_off r [] at asking places asleep h = h
rows_off r (row ∷ writing) [] asking places asleep h = h
rows_off r (row ∷ writing) (place ∷ at) asking places asleep h =
    rows_off (rewritten_along r (cells_in row) place) writing at asking places
    (All-tail (λ row. All (λ other. LetSleep (cells_in row) (cells_in other)) asking) row writing asleep)
    (all_off r row place asking places (All-head (λ row.
    All (λ other. LetSleep (cells_in row) (cells_in other)) asking) row writing asleep) h)

-- a combination that doesn't fit doesn't behind another one that is applied
applied_off : (rows : List (List (List CellMeaning))) → RowsLetSleep rows rows → (r : Rewritten)
    (other places : List (List ℕ)) (fit : Bool) → all_fit r.grid rows other ≡ fit → all_fit r.grid rows places ≡ false →
    all_fit (applied rows r other).grid rows places ≡ false
applied_off rows asleep r other places true e h =
    ap (λ (b : Bool). let s : Rewritten = elim b [ true ↦ rewritten_rows r rows other | false ↦ r ] in all_fit s.grid
    rows places) e ∙ rows_off r rows other rows places asleep h
applied_off rows asleep r other places false e h =
    ap (λ (b : Bool). let s : Rewritten = elim b [ true ↦ rewritten_rows r rows other | false ↦ r ] in all_fit s.grid
    rows places) e ∙ h

-- combinations that don't fit on a grid don't on that of a later one
abbrev pub Sleep : List (List (List CellMeaning)) → Grid → Grid → Type 0
Sleep rows before now = (places : List (List ℕ)) → all_fit before rows places ≡ false → all_fit now rows places ≡ false

unfit_applied : (rows : List (List (List CellMeaning))) (r : Rewritten) (places : List (List ℕ)) →
    all_fit r.grid rows places ≡ false → applied rows r places ≡ r
unfit_applied rows r places e = ap (λ (b : Bool). elim b [ true ↦ rewritten_rows r rows places | false ↦ r ]) e

-- so those that don't fit on the grid at the start can be left out
abbrev LeftOut : List (List (List CellMeaning)) → Grid → List (List (List ℕ)) → Type 0
LeftOut rows before xs =
    (r : Rewritten) → Sleep rows before r.grid →
    fold (applied rows) r xs ≡ fold (applied rows) r (filter (all_fit before rows) xs)

fit_more : (rows : List (List (List CellMeaning))) → RowsLetSleep rows rows → (before : Grid) (x : List (List ℕ))
    (xs : List (List (List ℕ))) (fit : Bool) → all_fit before rows x ≡ fit → LeftOut rows before xs →
    (r : Rewritten) → Sleep rows before r.grid →
    fold (applied rows) r (x ∷ xs) ≡ fold (applied rows) r
    (cond fit (x ∷ filter (all_fit before rows) xs) (filter (all_fit before rows) xs))
fit_more rows asleep before x xs true e others r sleep =
    others (applied rows r x)
    (λ places off. applied_off rows asleep r x places (all_fit r.grid rows x) refl (sleep places off))
fit_more rows asleep before x xs false e others r sleep =
    ap (λ (s : Rewritten). fold (applied rows) s xs) (unfit_applied rows r x (sleep x e)) ∙ others r sleep

fit_alone : (rows : List (List (List CellMeaning))) → RowsLetSleep rows rows → (before : Grid)
    (xs : List (List (List ℕ))) → LeftOut rows before xs
fit_alone rows asleep before [] r sleep = refl
fit_alone rows asleep before (x ∷ xs) r sleep =
    fit_more rows asleep before x xs (all_fit before rows x) refl (fit_alone rows asleep before xs) r sleep

pub sleeping_left_out : (rows : List (List (List CellMeaning))) → RowsLetSleep rows rows → (r : Rewritten)
    (xs ys : List (List (List ℕ))) → filter (all_fit r.grid rows) xs ≡ filter (all_fit r.grid rows) ys →
    fold (applied rows) r xs ≡ fold (applied rows) r ys
sleeping_left_out rows asleep r xs ys e =
    fit_alone rows asleep r.grid xs r (λ places off. off) ∙ ap (fold (applied rows) r) e
    ∙ sym (fit_alone rows asleep r.grid ys r (λ places off. off))
