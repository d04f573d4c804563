-- What is rewritten is the same whether something has changed before or not, and so is what changes.
use Rattle.std.proofs.Common.{◌≡◌, ◌∙◌, ℕ, ◌+◌, ◌*◌, ◌||◌, Bool, true, false, not, Option, Some, None, List, [], ◌∷◌}
use Rattle.std.proofs.Common.{length}
use Rattle.std.proofs.Common.{fold, refl, sym, ap}
use Rattle.std.specs.Prelude.{if◌then◌else◌, slice_get}
use Rattle.std.specs.List.{range_with_len}
use Rattle.std.proofs.Math.Bool.{or-false, or_assoc}
use Rattle.ps_model.specs.declared.pieces.Slot.{Slot}
use Rattle.ps_model.specs.board.Grid.{Grid}
use Rattle.ps_model.specs.board.Places.{fits_along}
use Rattle.ps_model.specs.board.Attempts.{Rewritten, rewritten_along, rewritten_cell, same_cell}
use Rattle.ps_model.specs.meaning.RuleMeanings.{CellMeaning}
use Rattle.ps_board.specs.ColumnSets.{column_at}
use Rattle.ps_match.proofs.RowWritten.{told}
use Rattle.ps_places.specs.InTurn.{applied_down, row_in_turn, turn_down}
use Rattle.ps_places.specs.Lines.{cells_from}
use Rattle.ps_places.proofs.Apart.{applied-is, applied_along, applied_by}

-- something changed before, or now
abbrev pub or_before : Bool → Rewritten → Rewritten
or_before changed r = told r.grid (changed || r.changed)

cell_before : (b : Bool) (r : Rewritten) (m : CellMeaning) (n : ℕ) (found : Option (List Slot)) →
    rewritten_cell (or_before b r) m n found ≡ or_before b (rewritten_cell r m n found)
cell_before b r m n None = refl
cell_before b r m n (Some cell) =
    ap (told (rewritten_cell r m n (Some cell)).grid)
    (or_assoc b r.changed (not (same_cell cell (m.rewritten cell))))

along_before : (b : Bool) (r : Rewritten) (ms : List CellMeaning) (cells : List ℕ) →
    rewritten_along (or_before b r) ms cells ≡ or_before b (rewritten_along r ms cells)
along_before b r [] cells = refl
along_before b r (m ∷ ms) [] = refl
along_before b r (m ∷ ms) (n ∷ cells) =
    let found : Option (List Slot) = slice_get (r.grid).cells n in
    ap (λ (s : Rewritten). rewritten_along s ms cells) (cell_before b r m n found)
    ∙ along_before b (rewritten_cell r m n found) ms cells

place_before : (b : Bool) (ms : List CellMeaning) (r : Rewritten) (place : List ℕ) →
    applied_along ms (or_before b r) place ≡ or_before b (applied_along ms r place)
place_before b ms r place = by (fits_along r.grid ms place) refl where
  by : (fit : Bool) → fits_along r.grid ms place ≡ fit →
      applied_along ms (or_before b r) place ≡ or_before b (applied_along ms r place)
  by true e =
      applied_by ms (or_before b r) place true e
      ∙ along_before b r ms place
      ∙ sym (ap (or_before b) (applied_by ms r place true e))
  by false e = applied_by ms (or_before b r) place false e ∙ sym (ap (or_before b) (applied_by ms r place false e))

turn_before : (b : Bool) (height : ℕ) (all : List CellMeaning) (row : ℕ) (columns : List Bool) (r : Rewritten)
    (x : ℕ) → turn_down height all row columns (or_before b r) x ≡ or_before b (turn_down height all row columns r x)
turn_before b height all row columns r x = by (column_at columns x) where
  place : List ℕ
  place = cells_from 1 (x * height + row) (length all)

  by : (on : Bool) →
      (if on then applied_down height all row (or_before b r) x else or_before b r)
      ≡ or_before b (if on then applied_down height all row r x else r)
  by true =
      applied-is all (or_before b r) place
      ∙ place_before b all r place
      ∙ sym (ap (or_before b) (applied-is all r place))
  by false = refl

turns_before : (b : Bool) (height : ℕ) (all : List CellMeaning) (row : ℕ) (columns : List Bool) (r : Rewritten)
    (xs : List ℕ) → fold (turn_down height all row columns) (or_before b r) xs
    ≡ or_before b (fold (turn_down height all row columns) r xs)
turns_before b height all row columns r [] = refl
turns_before b height all row columns r (x ∷ xs) =
    ap (λ (s : Rewritten). fold (turn_down height all row columns) s xs)
    (turn_before b height all row columns r x)
    ∙ turns_before b height all row columns (turn_down height all row columns r x) xs

-- a row of a board of which something may have changed
pub row_before : (b : Bool) (g : Grid) (width height : ℕ) (all : List CellMeaning) (row : ℕ) (columns : List Bool) →
    row_in_turn width height all row columns (told g b)
    ≡ or_before b (row_in_turn width height all row columns (told g false))
row_before b g width height all row columns =
    ap (λ (c : Bool). row_in_turn width height all row columns (told g c)) (sym (or-false b))
    ∙ turns_before b height all row columns (told g false) (range_with_len 0 width)
