-- A part of a row on a line, cell by cell.
use Rattle.std.proofs.Common.{◌≡◌, ◌∙◌, ℕ, ◌+◌, ◌-◌, ◌*◌, ◌<◌, ◌≤◌, suc, zero, Bool, true, false, Option, Some, None}
use Rattle.std.proofs.Common.{List, [], ◌∷◌, length, map, drop, get_or, refl, sym, ap, ap₂, arith}
use Rattle.std.specs.Prelude.{slice_get}
use Rattle.std.specs.List.{range_with_len}
use Rattle.std.proofs.lemmas.List.{drop_all, drop_more, length-set}
use Rattle.std.proofs.lemmas.Option.{slice_get_past}
use Rattle.std.proofs.Math.Nat.{mul-le-mul}
use Rattle.ps_model.specs.declared.pieces.Slot.{Slot}
use Rattle.ps_model.specs.board.Grid.{Grid, IsGrid}
use Rattle.ps_model.specs.declared.limits.TheConstants.{SIDE_LIMIT}
use Rattle.ps_model.specs.board.Places.{fits_along, fits_there}
use Rattle.ps_model.specs.board.Attempts.{Rewritten, rewritten_along, rewritten_cell}
use Rattle.ps_model.specs.meaning.RuleMeanings.{CellMeaning}
use Rattle.ps_laws.proofs.common.Truths.{both-hold}
use Rattle.ps_program.specs.declared.cells.CompiledCell.{CompiledCell}
use Rattle.ps_program.specs.ProgramShown.{mask_shown, write_shown}
use Rattle.ps_match.specs.InRoom.{meaning_of_mask, meaning_of_write, write_in_room}
use Rattle.ps_places.specs.Lines.{cell_meaning, cells_from, part_meaning}
use Rattle.ps_places.proofs.CellByCell.{fits_by_mask}

-- a cell is rewritten by its write alone
pub rewritten_by_write : (r : Rewritten) (table : Option (List ℕ)) (c : CompiledCell) (n : ℕ)
    (cell : Option (List Slot)) →
    rewritten_cell r (meaning_of_write (write_in_room table (write_shown c.write))) n cell
    ≡ rewritten_cell r (cell_meaning table c) n cell
rewritten_by_write r table c n None = refl
rewritten_by_write r table c n (Some cell) = refl

-- the first cell and the others
later_on : (step first a n : ℕ) → map (λ k. first + k * step) (range_with_len (a + 1) n)
    ≡ map (λ k. first + step + k * step) (range_with_len a n)
later_on step first a zero = refl
later_on step first a (suc n) =
    let e : first + (a + 1) * step ≡ first + step + a * step = omega arith in
    ap₂ (λ (x : ℕ) (xs : List ℕ). x ∷ xs) e (later_on step first (a + 1) n)

pub cells_from-next : (step first n m : ℕ) → n ≡ suc m →
    cells_from step first n ≡ first ∷ cells_from step (first + step) m
cells_from-next step first n m e =
    let start : first + 0 * step ≡ first = omega arith in
    rw e (ap₂ (λ (x : ℕ) (xs : List ℕ). x ∷ xs) start (later_on step first 0 m))

-- what is left of a part from a cell on
abbrev pub fits_from : Grid → Option (List ℕ) → List CompiledCell → ℕ → ℕ → ℕ → Bool
fits_from g table part step index number = fits_along g (part_meaning table (drop index part))
    (cells_from step number (length part - index))

abbrev pub rewritten_from : Rewritten → Option (List ℕ) → List CompiledCell → ℕ → ℕ → ℕ → Rewritten
rewritten_from r table part step index number = rewritten_along r (part_meaning table (drop index part))
    (cells_from step number (length part - index))

split : (table : Option (List ℕ)) (part : List CompiledCell) (index : ℕ) (c : CompiledCell) → index < length part →
    c ≡ get_or part index c →
    part_meaning table (drop index part) ≡ cell_meaning table c ∷ part_meaning table (drop (index + 1) part)
split table part index c low e =
    ap (part_meaning table) (drop_more part index c low)
    ∙ ap (λ (first : CompiledCell). part_meaning table (first ∷ drop (index + 1) part)) (sym e)

split_cells : (part : List CompiledCell) (step index number : ℕ) → index < length part →
    cells_from step number (length part - index) ≡ number ∷ cells_from step (number + step) (length part - (index + 1))
split_cells part step index number low = cells_from-next step number (length part - index) (length part - (index + 1))
    (omega arith)

fits_now : (g : Grid) (table : Option (List ℕ)) (part : List CompiledCell) (step index number : ℕ) (c : CompiledCell)
    (fit : Bool) → index < length part → c ≡ get_or part index c →
    fits_there (meaning_of_mask (mask_shown c.mask)) (slice_get g.cells number) ≡ fit →
    fits_from g table part step index number
    ≡ (elim fit [ true ↦ fits_from g table part step (index + 1) (number + step) | false ↦ false ])
fits_now g table part step index number c fit low e f =
    ap₂ (λ (ms : List _) (cells : List ℕ). fits_along g ms cells) (split table part index c low e)
    (split_cells part step index number low)
    ∙ ap (λ (b : Bool). elim b [ true ↦ fits_from g table part step (index + 1) (number + step) | false ↦ false ])
    (sym (fits_by_mask table c (slice_get g.cells number)) ∙ f)

pub fits_from-on : (g : Grid) (table : Option (List ℕ)) (part : List CompiledCell) (step index number : ℕ)
    (c : CompiledCell) → index < length part → c ≡ get_or part index c →
    fits_there (meaning_of_mask (mask_shown c.mask)) (slice_get g.cells number) ≡ true →
    fits_from g table part step index number ≡ fits_from g table part step (index + 1) (number + step)
fits_from-on g table part step index number c low e f = fits_now g table part step index number c true low e f

pub fits_from-off : (g : Grid) (table : Option (List ℕ)) (part : List CompiledCell) (step index number : ℕ)
    (c : CompiledCell) → index < length part → c ≡ get_or part index c →
    fits_there (meaning_of_mask (mask_shown c.mask)) (slice_get g.cells number) ≡ false →
    fits_from g table part step index number ≡ false
fits_from-off g table part step index number c low e f = fits_now g table part step index number c false low e f

-- no cell beyond the board fits, and none is rewritten there
pub fits_from-beyond : (g : Grid) (table : Option (List ℕ)) (part : List CompiledCell) (step index number : ℕ)
    (c : CompiledCell) → index < length part → c ≡ get_or part index c →
    length g.cells ≤ number → fits_from g table part step index number ≡ false
fits_from-beyond g table part step index number c low e high =
    fits_from-off g table part step index number c low e (ap (fits_there (meaning_of_mask (mask_shown c.mask)))
    (slice_get_past g.cells number high))

pub rewritten_past : (r : Rewritten) (meanings : List CellMeaning) (step number n : ℕ) →
    length (r.grid).cells ≤ number → rewritten_along r meanings (cells_from step number n) ≡ r
rewritten_past r [] step number n high = refl
rewritten_past r (m ∷ meanings) step number zero high = refl
rewritten_past r (m ∷ meanings) step number (suc n) high =
    ap (rewritten_along r (m ∷ meanings)) (cells_from-next step number (suc n) n refl)
    ∙ ap (λ (s : Rewritten). rewritten_along s meanings (cells_from step (number + step) n))
    (ap (rewritten_cell r m number) (slice_get_past (r.grid).cells number high))
    ∙ rewritten_past r meanings step (number + step) n (omega (arith, high))

-- a grid has few cells
pub few_cells : (g : Grid) → IsGrid g → length g.cells ≤ SIDE_LIMIT * SIDE_LIMIT
few_cells g shape = let most : g.width * g.height ≤ SIDE_LIMIT * SIDE_LIMIT = mul-le-mul shape.columns shape.rows in
    omega (arith, most, shape.cells)

-- a cell rewritten leaves as many
pub same_length : (r : Rewritten) (m : CellMeaning) (n : ℕ) (cell : Option (List Slot)) →
    length (((rewritten_cell r m n cell).grid).cells) ≡ length ((r.grid).cells)
same_length r m n None = refl
same_length r m n (Some cell) = length-set (r.grid).cells n (m.rewritten cell)

-- all cells were looked at
pub fits_from-end : (g : Grid) (table : Option (List ℕ)) (part : List CompiledCell) (step index number : ℕ) →
    length part ≤ index → fits_from g table part step index number ≡ true
fits_from-end g table part step index number h = let n : length part - index
    ≡ 0 = omega arith in rw (n, drop_all index part h) refl

pub rewritten_from-end : (r : Rewritten) (table : Option (List ℕ)) (part : List CompiledCell) (step index number : ℕ) →
    length part ≤ index → rewritten_from r table part step index number ≡ r
rewritten_from-end r table part step index number h = rw (drop_all index part h) refl

-- the next cell rewritten
pub rewritten_from-on : (r : Rewritten) (table : Option (List ℕ)) (part : List CompiledCell) (step index number : ℕ)
    (c : CompiledCell) → index < length part → c ≡ get_or part index c →
    rewritten_from r table part step index number
    ≡ rewritten_from (rewritten_cell r (meaning_of_write (write_in_room table (write_shown c.write))) number
    (slice_get (r.grid).cells number)) table part step (index + 1) (number + step)
rewritten_from-on r table part step index number c low e =
    ap₂ (λ (ms : List _) (cells : List ℕ). rewritten_along r ms cells) (split table part index c low e)
    (split_cells part step index number low)
    ∙ ap (λ (next : Rewritten). rewritten_along next (part_meaning table (drop (index + 1) part))
    (cells_from step (number + step) (length part - (index + 1))))
    (sym (rewritten_by_write r table c number (slice_get (r.grid).cells number)))

pub rewritten_from-next : (r : Rewritten) (table : Option (List ℕ)) (part : List CompiledCell)
    (step index number : ℕ) (c : CompiledCell) → index < length part → c ≡ get_or part index c →
    rewritten_from r table part step index number
    ≡ rewritten_from (rewritten_cell r (cell_meaning table c) number (slice_get (r.grid).cells number)) table part step
    (index + 1) (number + step)
rewritten_from-next r table part step index number c low e =
    rewritten_from-on r table part step index number c low e
    ∙ ap (λ (next : Rewritten). rewritten_from next table part step (index + 1) (number + step))
    (rewritten_by_write r table c number (slice_get (r.grid).cells number))

-- what is left fits where the next cell does, and what is left behind it
pub fits_from-parts : (g : Grid) (table : Option (List ℕ)) (part : List CompiledCell) (step index number : ℕ)
    (c : CompiledCell) → index < length part → c ≡ get_or part index c →
    fits_from g table part step index number ≡ true →
    (fits_there (cell_meaning table c) (slice_get g.cells number) ≡ true)
    × (fits_from g table part step (index + 1) (number + step) ≡ true)
fits_from-parts g table part step index number c low e fit =
    let found : Option (List Slot) = slice_get g.cells number in
    let here : Bool = fits_there (meaning_of_mask (mask_shown c.mask)) found in
    let both = both-hold here (fits_from g table part step (index + 1) (number + step))
    (sym (fits_now g table part step index number c here low e refl) ∙ fit) in
    (sym (fits_by_mask table c found) ∙ both.0, both.1)
