-- A part at a place, cell by cell.
use Rattle.std.proofs.Common.{◌≡◌, ◌∙◌, ℕ, ◌+◌, ◌-◌, ◌*◌, ◌<◌, ◌≤◌, ◌&&◌, suc, zero, Bool, true, false, Option, Some}
use Rattle.std.proofs.Common.{None, List, [], ◌∷◌, length, map, drop, refl, sym, ap, ap₂, arith}
use Rattle.std.specs.Prelude.{slice_get}
use Rattle.std.specs.List.{range_with_len}
use Rattle.std.proofs.Math.Nat.{add-mul}
use Rattle.std.proofs.Math.Seq.{drop-cons}
use Rattle.std.proofs.lemmas.Option.{slice_get_within, get_or_from_slice_get}
use Rattle.std.proofs.lemmas.List.{drop_all}
use Rattle.ps_model.specs.declared.pieces.Slot.{Slot}
use Rattle.ps_model.specs.board.Grid.{Grid}
use Rattle.ps_model.specs.board.Places.{fits_there, fits_along}
use Rattle.ps_laws.proofs.common.Truths.{first-false, second-false}
use Rattle.ps_program.specs.declared.cells.CompiledCell.{CompiledCell}
use Rattle.ps_program.specs.ProgramShown.{mask_shown}
use Rattle.ps_match.specs.InRoom.{meaning_of_mask}
use Rattle.ps_places.specs.Lines.{cell_meaning, cells_from, part_meaning}

pub moved_on : (x h row n : ℕ) → (x + n) * h + row ≡ x * h + row + n * h
moved_on x h row n = let split : (x + n) * h ≡ x * h + n * h = add-mul x n h in omega (arith, split)

-- a cell fits by its mask alone
pub fits_by_mask : (table : Option (List ℕ)) (c : CompiledCell) (cell : Option (List Slot)) →
    fits_there (meaning_of_mask (mask_shown c.mask)) cell ≡ fits_there (cell_meaning table c) cell
fits_by_mask table c None = refl
fits_by_mask table c (Some cell) = refl

-- what is left of a part from an index on
abbrev pub fits_from : Grid → Option (List ℕ) → List CompiledCell → (ℕ → ℕ) → ℕ → ℕ → Bool
fits_from g table cells at size index = fits_along g (map (cell_meaning table) (drop index cells))
    (map at (range_with_len index (size - index)))

-- whether the rest fits, if the next cell does or does not

split : (g : Grid) (table : Option (List ℕ)) (cells : List CompiledCell) (at : ℕ → ℕ) (size index : ℕ)
    (c : CompiledCell) → slice_get cells index ≡ Some c → index < size →
    fits_from g table cells at size index
    ≡ fits_along g (cell_meaning table c ∷ map (cell_meaning table) (drop (suc index) cells))
    (at index ∷ map at (range_with_len (index + 1) (size - (index + 1))))
split g table cells at size index c e h =
    let n : size - index ≡ suc (size - (index + 1)) = omega arith in
    let rest : drop index cells ≡ c ∷ drop (suc index) cells =
    drop-cons cells index c (slice_get_within cells index c e)
    ∙ ap (λ (first : CompiledCell). first ∷ drop (suc index) cells) (get_or_from_slice_get cells index c c e) in
    ap (λ (cs : List CompiledCell). fits_along g (map (cell_meaning table) cs)
    (map at (range_with_len index (size - index)))) rest
    ∙ ap (λ (k : ℕ). fits_along g (map (cell_meaning table) (c ∷ drop (suc index) cells))
    (map at (range_with_len index k))) n

unless : (test : Bool) (then_ : Bool) → test ≡ true → (elim test [ true ↦ then_ | false ↦ false ]) ≡ then_
unless test then_ e = rw e refl

pub fits_from-on : (g : Grid) (table : Option (List ℕ)) (cells : List CompiledCell) (at : ℕ → ℕ) (size index : ℕ)
    (c : CompiledCell) → slice_get cells index ≡ Some c → index < size →
    fits_there (meaning_of_mask (mask_shown c.mask)) (slice_get g.cells (at index)) ≡ true →
    fits_from g table cells at size index ≡ fits_from g table cells at size (index + 1)
fits_from-on g table cells at size index c e h fit =
    let n : suc index ≡ index + 1 = omega arith in
    split g table cells at size index c e h
    ∙ unless (fits_there (cell_meaning table c) (slice_get g.cells (at index))) _
    (sym (fits_by_mask table c (slice_get g.cells (at index))) ∙ fit)
    ∙ ap (λ (k : ℕ). fits_along g (map (cell_meaning table) (drop k cells))
    (map at (range_with_len (index + 1) (size - (index + 1))))) n

pub fits_from-off : (g : Grid) (table : Option (List ℕ)) (cells : List CompiledCell) (at : ℕ → ℕ) (size index : ℕ)
    (c : CompiledCell) → slice_get cells index ≡ Some c → index < size →
    fits_there (meaning_of_mask (mask_shown c.mask)) (slice_get g.cells (at index)) ≡ false →
    fits_from g table cells at size index ≡ false
fits_from-off g table cells at size index c e h fit =
    split g table cells at size index c e h
    ∙ first-false (fits_there (cell_meaning table c) (slice_get g.cells (at index))) _
    (sym (fits_by_mask table c (slice_get g.cells (at index))) ∙ fit)

-- all cells were looked at
pub fits_from-end : (g : Grid) (table : Option (List ℕ)) (cells : List CompiledCell) (at : ℕ → ℕ) (size index : ℕ) →
    length cells ≡ size → size ≤ index → fits_from g table cells at size index ≡ true
fits_from-end g table cells at size index e h = let n : size - index ≡ 0 = omega arith in
    rw (n, drop_all index cells (omega arith)) refl

-- one cell more
pub fits_from-by : (g : Grid) (table : Option (List ℕ)) (cells : List CompiledCell) (at : ℕ → ℕ) (size index : ℕ)
    (c : CompiledCell) (fits : Bool) → slice_get cells index ≡ Some c → index < size →
    fits_there (meaning_of_mask (mask_shown c.mask)) (slice_get g.cells (at index)) ≡ fits →
    fits_from g table cells at size index ≡ (fits && fits_from g table cells at size (index + 1))
fits_from-by g table cells at size index c true e h fit = fits_from-on g table cells at size index c e h fit
fits_from-by g table cells at size index c false e h fit = fits_from-off g table cells at size index c e h fit

-- a part one of whose cells doesn't fit
one_off : (g : Grid) (table : Option (List ℕ)) (cells : List CompiledCell) (at : ℕ → ℕ) (a n i : ℕ) (c : CompiledCell) →
    slice_get cells i ≡ Some c → i < n →
    fits_there (cell_meaning table c) (slice_get g.cells (at (a + i))) ≡ false →
    fits_along g (map (cell_meaning table) cells) (map at (range_with_len a n)) ≡ false
one_off g table [] at a n i c e low off = absurd (cc)
one_off g table (d ∷ cells) at a zero i c e low off = absurd (omega arith)
one_off g table (d ∷ cells) at a (suc n) zero c e low off =
    let is : d ≡ c = cc in
    let here : a + 0 ≡ a = omega arith in
    first-false (fits_there (cell_meaning table d) (slice_get g.cells (at a))) _
    (ap₂ (λ (d : CompiledCell) (k : ℕ). fits_there (cell_meaning table d) (slice_get g.cells (at k))) is (sym here)
    ∙ off)
one_off g table (d ∷ cells) at a (suc n) (suc i) c e low off =
    let next : a + 1 + i ≡ a + suc i = omega arith in
    second-false (fits_there (cell_meaning table d) (slice_get g.cells (at a))) _
    (one_off g table cells at (a + 1) n i c e (omega arith)
    (ap (λ (k : ℕ). fits_there (cell_meaning table c) (slice_get g.cells (at k))) next ∙ off))

pub fits_not : (g : Grid) (table : Option (List ℕ)) (cells : List CompiledCell) (first step size index : ℕ)
    (c : CompiledCell) → slice_get cells index ≡ Some c → index < size →
    fits_there (meaning_of_mask (mask_shown c.mask)) (slice_get g.cells (first + index * step)) ≡ false →
    fits_along g (part_meaning table cells) (cells_from step first size) ≡ false
fits_not g table cells first step size index c e low off =
    let from : 0 + index ≡ index = omega arith in
    one_off g table cells (λ k. first + k * step) 0 size index c e low
    (ap (λ (k : ℕ). fits_there (cell_meaning table c) (slice_get g.cells (first + k * step))) from
    ∙ sym (fits_by_mask table c (slice_get g.cells (first + index * step))) ∙ off)
