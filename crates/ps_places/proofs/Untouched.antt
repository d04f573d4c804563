-- Cells that lie behind those that are rewritten stay as they are.
use Rattle.std.proofs.Common.{◌≡◌, ◌∙◌, ℕ, ◌+◌, ◌-◌, ◌*◌, ◌<◌, ◌≤◌, ◌&&◌, suc, zero, Bool, true, false, Option, Some}
use Rattle.std.proofs.Common.{None}
use Rattle.std.proofs.Common.{List, [], ◌∷◌, drop, get_or, length, map, refl, sym, ap, ap₂, arith}
use Rattle.std.specs.Prelude.{slice_get, ⊤}
use Rattle.std.specs.List.{range_with_len}
use Rattle.std.proofs.Math.Nat.{add-mul}
use Rattle.std.proofs.lemmas.Bool.{and_parts}
use Rattle.std.proofs.lemmas.List.{drop_more}
use Rattle.ps_model.specs.declared.pieces.Slot.{Slot}
use Rattle.ps_model.specs.board.Grid.{Grid}
use Rattle.ps_model.specs.board.Places.{fits_along, fits_there}
use Rattle.ps_model.specs.board.Attempts.{Rewritten, rewritten_along, rewritten_cell}
use Rattle.ps_model.specs.meaning.RuleMeanings.{CellMeaning}
use Rattle.ps_laws.proofs.common.Lists.{read_other}
use Rattle.ps_program.specs.declared.cells.CompiledCell.{CompiledCell}
use Rattle.ps_program.specs.declared.rows.Axis.{Axis}
use Rattle.ps_program.specs.declared.rows.Axis.TheVariants.{Down, Right}
use Rattle.ps_places.specs.Lines.{cell_on, cells_from, line_cells, part_fits, part_meaning, step_along}
use Rattle.ps_places.specs.FittingWays.{way_fits}
use Rattle.ps_places.specs.RowPlaces.{part_sizes}
use Rattle.ps_places.specs.Spaced.{IsSpaced}
use Rattle.ps_places.proofs.CellsInTurn.{fits_from}
use Rattle.ps_places.proofs.PlacesOfWays.{way-fits-next}

-- the numbers are less than one, and they are it or greater
abbrev pub AreBelow : ℕ → List ℕ → Type 0
AreBelow end [] = ⊤
AreBelow end (cell ∷ cells) = (cell < end) × AreBelow end cells

abbrev pub AreFrom : ℕ → List ℕ → Type 0
AreFrom start [] = ⊤
AreFrom start (cell ∷ cells) = (start ≤ cell) × AreFrom start cells

-- two grids have the same cells from a number on
abbrev pub AgreeFrom : ℕ → Grid → Grid → Type 0
AgreeFrom start g h = (n : ℕ) → start ≤ n → slice_get h.cells n ≡ slice_get g.cells n

-- what is rewritten ---------------------------------------------------------------------------------------------------

-- one cell
pub agree-cell : (r : Rewritten) (m : CellMeaning) (number start : ℕ) (cell : Option (List Slot)) → number < start →
    AgreeFrom start r.grid (rewritten_cell r m number cell).grid
agree-cell r m number start None low n high = refl
agree-cell r m number start (Some cell) low n high =
    read_other (r.grid).cells number n (m.rewritten cell) (λ e. absurd (omega (arith, e, low, high)))

-- cells one after the other
pub agree-along : (r : Rewritten) (ms : List CellMeaning) (cells : List ℕ) (start : ℕ) → AreBelow start cells →
    AgreeFrom start r.grid (rewritten_along r ms cells).grid
agree-along r [] cells start low n high = refl
agree-along r (m ∷ ms) [] start low n high = refl
agree-along r (m ∷ ms) (cell ∷ cells) start low n high =
    let found : Option (List Slot) = slice_get (r.grid).cells cell in
    agree-along (rewritten_cell r m cell found) ms cells start low.1 n high
    ∙ agree-cell r m cell start found low.0 n high

-- what lies behind it fits as before ----------------------------------------------------------------------------------

pub fits-agree : (g h : Grid) (ms : List CellMeaning) (cells : List ℕ) (start : ℕ) → AgreeFrom start g h →
    AreFrom start cells → fits_along h ms cells ≡ fits_along g ms cells
fits-agree g h [] [] start same far = refl
fits-agree g h [] (cell ∷ cells) start same far = refl
fits-agree g h (m ∷ ms) [] start same far = refl
fits-agree g h (m ∷ ms) (cell ∷ cells) start same far =
    ap₂ (λ (a b : Bool). elim a [ true ↦ b | false ↦ false ]) (ap (fits_there m) (same cell far.0))
    (fits-agree g h ms cells start same far.1)

-- cells of a line -----------------------------------------------------------------------------------------------------

from-cells : (first step start a n : ℕ) → start ≤ first →
    AreFrom start (map (λ k. first + k * step) (range_with_len a n))
from-cells first step start a zero far = tt
from-cells first step start a (suc n) far = (omega arith, from-cells first step start (a + 1) n far)

pub cells-from : (first step size start : ℕ) → start ≤ first → AreFrom start (cells_from step first size)
cells-from first step size start far = from-cells first step start 0 size far

below-cells : (first step a n end : ℕ) → 0 < step → first + (a + n) * step ≤ end →
    AreBelow end (map (λ k. first + k * step) (range_with_len a n))
below-cells first step a zero end some low = tt
below-cells first step a (suc n) end some low =
    let more : (a + suc n) * step ≡ a * step + suc n * step = add-mul a (suc n) step in
    let one : suc n * step ≡ step + n * step = omega arith in
    let next : a + 1 + n ≡ a + suc n = omega arith in
    let rest : first + (a + 1 + n) * step ≤ end = rw next low in
    (omega (arith, more, one, some, low), below-cells first step (a + 1) n end some rest)

pub cells-below : (first step size end : ℕ) → 0 < step → first + size * step ≤ end →
    AreBelow end (cells_from step first size)
cells-below first step size end some low =
    let all : 0 + size ≡ size = omega arith in
    let most : first + (0 + size) * step ≤ end = rw all low in
    below-cells first step 0 size end some most

-- the cell at a position, and at a later one
pub step-some : (axis : Axis) (height : ℕ) → 0 < height → 0 < step_along axis height
step-some Down height some = omega arith
step-some Right height some = some

pub cell-later : (axis : Axis) (height line position steps : ℕ) →
    cell_on axis height line (position + steps) ≡ cell_on axis height line position + steps * step_along axis height
cell-later Down height line position steps = let one : steps * 1 ≡ steps = omega arith in omega (arith, one)
cell-later Right height line position steps =
    let split : (position + steps) * height ≡ position * height + steps * height = add-mul position steps height in
    omega (arith, split)

pub cell-behind : (axis : Axis) (height line from position : ℕ) → from ≤ position →
    cell_on axis height line from ≤ cell_on axis height line position
cell-behind axis height line from position far =
    let steps : ℕ = position - from in
    let is : from + steps ≡ position = omega (arith, far) in
    let later : cell_on axis height line position ≡ cell_on axis height line from + steps * step_along axis height =
    ap (cell_on axis height line) (sym is) ∙ cell-later axis height line from steps in
    omega (arith, later)

-- the cells of a part lie before its end
pub part-below : (axis : Axis) (height line position size : ℕ) → 0 < height →
    AreBelow (cell_on axis height line (position + size)) (line_cells axis height line position size)
part-below axis height line position size some =
    cells-below (cell_on axis height line position) (step_along axis height) size
    (cell_on axis height line (position + size)) (step-some axis height some)
    (let e = cell-later axis height line position size in omega (arith, e))

-- parts at or behind a position fit as before, where cells before it alone were rewritten
pub part-agree : (g h : Grid) (table : Option (List ℕ)) (axis : Axis) (line : ℕ) (part : List CompiledCell)
    (from position : ℕ) → h.height ≡ g.height → AgreeFrom (cell_on axis g.height line from) g h → from ≤ position →
    part_fits h table axis line part position ≡ part_fits g table axis line part position
part-agree g h table axis line part from position high same far =
    ap (λ (height : ℕ). fits_along h (part_meaning table part) (line_cells axis height line position (length part)))
    high
    ∙ fits-agree g h (part_meaning table part) (line_cells axis g.height line position (length part))
    (cell_on axis g.height line from) same
    (cells-from (cell_on axis g.height line position) (step_along axis g.height) (length part)
    (cell_on axis g.height line from) (cell-behind axis g.height line from position far))

pub way-agree : (g h : Grid) (table : Option (List ℕ)) (axis : Axis) (line : ℕ) (parts : List (List CompiledCell))
    (way : List ℕ) (from : ℕ) → h.height ≡ g.height → AgreeFrom (cell_on axis g.height line from) g h →
    IsSpaced (part_sizes parts) from way →
    way_fits h table axis line parts way ≡ way_fits g table axis line parts way
way-agree g h table axis line [] [] from high same spaced = refl
way-agree g h table axis line [] (p ∷ way) from high same spaced = refl
way-agree g h table axis line (part ∷ parts) [] from high same spaced = refl
way-agree g h table axis line (part ∷ parts) (p ∷ way) from high same spaced =
    let far : from ≤ p + length part = let here : from ≤ p = spaced.0 in omega (arith, here) in
    let later : cell_on axis g.height line from ≤ cell_on axis g.height line (p + length part) =
    cell-behind axis g.height line from (p + length part) far in
    ap₂ (λ (a b : Bool). a && b) (part-agree g h table axis line part from p high same spaced.0)
    (way-agree g h table axis line parts way (p + length part) high (λ n low.
    same n (omega (arith, later, low))) spaced.1)

-- what is left of a part and of a way ---------------------------------------------------------------------------------

-- behind a cell that is rewritten, what is left fits as before
pub left-fits : (r : Rewritten) (m : CellMeaning) (table : Option (List ℕ)) (part : List CompiledCell)
    (step index number : ℕ) (found : Option (List Slot)) → 0 < step →
    fits_from (rewritten_cell r m number found).grid table part step index (number + step)
    ≡ fits_from r.grid table part step index (number + step)
left-fits r m table part step index number found some =
    fits-agree r.grid (rewritten_cell r m number found).grid (part_meaning table (drop index part))
    (cells_from step (number + step) (length part - index)) (number + step)
    (agree-cell r m number (number + step) found (omega (arith, some)))
    (cells-from (number + step) step (length part - index) (number + step) (omega arith))

-- the next part of a way fits
pub part-here : (g : Grid) (table : Option (List ℕ)) (axis : Axis) (line : ℕ) (parts : List (List CompiledCell))
    (way : List ℕ) (i : ℕ) (part : List CompiledCell) (d : ℕ) → i < length parts → i < length way →
    part ≡ get_or parts i part → way_fits g table axis line (drop i parts) (drop i way) ≡ true →
    (part_fits g table axis line part (get_or way i d) ≡ true)
    × (way_fits g table axis line (drop (i + 1) parts) (drop (i + 1) way) ≡ true)
part-here g table axis line parts way i part d low short e fit =
    let here : Bool = part_fits g table axis line part (get_or way i d) in
    let rest : Bool = way_fits g table axis line (drop (i + 1) parts) (drop (i + 1) way) in
    and_parts here rest (sym (way-fits-next g table axis line parts way i part d here low short e refl) ∙ fit)

-- and the parts behind it begin at its end or behind it
pub rest-spaced : (parts : List (List CompiledCell)) (way : List ℕ) (i : ℕ) (part : List CompiledCell) (d from : ℕ) →
    i < length parts → i < length way → part ≡ get_or parts i part →
    IsSpaced (part_sizes (drop i parts)) from (drop i way) →
    IsSpaced (part_sizes (drop (i + 1) parts)) (get_or way i d + length part) (drop (i + 1) way)
rest-spaced parts way i part d from low short e spaced =
    let first : drop i parts ≡ part ∷ drop (i + 1) parts = drop_more parts i part low
    ∙ ap (λ (p : List CompiledCell). p ∷ drop (i + 1) parts) (sym e) in
    let at : drop i way ≡ get_or way i d ∷ drop (i + 1) way = drop_more way i d short in
    let split : IsSpaced (part_sizes (part ∷ drop (i + 1) parts)) from (get_or way i d ∷ drop (i + 1) way) =
    rw (first, at) at spaced in
    split.1

-- behind a part that is rewritten, the parts that are left fit as before
pub rest-fits : (before after : Rewritten) (table : Option (List ℕ)) (axis : Axis) (line : ℕ)
    (part : List CompiledCell) (parts : List (List CompiledCell)) (position : ℕ) (way : List ℕ) →
    0 < (before.grid).height → (after.grid).height ≡ (before.grid).height →
    after ≡ rewritten_along before (part_meaning table part)
    (line_cells axis (before.grid).height line position (length part)) →
    IsSpaced (part_sizes parts) (position + length part) way →
    way_fits before.grid table axis line parts way ≡ true → way_fits after.grid table axis line parts way ≡ true
rest-fits before after table axis line part parts position way some high wrote spaced fit =
    let end : ℕ = cell_on axis (before.grid).height line (position + length part) in
    let cells : List ℕ = line_cells axis (before.grid).height line position (length part) in
    let same : AgreeFrom end before.grid after.grid = λ n far.
    ap (λ (r : Rewritten). slice_get (r.grid).cells n) wrote
    ∙ agree-along before (part_meaning table part) cells end
    (part-below axis (before.grid).height line position (length part) some) n far in
    way-agree before.grid after.grid table axis line parts way (position + length part) high same spaced ∙ fit
