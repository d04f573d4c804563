-- The places of a part from a cell on: one, where it begins there, or else none.
use Rattle.std.proofs.Common.{◌≡◌, ◌∙◌, ℕ, zero, suc, ◌+◌, ◌-◌, ◌*◌, ◌/◌, ◌%◌, ◌<◌, ◌≤◌, ◌&&◌, inl, inr, cond, Bool}
use Rattle.std.proofs.Common.{true, false, Option}
use Rattle.std.proofs.Common.{List, [], ◌∷◌, ◌++◌, length, map, filter, take, refl, sym, ap, ap₂, arith}
use Rattle.std.specs.Prelude.{nat_le}
use Rattle.std.specs.List.{range_with_len}
use Rattle.std.proofs.lemmas.Bool.{cases_lt, lt-ltb}
use Rattle.std.proofs.lemmas.Bool.Decides.{nat_tests}
use Rattle.std.proofs.lemmas.List.{length-map}
use Rattle.std.proofs.lemmas.List.FromFn.{length-map-range_with_len}
use Rattle.std.proofs.lemmas.Nat.{div-add-mod', div_below, mod_below}
use Rattle.std.proofs.lemmas.Option.{slice_get_past}
use Rattle.std.proofs.Math.Bool.{and-false}
use Rattle.ps_model.specs.declared.pieces.Slot.{Slot}
use Rattle.ps_model.specs.board.Grid.{Grid, IsGrid}
use Rattle.ps_model.specs.board.Places.{cells_in, fits_along, fits_there, stretches, ways_along}
use Rattle.ps_model.specs.meaning.RuleMeanings.{CellMeaning}
use Rattle.ps_program.specs.declared.cells.CompiledCell.{CompiledCell}
use Rattle.ps_program.specs.declared.rows.Axis.{Axis}
use Rattle.ps_program.specs.declared.rows.Axis.TheVariants.{Down, Right}
use Rattle.ps_program.specs.Axes.{direction_of}
use Rattle.ps_places.specs.Lines.{cell_meaning, cells_from, part_fits, part_meaning, step_along}
use Rattle.ps_places.specs.PartStarts.{begins_at}
use Rattle.ps_places.proofs.CellsInTurn.{cells_from-next}
use Rattle.ps_places.proofs.FoundAcross.{fits_with_room}
use Rattle.ps_places.proofs.PlacesWritten.{nothing_behind, places_from}
use Rattle.ps_places.proofs.Ranges.{map-range-agree}

-- how many cells there are from one on to the end of its line
abbrev pub long_from : Axis → Grid → ℕ → ℕ
long_from Down g n = g.height - n % g.height
long_from Right g n = g.width - n / g.height

-- there is room for the part from a cell on, and it fits
abbrev pub begins_from : Axis → Grid → List CellMeaning → ℕ → Bool
begins_from axis g all n = nat_le (length all) (long_from axis g n) && fits_along g all
    (cells_from (step_along axis g.height) n (length all))

-- one part on a line --------------------------------------------------------------------------------------------------

one_way : (size : ℕ) (line : List ℕ) (test : Bool) → nat_le size (length line) ≡ test → ways_along (size ∷ []) line
    ≡ cond test ((take size line ++ []) ∷ []) []
one_way size line true e = rw (e, ways_along) refl
one_way size line false e = rw (e, ways_along) refl

first_cells : (f : ℕ → ℕ) (a size long : ℕ) → size ≤ long → take size (map f (range_with_len a long))
    ≡ map f (range_with_len a size)
first_cells f a zero long fits = refl
first_cells f a (suc size) zero fits = absurd (omega arith)
first_cells f a (suc size) (suc long) fits = ap (λ (ns : List ℕ). f a ∷ ns)
    (first_cells f (a + 1) size long (omega arith))

on_line : (f : ℕ → ℕ) (size long : ℕ) (test : Bool) → nat_le size long ≡ test →
    ways_along (size ∷ []) (map f (range_with_len 0 long)) ≡ cond test (map f (range_with_len 0 size) ∷ []) []
on_line f size long test e =
    one_way size (map f (range_with_len 0 long)) test (ap (nat_le size) (length-map-range_with_len f 0 long) ∙ e)
    ∙ by test e where
      by : (b : Bool) → nat_le size long ≡ b →
          cond b ((take size (map f (range_with_len 0 long)) ++ []) ∷ []) []
          ≡ cond b (map f (range_with_len 0 size) ∷ []) []
      by true room =
          let fits : size ≤ long = grind (arith, nat_tests) in
          ap (λ (place : List ℕ). place ∷ []) (nothing_behind (take size (map f (range_with_len 0 long)))
          ∙ first_cells f 0 size long fits)
      by false room = refl

stretch_is : (g : Grid) (axis : Axis) (size n : ℕ) → stretches g (direction_of axis) (size ∷ []) n
    ≡ cond (nat_le size (long_from axis g n)) (cells_from (step_along axis g.height) n size ∷ []) []
stretch_is g Down size n =
    on_line (λ steps. n + steps) size (g.height - n % g.height) (nat_le size (g.height - n % g.height)) refl
    ∙ ap (λ (place : List ℕ). cond (nat_le size (g.height - n % g.height)) (place ∷ []) [])
    (map-range-agree (λ steps. n + steps) (λ k. n + k * 1) 0 size (λ k low high. omega arith))
stretch_is g Right size n = on_line (λ steps. n + steps * g.height) size (g.width - n / g.height)
    (nat_le size (g.width - n / g.height)) refl

kept_by : (test : List ℕ → Bool) (place : List ℕ) (room fits : Bool) → test place ≡ fits →
    filter test (cond room (place ∷ []) []) ≡ cond (room && fits) (place ∷ []) []
kept_by test place true true e = rw e refl
kept_by test place true false e = rw e refl
kept_by test place false fits e = refl

pub from_is : (g : Grid) (axis : Axis) (all : List CellMeaning) (n : ℕ) →
    places_from g (direction_of axis) all n ≡ cond (begins_from axis g all n)
    (cells_from (step_along axis g.height) n (length all) ∷ []) []
from_is g axis all n =
    let place : List ℕ = cells_from (step_along axis g.height) n (length all) in
    ap (filter (fits_along g (cells_in (all ∷ [])))) (stretch_is g axis (length all) n)
    ∙ kept_by (fits_along g (cells_in (all ∷ []))) place (nat_le (length all) (long_from axis g n))
    (fits_along g all place)
    (ap (λ (ms : List CellMeaning). fits_along g ms place) (nothing_behind all))

-- no part begins beyond the board
beyond_by : (g : Grid) (all : List CellMeaning) (step n : ℕ) → 0 < length all → length g.cells ≤ n →
    fits_along g all (cells_from step n (length all)) ≡ false
beyond_by g [] step n some high = absurd (omega arith)
beyond_by g (m ∷ ms) step n some high =
    ap (fits_along g (m ∷ ms)) (cells_from-next step n (suc (length ms)) (length ms) refl)
    ∙ ap (λ (found : Option (List Slot)). elim (fits_there m found) as
    (λ b. Bool) [ true ↦ fits_along g ms (cells_from step (n + step) (length ms)) | false ↦ false ])
    (slice_get_past g.cells n high)

pub begins_beyond : (g : Grid) (axis : Axis) (all : List CellMeaning) (n : ℕ) → 0 < length all → length g.cells ≤ n →
    begins_from axis g all n ≡ false
begins_beyond g axis all n some high =
    ap (λ (b : Bool). nat_le (length all) (long_from axis g n) && b)
    (beyond_by g all (step_along axis g.height) n some high)
    ∙ and-false (nat_le (length all) (long_from axis g n))

-- where the part begins by its row and its column ---------------------------------------------------------------------

room_down : (a b c : ℕ) → a < c → nat_le (a + b) c ≡ nat_le b (c - a)
room_down a b c low = elim (cases_lt (c - a) b) [
  | inl short ↦
      let first : nat_le (a + b) c ≡ false = grind (arith, nat_tests, low, short) in
      let second : nat_le b (c - a) ≡ false = grind (arith, nat_tests, short) in
      first ∙ sym second
  | inr long ↦
      let within : a + b ≤ c = omega (arith, low, long) in
      let first : nat_le (a + b) c ≡ true = grind (arith, nat_tests, within) in
      let second : nat_le b (c - a) ≡ true = grind (arith, nat_tests, long) in
      first ∙ sym second
]

pub begins_there : (g : Grid) (table : Option (List ℕ)) (axis : Axis) (part : List CompiledCell) (n : ℕ) → IsGrid g →
    0 < length part →
    n < length g.cells → begins_at g table axis part (n % g.height) (n / g.height) ≡ begins_from axis g
    (part_meaning table part) n
begins_there g table Down part n grid some low =
    let row : ℕ = n % g.height in
    let x : ℕ = n / g.height in
    let under : row < g.height = mod_below n g.height grid.some_row in
    let across : x < g.width = div_below n g.height g.width grid.some_row (rw (← grid.cells) low) in
    let place : x * g.height + row ≡ n = div-add-mod' n g.height in
    let size : length (part_meaning table part) ≡ length part = length-map part (cell_meaning table) in
    ap (λ (b : Bool). b && (nat_le (row + length part) g.height && part_fits g table Down x part row))
    (lt-ltb x g.width across)
    ∙ ap₂ (λ (b c : Bool). b && c) (room_down row (length part) g.height under
    ∙ ap (λ (k : ℕ). nat_le k (g.height - row)) (sym size))
    (ap₂ (λ (first count : ℕ). fits_along g (part_meaning table part) (cells_from 1 first count)) place (sym size))
begins_there g table Right part n grid some low =
    let row : ℕ = n % g.height in
    let x : ℕ = n / g.height in
    let under : row < g.height = mod_below n g.height grid.some_row in
    let across : x < g.width = div_below n g.height g.width grid.some_row (rw (← grid.cells) low) in
    let place : x * g.height + row ≡ n = div-add-mod' n g.height in
    let size : length (part_meaning table part) ≡ length part = length-map part (cell_meaning table) in
    fits_with_room g table part row x grid under some
    ∙ ap₂ (λ (b c : Bool). b && c) (room_down x (length part) g.width across ∙ ap (λ (k : ℕ). nat_le k (g.width - x))
    (sym size))
    (ap₂ (λ (first count : ℕ). fits_along g (part_meaning table part) (cells_from g.height first count)) place
    (sym size))
