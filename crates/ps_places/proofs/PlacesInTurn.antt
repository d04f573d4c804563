-- The places of a part that leave each other alone, one after the other: each still fits when its turn comes.
use Rattle.std.proofs.Common.{◌≡◌, ◌≢◌, ◌∙◌, ℕ, zero, suc, ◌+◌, ◌-◌, ◌*◌, ◌<◌, ◌≤◌, ◌||◌, ◌&&◌, inl, inr, Bool, true}
use Rattle.std.proofs.Common.{false}
use Rattle.std.proofs.Common.{Option, Some, None, List, [], ◌∷◌, length, refl, sym, ap, arith}
use Rattle.std.specs.Prelude.{nat_eq, nat_lt, slice_get}
use Rattle.std.proofs.Math.Bool.{and-false}
use Rattle.std.proofs.lemmas.Bool.{and_parts, cases_Bool, cases_eq, eq-eqb, eqb-true, le-ltb, ne_eqb}
use Rattle.std.proofs.lemmas.Option.{slice_get-get_or, slice_get_within}
use Rattle.ps_model.specs.declared.pieces.Slot.{Slot}
use Rattle.ps_model.specs.board.Grid.{Grid, cell_at}
use Rattle.ps_model.specs.board.Attempts.{Rewritten, rewritten_along, rewritten_cell}
use Rattle.ps_model.specs.board.Places.{fits_along, fits_there}
use Rattle.ps_model.specs.meaning.RuleMeanings.{CellMeaning}
use Rattle.ps_laws.proofs.common.Truths.{both-hold}
use Rattle.ps_places.specs.Lines.{cells_from}
use Rattle.ps_places.proofs.CellsInTurn.{cells_from-next}
use Rattle.ps_places.proofs.WrittenAs.{as-one, cell_at-as, length-as, written_as}
use Rattle.ps_places.proofs.WrittenToItself.{kept_cell}
use Rattle.ps_places.proofs.InGroups.{AreAlone, AreIdle, by-cases, cell_now, covers, covers-on, covers-parts, during}
use Rattle.ps_places.proofs.InGroups.{grouped, idle_step, keeps_pair, next_cells, next_step}

-- cells along a place -------------------------------------------------------------------------------------------------

-- each fits where all do
cells_next : (g : Grid) (m : CellMeaning) (ms : List CellMeaning) (step first : ℕ) →
    fits_along g (m ∷ ms) (cells_from step first (suc (length ms)))
    ≡ (elim (fits_there m (slice_get g.cells first)) [
      | true ↦ fits_along g ms
          (cells_from step (first + step) (length ms))
      | false ↦ false
    ])
cells_next g m ms step first = ap (fits_along g (m ∷ ms)) (cells_from-next step first (suc (length ms))
    (length ms) refl)

pub fits_each : (g : Grid) (ms : List CellMeaning) (step first : ℕ) →
    fits_along g ms (cells_from step first (length ms)) ≡ true →
    (k : ℕ) (m : CellMeaning) → slice_get ms k ≡ Some m → fits_there m (slice_get g.cells (first + k * step)) ≡ true
fits_each g [] step first fits k m is = absurd (cc)
fits_each g (one ∷ ms) step first fits zero m is =
    let both = both-hold (fits_there one (slice_get g.cells first))
    (fits_along g ms (cells_from step (first + step) (length ms))) (sym (cells_next g one ms step first) ∙ fits) in
    let same : one ≡ m = cc in
    let at : first + 0 * step ≡ first = omega arith in
    rw (at, ← same) both.0
fits_each g (one ∷ ms) step first fits (suc k) m is =
    let both = both-hold (fits_there one (slice_get g.cells first))
    (fits_along g ms (cells_from step (first + step) (length ms))) (sym (cells_next g one ms step first) ∙ fits) in
    let at : first + suc k * step ≡ first + step + k * step = omega arith in
    rw at (fits_each g ms step (first + step) both.1 k m is)

-- and all where each does
pub fits_all : (g : Grid) (ms : List CellMeaning) (step first : ℕ) →
    ((k : ℕ) (m : CellMeaning) → slice_get ms k ≡ Some m → fits_there m (slice_get g.cells (first + k * step)) ≡ true) →
    fits_along g ms (cells_from step first (length ms)) ≡ true
fits_all g [] step first each = refl
fits_all g (one ∷ ms) step first each =
    let at : first + 0 * step ≡ first = omega arith in
    let here : fits_there one (slice_get g.cells first) ≡ true = ap (λ (n : ℕ). fits_there one (slice_get g.cells n))
    (sym at) ∙ each 0 one refl in
    cells_next g one ms step first
    ∙ rw here (fits_all g ms step (first + step) (λ k m is. let next : first + suc k * step ≡ first + step + k * step =
    omega arith in
    ap (λ (n : ℕ). fits_there m (slice_get g.cells n)) (sym next) ∙ each (suc k) m is))

-- one place -----------------------------------------------------------------------------------------------------------

module _ (g : Grid) (starts : ℕ → Bool) (step : ℕ) (all : List CellMeaning) (changes : ℕ → Bool)
    (alone : AreAlone starts step all changes)
    (idle : AreIdle all changes) (done : ℕ → Bool) (e : ℕ) (on : starts e ≡ true) (left : done e ≡ false)
    (fits : fits_along g all (cells_from step e (length all)) ≡ true) where
  abbrev this : ℕ → Bool
  this n = nat_eq n e

  fresh : (n : ℕ) → this n ≡ true → done n ≡ false
  fresh n same = let is : n ≡ e = eqb-true n e same in ap done is ∙ left

  inside : (k : ℕ) (m : CellMeaning) → slice_get all k ≡ Some m → e + k * step < length g.cells
  inside k m is = by (slice_get g.cells (e + k * step)) refl (fits_each g all step e fits k m is) where
    by : (cell : Option (List Slot)) → slice_get g.cells (e + k * step) ≡ cell → fits_there m cell ≡ true →
        e + k * step < length g.cells
    by None there good = absurd (cc)
    by (Some cell) there good = slice_get_within g.cells (e + k * step) cell there

  fits_first : (k : ℕ) (m : CellMeaning) → slice_get all k ≡ Some m → m.fits (cell_at g (e + k * step)) ≡ true
  fits_first k m is =
      ap (fits_there m) (sym (slice_get-get_or g.cells (e + k * step) [] (inside k m is)))
      ∙ fits_each g all step e fits k m is

  -- a cell of it that has not had its turn yet fits
  fits_now : (i k : ℕ) (m : CellMeaning) → i ≤ k → slice_get all k ≡ Some m →
      m.fits (cell_now g starts step all changes alone done this i (e + k * step)) ≡ true
  fits_now i k m due is =
      let n : ℕ = e + k * step in
      let low : k < length all = slice_get_within all k m is in
      by-cases (grouped g starts step all changes alone done this i) 0 all n (cell_at g n) (λ cell. m.fits cell ≡ true)
      (fits_first k m is)
      (λ j writing writes there.
      let none : 0 + j ≡ j = omega arith in
      let here : grouped g starts step all changes alone done this i j n ≡ true =
      ap (λ (x : ℕ). grouped g starts step all changes alone done this i x n) (sym none) ∙ there in
      let parts = and_parts (changes j && covers starts step j n)
      (done (n - j * step) || (nat_lt j i && this (n - j * step))) here in
      let both = and_parts (changes j) (covers starts step j n) parts.0 in
      elim (cases_eq j k) [
        | inl same ↦
            let back : e + k * step - k * step ≡ e = omega arith in
            let late : nat_lt k i ≡ false = le-ltb k i due in
            let no : (done (n - k * step) || (nat_lt k i && this (n - k * step))) ≡ false =
            rw (back, left, late) refl in
            let clash : true ≡ false = sym parts.1
            ∙ ap (λ (x : ℕ). done (n - x * step) || (nat_lt x i && this (n - x * step))) same ∙ no in
            absurd (cc)
        | inr other ↦
            keeps_pair g starts step all changes alone j k n (slice_get_within all j writing writes) low both.1
            (covers-on starts step k e on) other both.0
            writing m writes is (cell_at g n) (fits_first k m is)
      ])

  read_now : (i k : ℕ) (m : CellMeaning) → slice_get all k ≡ Some m →
      slice_get (during g starts step all changes alone done this i).grid.cells (e + k * step)
      ≡ Some (cell_now g starts step all changes alone done this i (e + k * step))
  read_now i k m is =
      let becomes : ℕ → List Slot = cell_now g starts step all changes alone done this i in
      let n : ℕ = e + k * step in
      let low : n < length g.cells = inside k m is in
      let there : n < length (written_as g becomes).grid.cells = rw (length-as g becomes) low in
      slice_get-get_or (written_as g becomes).grid.cells n [] there ∙ ap Some (cell_at-as g becomes n low)

  -- so it fits when its turn comes
  pub still_fits : fits_along (during g starts step all changes alone done this 0).grid all
      (cells_from step e (length all)) ≡ true
  still_fits =
      fits_all (during g starts step all changes alone done this 0).grid all step e
      (λ k m is. ap (fits_there m) (read_now 0 k m is) ∙ fits_now 0 k m (omega arith) is)

  -- one cell of it rewritten
  this_cell : (i n : ℕ) → changes i ≡ true → nat_eq n (e + i * step) ≡ next_cells g starts step all changes alone this i
      n
  this_cell i n does = elim (cases_eq n (e + i * step)) [
    | inl same ↦
        let back : e + i * step - i * step ≡ e = omega arith in
        rw (same, eq-eqb (e + i * step) (e + i * step) refl, does, covers-on starts step i e on, back, eq-eqb e e refl)
        refl
    | inr other ↦ ne_eqb n (e + i * step) other ∙ sym (elim (cases_Bool (covers starts step i n)) [
      | inl here ↦
          let parts = covers-parts starts step i n here in
          let apart : n - i * step ≢ e = λ same. absurd (omega (arith, same, parts.0, other)) in
          rw (ne_eqb (n - i * step) e apart) (and-false (changes i && covers starts step i n))
      | inr off ↦ rw (off, and-false) refl
    ])
  ]

  one_cell : (i : ℕ) (m : CellMeaning) → slice_get all i ≡ Some m →
      rewritten_cell (during g starts step all changes alone done this i) m (e + i * step)
      (slice_get (during g starts step all changes alone done this i).grid.cells (e + i * step))
      ≡ during g starts step all changes alone done this (i + 1)
  one_cell i m is = elim (cases_Bool (changes i)) [
    | inl does ↦
        as-one g (cell_now g starts step all changes alone done this i)
        (cell_now g starts step all changes alone done this (i + 1)) m (e + i * step) (inside i m is)
        (λ n low. next_step g starts step all changes alone done this fresh i m (slice_get_within all i m is) is
        (λ k. nat_eq k (e + i * step)) n (this_cell i n does))
    | inr not_does ↦
        let least : i ≤ i = omega arith in
        kept_cell (during g starts step all changes alone done this i) m (e + i * step)
        (slice_get (during g starts step all changes alone done this i).grid.cells (e + i * step)) refl
        (λ slots there.
        let same : cell_now g starts step all changes alone done this i (e + i * step) ≡ slots =
        cc (read_now i i m is, there) in
        idle i m is not_does slots (ap m.fits (sym same) ∙ fits_now i i m least is))
        ∙ idle_step g starts step all changes alone done this i not_does
  ]

  -- and all of them
  cells_written : (i : ℕ) (ms : List CellMeaning) → ((j : ℕ) (m : CellMeaning) → slice_get ms j ≡ Some m →
      slice_get all (i + j) ≡ Some m) →
      rewritten_along (during g starts step all changes alone done this i) ms
      (cells_from step (e + i * step) (length ms))
      ≡ during g starts step all changes alone done this (i + length ms)
  cells_written i [] same = let end : i + 0 ≡ i = omega arith in rw end refl
  cells_written i (m ∷ ms) same =
      let at : i + 0 ≡ i = omega arith in
      let is : slice_get all i ≡ Some m = ap (slice_get all) (sym at) ∙ same 0 m refl in
      let next : e + i * step + step ≡ e + (i + 1) * step = omega arith in
      let end : i + 1 + length ms ≡ i + suc (length ms) = omega arith in
      ap (rewritten_along (during g starts step all changes alone done this i) (m ∷ ms))
      (cells_from-next step (e + i * step) (suc (length ms)) (length ms) refl)
      ∙ ap (λ (r : Rewritten). rewritten_along r ms (cells_from step (e + i * step + step) (length ms)))
      (one_cell i m is)
      ∙ ap (λ (first : ℕ). rewritten_along (during g starts step all changes alone done this (i + 1)) ms
      (cells_from step first (length ms))) next
      ∙ cells_written (i + 1) ms (λ j other there. let on_from : i + 1 + j ≡ i + suc j = omega arith in
      ap (slice_get all) on_from ∙ same (suc j) other there)
      ∙ ap (during g starts step all changes alone done this) end

  pub place_written : rewritten_along (during g starts step all changes alone done this 0) all
      (cells_from step e (length all))
      ≡ during g starts step all changes alone done this (length all)
  place_written =
      let start : e + 0 * step ≡ e = omega arith in
      let none : 0 + length all ≡ length all = omega arith in
      ap (λ (first : ℕ). rewritten_along (during g starts step all changes alone done this 0) all
      (cells_from step first (length all))) (sym start)
      ∙ cells_written 0 all (λ j m is. let at : 0 + j ≡ j = omega arith in ap (slice_get all) at ∙ is)
      ∙ ap (during g starts step all changes alone done this) none
