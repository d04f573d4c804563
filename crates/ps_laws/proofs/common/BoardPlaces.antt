-- The places of a row lie on the board, and have a cell for each cell of the row.
use Rattle.std.proofs.Common.{◌≡◌, ℕ, suc, ◌<◌, Bool, true, false, cond, Option, Some, None, List, [], ◌∷◌, length}
use Rattle.std.proofs.Common.{refl, ap, arith, filter}
use Rattle.std.specs.Prelude.{All, slice_get}
use Rattle.std.proofs.lemmas.Option.{slice_get_within}
use Rattle.std.proofs.lemmas.List.Elements.{All-nil, All-cons, All-weaker}
use Rattle.ps_model.specs.declared.pieces.Slot.{Slot}
use Rattle.ps_model.specs.declared.pieces.Direction.{Direction}
use Rattle.ps_model.specs.board.Grid.{Grid, cell_count}
use Rattle.ps_model.specs.board.Places.{fits_there, fits_along, cells_in, stretches, search_order, places}
use Rattle.ps_model.specs.meaning.RuleMeanings.{CellMeaning}
use Rattle.ps_laws.specs.Sliding.{PlacesLieOnBoards, PlacesAreWhole}
use Rattle.ps_laws.proofs.common.Everywhere.{All-each}
use Rattle.ps_laws.proofs.common.Truths.{both-hold}

-- cells that fit are cells of the board, and as many as the row's
pub record AreFit (g : Grid) (meanings : List CellMeaning) (cells : List ℕ) : Type 0 where
  pub within : All (λ cell. cell < length g.cells) cells
  pub whole : length cells ≡ length meanings

is_within : (g : Grid) (meaning : CellMeaning) (cell : ℕ) (found : Option (List Slot)) →
    slice_get g.cells cell ≡ found → fits_there meaning found ≡ true → cell < length g.cells
is_within g meaning cell None e fits = absurd (cc fits)
is_within g meaning cell (Some slots) e fits = slice_get_within g.cells cell slots e

pub fits-within : (g : Grid) (meanings : List CellMeaning) (cells : List ℕ) → fits_along g meanings cells ≡ true →
    AreFit g meanings cells
fits-within g [] [] e = record { within = All-nil (λ cell. cell < length g.cells); whole = refl }
fits-within g [] (cell ∷ cells) e = absurd (cc e)
fits-within g (meaning ∷ meanings) [] e = absurd (cc e)
fits-within g (meaning ∷ meanings) (cell ∷ cells) e =
    let both = both-hold (fits_there meaning (slice_get g.cells cell)) (fits_along g meanings cells) e in
    let rest = fits-within g meanings cells both.1 in
    record {
      within = All-cons (λ cell. cell < length g.cells) cell cells
          (is_within g meaning cell (slice_get g.cells cell) refl both.0) rest.within;
      whole = ap suc rest.whole;
    }

-- what passes a test has what the test tells
kept_by_test : {X : Type 0} (P : X → Type 0) (test : X → Bool) (xs : List X) → ((x : X) → test x ≡ true → P x) →
    All P (filter test xs)
kept_by_test P test [] told = All-nil P
kept_by_test P test (x ∷ xs) told = kept (test x) refl (kept_by_test P test xs told) where
  kept : (passes : Bool) → test x ≡ passes → All P (filter test xs) →
      All P (cond passes (x ∷ filter test xs) (filter test xs))
  kept true e rest = All-cons P x (filter test xs) (told x e) rest
  kept false e rest = rest

pub places-fit : (g : Grid) (direction : Direction) (row : List (List CellMeaning)) →
    All (AreFit g (cells_in row)) (places g direction row)
places-fit g direction row =
    All-each (AreFit g (cells_in row)) (λ end.
    filter (fits_along g (cells_in row)) (stretches g direction _ end)) (search_order g direction)
    (λ end. kept_by_test (AreFit g (cells_in row)) (fits_along g (cells_in row)) (stretches g direction _ end)
    (fits-within g (cells_in row)))

pub places_lie : PlacesLieOnBoards
places_lie g direction row shape =
    All-weaker (AreFit g (cells_in row)) (All (λ cell. cell < cell_count g))
    (λ place fit. All-weaker (λ cell. cell < length g.cells) (λ cell. cell < cell_count g) (λ cell h.
    omega (arith, h, shape.cells)) place fit.within)
    (places g direction row) (places-fit g direction row)

pub places_whole : PlacesAreWhole
places_whole g direction row =
    All-weaker (AreFit g (cells_in row)) (λ place. length place ≡ length (cells_in row)) (λ place fit.
    fit.whole) (places g direction row) (places-fit g direction row)
