-- Rows whose cells agree have the same places, and rules that are alike the same combinations.
use Rattle.std.proofs.Common.{◌≡◌, ℕ, Bool, true, false, Option, Some, None, List, [], ◌∷◌, map, filter, flat_map}
use Rattle.std.proofs.Common.{IfSome, slice_get, refl, ◌∙◌, ap, ap₂}
use Rattle.std.specs.List.{AllZip}
use mathlib.Core.Path.{fun_ext}
use Rattle.ps_model.specs.declared.pieces.Direction.{Direction}
use Rattle.ps_model.specs.declared.pieces.Slot.{Slot}
use Rattle.ps_model.specs.board.Grid.{Grid}
use Rattle.ps_model.specs.names.Names.{Names}
use Rattle.ps_model.specs.board.GameGrids.{IsCellOf, IsGridOf}
use Rattle.ps_model.specs.meaning.RuleMeanings.{CellMeaning, RuleMeaning}
use Rattle.ps_model.specs.board.Places.{stretches, search_order, fits_there, fits_along, cells_in, places}
use Rattle.ps_model.specs.board.Attempts.{combinations, all_fit, combinations_on}
use Rattle.ps_laws.specs.EqualMeanings.{AgreeOn, SameRule}
use Rattle.ps_laws.proofs.grids.GameCells.{IsCellOf-read}
use Rattle.ps_laws.proofs.common.Zipped.{AllZip-joined, AllZip-lengths, AllZip-mapped}

fits_there-same : (names : Names) (written : Bool) (a b : CellMeaning) → AgreeOn names written a b →
    (cell : Option (List Slot)) → IfSome cell (IsCellOf names) → fits_there a cell ≡ fits_there b cell
fits_there-same names written a b h None fine = refl
fits_there-same names written a b h (Some cell) fine = h.fits cell fine

-- a list of cells fits both or neither
pub fits_along-same : (names : Names) (written : Bool) (g : Grid) → IsGridOf names g → (xs ys : List CellMeaning) →
    AllZip (AgreeOn names written) xs ys → (cells : List ℕ) → fits_along g xs cells ≡ fits_along g ys cells
fits_along-same names written g shape [] [] h [] = refl
fits_along-same names written g shape [] [] h (cell ∷ cells) = refl
fits_along-same names written g shape [] (y ∷ ys) h cells = absurd h
fits_along-same names written g shape (x ∷ xs) [] h cells = absurd h
fits_along-same names written g shape (x ∷ xs) (y ∷ ys) h [] = refl
fits_along-same names written g shape (x ∷ xs) (y ∷ ys) h (cell ∷ cells) =
    ap₂ (λ (here more : Bool). elim here [ true ↦ more | false ↦ false ])
    (fits_there-same names written x y h.0 (slice_get g.cells cell) (IsCellOf-read names g shape cell))
    (fits_along-same names written g shape xs ys h.1 cells)

-- the places of a row
pub places-same : (names : Names) (written : Bool) (g : Grid) → IsGridOf names g →
    (direction : Direction) (xs ys : List (List CellMeaning)) → AllZip (AllZip (AgreeOn names written)) xs ys →
    places g direction xs ≡ places g direction ys
places-same names written g shape direction xs ys h =
    ap₂ (λ (fits : List ℕ → Bool) (sizes : List ℕ).
    flat_map (λ end. filter fits (stretches g direction sizes end)) (search_order g direction))
    (fun_ext (fits_along-same names written g shape (cells_in xs) (cells_in ys)
    (AllZip-joined (AgreeOn names written) xs ys h)))
    (AllZip-lengths (AgreeOn names written) xs ys h)

-- the combinations of a rule
pub combinations_on-same : (names : Names) (g : Grid) → IsGridOf names g → (a b : RuleMeaning) → SameRule names a b →
    combinations_on g a ≡ combinations_on g b
combinations_on-same names g shape a b h =
    ap combinations
    (AllZip-mapped (AllZip (AllZip (AgreeOn names a.rewrites))) (places g a.direction) (places g a.direction)
    (places-same names a.rewrites g shape a.direction) a.rows b.rows h.rows
    ∙ ap (λ (direction : Direction). map (places g direction) b.rows) h.direction)

-- all rows fit or not
pub all_fit-same : (names : Names) (written : Bool) (g : Grid) → IsGridOf names g →
    (xs ys : List (List (List CellMeaning))) → AllZip (AllZip (AllZip (AgreeOn names written))) xs ys →
    (ps : List (List ℕ)) → all_fit g xs ps ≡ all_fit g ys ps
all_fit-same names written g shape [] [] h ps = refl
all_fit-same names written g shape [] (y ∷ ys) h ps = absurd h
all_fit-same names written g shape (x ∷ xs) [] h ps = absurd h
all_fit-same names written g shape (x ∷ xs) (y ∷ ys) h [] = refl
all_fit-same names written g shape (x ∷ xs) (y ∷ ys) h (p ∷ ps) =
    ap₂ (λ (here more : Bool). elim here [ true ↦ more | false ↦ false ])
    (fits_along-same names written g shape (cells_in x) (cells_in y) (AllZip-joined (AgreeOn names written) x y h.0) p)
    (all_fit-same names written g shape xs ys h.1 ps)
