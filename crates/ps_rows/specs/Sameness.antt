-- Two boards of the same size for the same game: where their planes have the same cells.
use Rattle.std.specs.Prelude.{◌≡◌, ◌<◌, ◌+◌, ◌*◌, ℕ, nat_eq, Bool, true, false, List}
use Rattle.std.specs.List.{list_any}
use Rattle.ps_model.specs.declared.limits.TheConstants.{SIDE_LIMIT}
use Rattle.ps_board.specs.ColumnSets.{column_at}
use Rattle.ps_rows.specs.Planes.{row_of}
use Rattle.ps_rows.specs.Showing.{slot_shown}

-- two sets have the same columns, of so many from the left on
abbrev pub AreSameRows : ℕ → List Bool → List Bool → Type 0
AreSameRows width first second = (x : ℕ) → x < width → column_at first x ≡ column_at second x

-- a plane has the same cells in both
abbrev pub IsSamePlane : ℕ → ℕ → List (List Bool) → List (List Bool) → ℕ → Type 0
IsSamePlane width height first second plane = (row : ℕ) → row < height →
    AreSameRows width (row_of first (plane * height + row)) (row_of second (plane * height + row))

-- each of these planes has
abbrev pub AreSamePlanes : ℕ → ℕ → List (List Bool) → List (List Bool) → List ℕ → Type 0
AreSamePlanes width height first second planes = (plane : ℕ) → list_any (nat_eq plane) planes ≡ true →
    IsSamePlane width height first second plane

-- a plane has the same cells in those rows of both that are in a set
abbrev pub IsSamePlaneOn : ℕ → ℕ → List Bool → List (List Bool) → List (List Bool) → ℕ → Type 0
IsSamePlaneOn width height rows first second plane = (row : ℕ) → row < height → column_at rows row ≡ true →
    AreSameRows width (row_of first (plane * height + row)) (row_of second (plane * height + row))

-- each of these planes has
abbrev pub AreSamePlanesOn : ℕ → ℕ → List Bool → List (List Bool) → List (List Bool) → List ℕ → Type 0
AreSamePlanesOn width height rows first second planes = (plane : ℕ) → list_any (nat_eq plane) planes ≡ true →
    IsSamePlaneOn width height rows first second plane

-- a layer shows the same in each cell
abbrev pub IsSameLayer : List ℕ → ℕ → ℕ → List (List Bool) → List (List Bool) → ℕ → Type 0
IsSameLayer table width height first second layer = (cell : ℕ) → cell < width * height →
    slot_shown table height first cell layer ≡ slot_shown table height second cell layer

-- a set has each column in which a row differs, in so many planes, the first ones
abbrev pub HasDifferences : ℕ → ℕ → ℕ → List (List Bool) → List (List Bool) → List Bool → Type 0
HasDifferences height row planes first second word = (plane x : ℕ) → plane < planes → x < SIDE_LIMIT →
    column_at word x ≡ false →
    column_at (row_of first (plane * height + row)) x ≡ column_at (row_of second (plane * height + row)) x

-- a set has each column, of all those of a board, that isn't in another set as one of them is, and hasn't that one
abbrev pub HasUnlike : List Bool → List Bool → ℕ → List Bool → Type 0
HasUnlike all of column word =
    (column_at word column ≡ false)
    × ((x : ℕ) → x < SIDE_LIMIT → column_at all x ≡ true → column_at word x ≡ false →
    column_at of x ≡ column_at of column)

-- a set has each column of a row, of all those of a board, that isn't in one of so many planes, the first ones, as one
-- of them is, and hasn't that one
abbrev pub HasUnlikeOf : ℕ → ℕ → ℕ → List (List Bool) → List Bool → ℕ → List Bool → Type 0
HasUnlikeOf height row planes words all column word =
    (column_at word column ≡ false)
    × ((plane x : ℕ) → plane < planes → x < SIDE_LIMIT → column_at all x ≡ true → column_at word x ≡ false →
    column_at (row_of words (plane * height + row)) x ≡ column_at (row_of words (plane * height + row)) column)

-- a plane has the same rows in both, but for those of a set
abbrev pub DifferOnlyOnRows : ℕ → ℕ → List (List Bool) → List (List Bool) → List Bool → Type 0
DifferOnlyOnRows height plane first second rows = (row : ℕ) → row < height → column_at rows row ≡ false →
    row_of first (plane * height + row) ≡ row_of second (plane * height + row)

-- so many planes, the first ones, have
abbrev pub PlanesDifferOnlyOn : ℕ → ℕ → List (List Bool) → List (List Bool) → List Bool → Type 0
PlanesDifferOnlyOn height planes first second rows = (plane : ℕ) → plane < planes →
    DifferOnlyOnRows height plane first second rows
