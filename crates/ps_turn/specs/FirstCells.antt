-- The first of the cells of a board that pass a test, as it is sought row by row.
use Rattle.std.specs.Prelude.{◌≡◌, ◌<◌, ◌≤◌, ◌+◌, ◌*◌, ℕ, min, Bool, true, Option, Some, None}
use Rattle.ps_model.specs.board.Grid.{Grid, cell_count}

-- a cell was found, and it is that of a number, or comes before it
abbrev pub IsNoLater : Option ℕ → ℕ → Type 0
IsNoLater None cell = ⊥
IsNoLater (Some found) cell = found ≤ cell

-- the first of two cells, of which either may be missing
abbrev pub earlier : Option ℕ → Option ℕ → Option ℕ
earlier None second = second
earlier (Some first) None = Some first
earlier (Some first) (Some second) = Some (min first second)

-- the cell, if one was found, is on the board and passes the test
abbrev pub PassesIfFound : (ℕ → Bool) → Grid → Option ℕ → Type 0
PassesIfFound test g found = (cell : ℕ) → found ≡ Some cell → (cell < cell_count g) × (test cell ≡ true)

-- none of the cells of a row that pass the test comes before the cell
abbrev pub IsFirstOfRow : (ℕ → Bool) → Grid → ℕ → Option ℕ → Type 0
IsFirstOfRow test g row found = (x : ℕ) → x < g.width → test (x * g.height + row) ≡ true →
    IsNoLater found (x * g.height + row)
