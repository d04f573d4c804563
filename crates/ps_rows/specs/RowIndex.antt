-- An index of the rows of planes: one set of rows for each plane, and where row y of the plane has a column, y is in
-- the set.
use Rattle.std.specs.Prelude.{◌≡◌, ◌<◌, ℕ, ◌+◌, ◌*◌, Bool, false, List}
use Rattle.ps_board.specs.ColumnSets.{column_at, no_columns}
use Rattle.ps_rows.specs.Planes.{row_of}

-- a row of a plane that isn't marked has no column
abbrev pub AreRowsMarked : ℕ → ℕ → List (List Bool) → List (List Bool) → Type 0
AreRowsMarked planes height words index =
    (plane row : ℕ) → plane < planes → row < height → column_at (row_of index plane) row ≡ false →
    row_of words (plane * height + row) ≡ no_columns
