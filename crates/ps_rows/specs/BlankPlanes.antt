-- Planes without columns.
use Rattle.std.specs.Prelude.{◌≡◌, ◌+◌, ◌*◌, ◌<◌, ◌≤◌, ℕ, Bool, List}
use Rattle.ps_board.specs.ColumnSets.{no_columns}
use Rattle.ps_rows.specs.Planes.{row_of}

-- the planes from the first up to the end have no column in any row
abbrev pub AreBlank : ℕ → ℕ → ℕ → List (List Bool) → Type 0
AreBlank height first end words = (plane row : ℕ) → first ≤ plane → plane < end → row < height →
    row_of words (plane * height + row) ≡ no_columns
