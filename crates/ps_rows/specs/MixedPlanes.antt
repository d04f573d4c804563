-- Planes of two boards of the same size for the same game, mixed: the rows of a set are those of the second board, and
-- all others those of the first.
use Rattle.std.specs.Prelude.{ℕ, ◌%◌, if◌then◌else◌, Bool, List, length, map}
use Rattle.std.specs.List.{range_with_len}
use Rattle.ps_board.specs.ColumnSets.{column_at}
use Rattle.ps_rows.specs.Planes.{row_of}

-- the row at a place, which is the second board's if its number is in the set
abbrev pub mixed_row : ℕ → List Bool → List (List Bool) → List (List Bool) → ℕ → List Bool
mixed_row height rows first second place =
    if column_at rows (place % height) then row_of second place else row_of first place

-- all of them
unfoldable pub mixed_planes : ℕ → List Bool → List (List Bool) → List (List Bool) → List (List Bool)
mixed_planes height rows first second = map (mixed_row height rows first second) (range_with_len 0 (length first))
