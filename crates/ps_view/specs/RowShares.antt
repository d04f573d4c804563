-- How the rows of a terminal are shared out between a frame and the lines below it.
use Rattle.std.specs.Prelude.{ℕ, ◌-◌, ◌/◌, nat_le, Bool, if◌then◌else◌}
use Rattle.ps_view.specs.declared.sizes.Size.{Size}

-- so many rows have room for the lines of the title, the level and the keys
abbrev pub has_lines : ℕ → Bool
has_lines rows = nat_le 8 rows

-- how many rows a frame has where nothing is told last: all but those lines, and a row for what is told last; where there is
-- no room for the lines, all
abbrev pub frame_rows : Size → ℕ
frame_rows size = if has_lines size.rows then size.rows - 4 else size.rows

-- how many of so many rows may be taken by what is told last: all but the lines, and three rows of a frame; where there is no room for
-- the lines, half of the rows, rounded up
abbrev pub most_news : ℕ → ℕ
most_news rows = if has_lines rows then rows - 6 else rows - rows / 2
