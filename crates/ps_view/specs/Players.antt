-- The cell of a frame that shows the player. Of several it is the first, as the cells of a board are numbered: column by
-- column, and each column from the top.
use Rattle.std.specs.Prelude.{ℕ, suc, ◌==◌, nat_lt, Bool, if◌then◌else◌, Option, Some, None, option_map}
use Rattle.std.specs.Prelude.{List, [], ◌∷◌}
use Rattle.std.specs.List.{list_any, position}
use Rattle.ps_view.specs.declared.corners.Cell.{Cell}

-- the character shows the player
abbrev pub shows_player : List ℕ → ℕ → Bool
shows_player players character = list_any (λ player. player == character) players

-- the first place of a row whose character does
abbrev pub player_place : List ℕ → List ℕ → Option ℕ
player_place players row = position (shows_player players) row

-- the cell at a place of the row with that number
abbrev pub cell_at : ℕ → Option ℕ → Option Cell
cell_at row place = option_map (λ column. record { row = row; column = column }) place

-- the first of two cells, where the second is in a row below the first
abbrev pub first_cell_of : Option Cell → Option Cell → Option Cell
first_cell_of None lower = lower
first_cell_of (Some upper) None = Some upper
first_cell_of (Some upper) (Some lower) = if nat_lt lower.column upper.column then Some lower else Some upper

-- the first of a cell, if there is one, and of those that show the player in the rows below it, the first of which has
-- that number
abbrev pub first_player_from : List ℕ → Option Cell → ℕ → List (List ℕ) → Option Cell
first_player_from players above number [] = above
first_player_from players above number (row ∷ rows) =
    first_player_from players (first_cell_of above (cell_at number (player_place players row))) (suc number) rows

-- the first cell of a frame that shows the player
abbrev pub first_player : List ℕ → List (List ℕ) → Option Cell
first_player players frame = first_player_from players None 0 frame
