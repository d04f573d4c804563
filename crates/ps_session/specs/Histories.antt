-- The undo history, as a list of its boards, the oldest first.
use Rattle.std.specs.Prelude.{ℕ, ◌≡◌, All, Option, List, map}
use Rattle.ps_model.specs.board.Grid.{Grid}
use Rattle.ps_board.specs.Histories.{BoardShown}

-- the grids that the boards show
abbrev pub grids_of : List BoardShown → List Grid
grids_of boards = map (λ board. board.grid) boards

-- each board has this table
abbrev pub AreOnTable : Option (List ℕ) → List BoardShown → Type 0
AreOnTable table boards = All (λ board. board.table ≡ table) boards
