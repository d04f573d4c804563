-- The boards of an undo history, the oldest first.
use Rattle.std.specs.Prelude.{ℕ, ◌-◌, Option, List, length, take, drop, slice_get}
use Rattle.ps_model.specs.board.Grid.{Grid}
use Rattle.ps_model.specs.declared.limits.TheConstants.{HISTORY_LIMIT}

-- what a board shows, and its table
pub record BoardShown : Type 0 where
  pub table : Option (List ℕ)
  pub grid : Grid

-- the latest of them, and those before it
abbrev pub latest_board : List BoardShown → Option BoardShown
latest_board boards = slice_get boards (length boards - 1)

abbrev pub boards_before : List BoardShown → List BoardShown
boards_before boards = take (length boards - 1) boards

-- the last ones, as many as a history keeps
abbrev pub boards_kept : List BoardShown → List BoardShown
boards_kept boards = drop (length boards - HISTORY_LIMIT) boards
