-- Places of a part that goes down, each in its turn: those that begin on one row of the board, from the left.
use Rattle.std.specs.Prelude.{ℕ, ◌+◌, ◌*◌, Bool, if◌then◌else◌, List, [], ◌∷◌, length, fold}
use Rattle.std.specs.List.{range_with_len}
use Rattle.ps_model.specs.board.Attempts.{Rewritten, applied}
use Rattle.ps_model.specs.meaning.RuleMeanings.{CellMeaning}
use Rattle.ps_board.specs.ColumnSets.{column_at}
use Rattle.ps_places.specs.Lines.{cells_from}

-- the place whose first cell lies in a column of a row, on a board so high, applied if it still fits
abbrev pub applied_down : ℕ → List CellMeaning → ℕ → Rewritten → ℕ → Rewritten
applied_down height all row r x = applied ((all ∷ []) ∷ []) r (cells_from 1 (x * height + row) (length all) ∷ [])

-- so if the column is one of these
abbrev pub turn_down : ℕ → List CellMeaning → ℕ → List Bool → Rewritten → ℕ → Rewritten
turn_down height all row columns r x = if column_at columns x then applied_down height all row r x else r

-- so in each column of a board so wide
abbrev pub row_in_turn : ℕ → ℕ → List CellMeaning → ℕ → List Bool → Rewritten → Rewritten
row_in_turn width height all row columns r = fold (turn_down height all row columns) r (range_with_len 0 width)
