-- Rows of a board that are matched against a mask together.
use Rattle.std.specs.Prelude.{◌≡◌, ℕ, ◌+◌, ◌<◌, Bool, List, [], length, slice_index_or}
use Rattle.ps_model.specs.board.Grid.{Grid}
use Rattle.ps_model.specs.meaning.RuleMeanings.{CellMeaning}
use Rattle.ps_board.specs.ColumnSets.{row_fits}

-- sets of columns for some rows, from the first one on: of each row those whose cells fit
abbrev pub AreRowsScanned : Grid → CellMeaning → ℕ → List (List Bool) → Type 0
AreRowsScanned g meaning first found = (k : ℕ) → k < length found →
    slice_index_or found k [] ≡ row_fits g meaning (first + k)
