-- Rows of two boards of the same size: where they show the same objects. Motions don't count.
use Rattle.std.specs.Prelude.{◌≡◌, ◌<◌, ◌+◌, ◌*◌, ℕ, Bool, true, false, List, map}
use Rattle.ps_model.specs.board.Grid.{Grid, cell_at, object_in}
use Rattle.ps_model.specs.session.Frames.{objects_in}
use Rattle.ps_board.specs.ColumnSets.{column_at}

-- the cell of a column of the row has on each layer the same object in both, or none
abbrev pub HaveSameCell : Grid → Grid → ℕ → ℕ → Type 0
HaveSameCell first second row column =
    map object_in (cell_at first (column * first.height + row))
    ≡ map object_in (cell_at second (column * first.height + row))

-- each cell of the row has
abbrev pub HaveSameRow : Grid → Grid → ℕ → Type 0
HaveSameRow first second row = (column : ℕ) → column < first.width → HaveSameCell first second row column

-- each cell of the row has whose column isn't in a set
abbrev pub DifferOnlyIn : List Bool → Grid → Grid → ℕ → Type 0
DifferOnlyIn columns first second row = (column : ℕ) → column < first.width → column_at columns column ≡ false →
    HaveSameCell first second row column

-- each row has whose number isn't in a set
abbrev pub DifferOnlyOn : List Bool → Grid → Grid → Type 0
DifferOnlyOn rows first second = (row : ℕ) → row < first.height → column_at rows row ≡ false →
    HaveSameRow first second row

-- the cells of a row whose columns are in a set have the same objects as the one of a column
abbrev pub AreAlike : List Bool → Grid → ℕ → ℕ → Type 0
AreAlike columns g row column = (x : ℕ) → x < g.width → column_at columns x ≡ true →
    objects_in (cell_at g (x * g.height + row)) ≡ objects_in (cell_at g (column * g.height + row))
