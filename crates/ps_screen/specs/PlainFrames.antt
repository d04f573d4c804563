-- Plain frames: those whose rows are plain. A row takes one byte more than the board has columns, and the rows stand
-- one after the other.
use Rattle.std.specs.Prelude.{◌≡◌, ◌<◌, ◌+◌, ◌*◌, ℕ, Bool, true, false, List, length, slice_index}
use Rattle.ps_model.specs.board.Grid.{Grid}
use Rattle.ps_model.specs.names.Names.{Names}
use Rattle.ps_board.specs.ColumnSets.{column_at}
use Rattle.ps_screen.specs.PlainRows.{IsPlainRow}

-- where a row begins, on a board of a width
abbrev pub row_start : ℕ → ℕ → ℕ
row_start width row = row * (width + 1)

-- the text has the plain rows of a grid's frame, from the top, and a line feed after the last one
pub record IsPlainFrame (names : Names) (g : Grid) (text : List ℕ) : Type 0 where
  pub long : length text ≡ row_start g.width g.height + 1
  pub each : (row : ℕ) → row < g.height → IsPlainRow names g row (row_start g.width row) text
  pub end : slice_index text (row_start g.width g.height) ≡ 10

-- the text has the plain rows of a set as one grid's frame has them, and the others as that of another grid as large
pub record IsPatchedFrame (names : Names) (rows : List Bool) (g h : Grid) (text : List ℕ) : Type 0 where
  pub long : length text ≡ row_start g.width g.height + 1
  pub drawn : (row : ℕ) → row < g.height → column_at rows row ≡ true →
      IsPlainRow names g row (row_start g.width row) text
  pub kept : (row : ℕ) → row < g.height → column_at rows row ≡ false →
      IsPlainRow names h row (row_start g.width row) text
  pub end : slice_index text (row_start g.width g.height) ≡ 10

-- the text has as many bytes as such a frame, and its line feeds
pub record IsBlankFrame (width height : ℕ) (text : List ℕ) : Type 0 where
  pub long : length text ≡ row_start width height + 1
  pub each : (row : ℕ) → row < height → slice_index text (row_start width row + width) ≡ 10
  pub end : slice_index text (row_start width height) ≡ 10
