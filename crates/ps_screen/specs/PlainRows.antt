-- Plain rows of a frame: those whose characters are all of one byte, so that byte x of the row is the one of column x.
-- Such a row may stand anywhere in a text.
use Rattle.std.specs.Prelude.{◌≡◌, ◌≢◌, ◌<◌, ◌≤◌, ◌+◌, ◌*◌, ◌⊎◌, ℕ, Bool, true, false, List, [], ◌∷◌, length}
use Rattle.std.specs.Prelude.{encode_utf8, slice_index}
use Rattle.ps_model.specs.declared.limits.TheConstants.{SIDE_LIMIT}
use Rattle.ps_model.specs.board.Grid.{Grid, cell_at}
use Rattle.ps_model.specs.names.Names.{Names}
use Rattle.ps_model.specs.session.Frames.{shown_character}
use Rattle.ps_board.specs.ColumnSets.{both_columns, column_at, columns_without, with_column}
use Rattle.ps_board.specs.Rows.{AreAlike}

-- the bytes of the character that shows the cell of a column of a row
abbrev pub column_bytes : Names → Grid → ℕ → ℕ → List ℕ
column_bytes names g row x = encode_utf8 (shown_character names (cell_at g (x * g.height + row)))

-- a place of a text before a row's first column or after its last one, where the row begins at `start`
abbrev pub IsOutside : ℕ → ℕ → ℕ → Type 0
IsOutside start width at = (at < start) ⊎ (start + width ≤ at)

-- from a place on, the text has a byte for each column, which is its character, and a line feed
pub record IsPlainRow (names : Names) (g : Grid) (row start : ℕ) (text : List ℕ) : Type 0 where
  pub long : start + g.width < length text
  pub each : (x : ℕ) → x < g.width → column_bytes names g row x ≡ slice_index text (start + x) ∷ []
  pub end : slice_index text (start + g.width) ≡ 10

-- from a place on, the text has room for a plain row, and such a byte for each column that isn't in a set
pub record AreDrawn (names : Names) (g : Grid) (row : ℕ) (columns : List Bool) (start : ℕ) (text : List ℕ) : Type 0
  where
    pub long : start + g.width < length text
    pub each : (x : ℕ) → x < g.width → column_at columns x ≡ false →
        column_bytes names g row x ≡ slice_index text (start + x) ∷ []
    pub end : slice_index text (start + g.width) ≡ 10

-- from a place on, a byte is written in a text for a column of a row, and for others: those that are left and in a set
-- of columns which show the same as that one; the rest is left still
pub record IsGroupWritten (g : Grid) (row column : ℕ) (left rest : List Bool) (start byte : ℕ)
    (before after : List ℕ) : Type 0 where
  pub others : List Bool
  pub alike : AreAlike others g row column
  pub group : List Bool
  pub is : group ≡ with_column (both_columns left others) column true
  pub behind : rest ≡ columns_without left group
  pub there : (x : ℕ) → x < SIDE_LIMIT → column_at group x ≡ true → slice_index after (start + x) ≡ byte
  pub elsewhere : (at : ℕ) → ((x : ℕ) → x < SIDE_LIMIT → column_at group x ≡ true → at ≢ start + x) →
      slice_index after at ≡ slice_index before at
