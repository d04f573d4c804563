-- The entries of LEVELS. A line whose first word is `message` is a message. Other lines that aren't blank are rows, and
-- rows right below one another make a level: a blank line or a message ends it. The first row says how wide the level
-- is.
use Rattle.std.specs.Prelude.{ℕ, ◌-◌, Bool, true, false, ◌&&◌, not, unwrap_or, List, [], ◌∷◌, ◌++◌, length, map, take}
use Rattle.std.specs.Prelude.{drop, replicate, slice_index_or, codes}
use Rattle.std.specs.List.{flat_map, range_with_len, prefix_len, take_while}
use Rattle.std.specs.Str.{bytes_eq, chars}
use Rattle.ps_model.specs.declared.pieces.ObjectId.{ObjectId}
use Rattle.ps_model.specs.text.Words.{is_blank}
use Rattle.ps_model.specs.text.Lines.{Line, first_word, is_blank_line, without_blank_end, taken_bytes}
use Rattle.ps_model.specs.names.Names.{Names}
use Rattle.ps_model.specs.board.Levels.{Level, objects_shown, grounded}

-- an entry: a message with its text, or a level
pub data Entry : Type 0 where
  MessageEntry : List ℕ → Entry
  LevelEntry : Level → Entry

-- the lines of an entry: the one of a message; the first row of a level, and the rows below it
pub data EntryLines : Type 0 where
  MessageLine : Line → EntryLines
  LevelRows : Line → List Line → EntryLines

-- lines of entries ----------------------------------------------------------------------------------------------------

-- the line is a message
abbrev pub is_message : Line → Bool
is_message line = bytes_eq (first_word line) (codes "message")

-- the line is a row of a level
abbrev pub is_row : Line → Bool
is_row line = not (is_blank_line line) && not (is_message line)

-- the entry that begins at a line, if one does, with these lines below it: a message; or a level, at a row that has no
-- row right above it
abbrev pub entry_at : Bool → Line → List Line → List EntryLines
entry_at is_below_row line below = elim (is_message line) [
  | true ↦ MessageLine line ∷ []
  | false ↦ elim (is_row line && not is_below_row) [ true ↦ LevelRows line (take_while is_row below) ∷ [] | false ↦ [] ]
]

-- the entries that begin at these lines, of which the first stands right below a row or doesn't
abbrev pub entries_at : Bool → List Line → List EntryLines
entries_at is_below_row [] = []
entries_at is_below_row (line ∷ below) = entry_at is_below_row line below ++ entries_at (is_row line) below

-- the lines of each entry, from the lines of LEVELS that are there
abbrev pub entry_lines : List Line → List EntryLines
entry_lines lines = entries_at false lines

-- messages and levels -------------------------------------------------------------------------------------------------

-- the characters of a row, without the blanks at its ends
abbrev pub characters_of : Line → List ℕ
characters_of row = chars (without_blank_end (drop (prefix_len is_blank row.bytes) row.bytes))

-- the last character of a row
abbrev pub last_character : List ℕ → ℕ
last_character characters = slice_index_or characters (length characters - 1) 0

-- the characters of a row in a level of that width: a shorter row is filled with its own last character, and those past
-- the width are ignored
abbrev pub of_width : ℕ → List ℕ → List ℕ
of_width width characters = take width (characters ++ replicate (width - length characters) (last_character characters))

-- the objects that a character shows; one that may not stand in a level shows none
abbrev pub shown_in_level : Names → ℕ → List ObjectId
shown_in_level names character = unwrap_or (objects_shown names character) []

-- the objects of each cell of a row, in a level of that width
abbrev pub row_cells : Names → ℕ → Line → List (List ObjectId)
row_cells names width row = map (shown_in_level names) (of_width width (characters_of row))

-- the cells of rows, in columns from the left and each column from the top
abbrev pub in_columns : ℕ → List (List (List ObjectId)) → List (List ObjectId)
in_columns width rows = flat_map (λ column. map (λ row. slice_index_or row column []) rows) (range_with_len 0 width)

-- the level of rows, `width` columns wide
abbrev pub level_of : Names → ℕ → List Line → Level
level_of names width rows =
    record {
      width = width;
      height = length rows;
      cells =
          grounded names (in_columns width (map (row_cells names width) rows));
    }

-- the entry of its lines
abbrev pub entry_of_lines : Names → EntryLines → Entry
entry_of_lines names (MessageLine line) = MessageEntry (taken_bytes line)
entry_of_lines names (LevelRows first below) =
    LevelEntry (level_of names (length (characters_of first)) (first ∷ below))

-- the entries of LEVELS, from its lines that are there
abbrev pub entries_read : Names → List Line → List Entry
entries_read names lines = map (entry_of_lines names) (entry_lines lines)
