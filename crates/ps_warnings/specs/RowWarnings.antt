-- Rows of levels that are longer or shorter than the first row of their level, which says how wide the level is. What is
-- past the width of a longer row is cut off, and a shorter row is filled up with its last character.
use Rattle.std.specs.Prelude.{ℕ, nat_eq, nat_lt, true, false, if◌then◌else◌, Option, Some, None, List, []}
use Rattle.std.specs.Prelude.{◌∷◌, ◌++◌, length}
use Rattle.std.specs.List.{flat_map, take_while}
use Rattle.ps_model.specs.text.Lines.{Line}
use Rattle.ps_model.specs.session.LevelLines.{EntryLines, MessageLine, LevelRows, characters_of, entries_at, entry_lines}
use Rattle.ps_model.specs.session.LevelLines.{is_row}
use Rattle.ps_warnings.specs.declared.kinds.Warning.{Warning}
use Rattle.ps_warnings.specs.declared.kinds.WarningKind.TheVariants.{LongRow, ShortRow}

-- how many characters a row has, without the blanks at its ends
abbrev pub width_of : Line → ℕ
width_of row = length (characters_of row)

-- a row at a line that is so wide, in a level of that width
abbrev pub warned_of_width : ℕ → ℕ → ℕ → List Warning
warned_of_width width own line =
    if nat_eq own width then [] else record {
      line = line;
      kind = if nat_lt own width then ShortRow else LongRow;
    } ∷ []

-- a row in a level of that width
abbrev pub warnings_of_row : ℕ → Line → List Warning
warnings_of_row width row = warned_of_width width (width_of row) row.number

-- the rows of an entry below its first
abbrev pub warnings_of_rows : EntryLines → List Warning
warnings_of_rows (MessageLine line) = []
warnings_of_rows (LevelRows first below) = flat_map (warnings_of_row (width_of first)) below

-- the rows of LEVELS, from its lines that are there
abbrev pub row_warnings : List Line → List Warning
row_warnings lines = flat_map warnings_of_rows (entry_lines lines)

-- what comes of lines of LEVELS that stand right below a row of a level of that width, or below no row
abbrev pub told_below : Option ℕ → List Line → List Warning
told_below None lines = flat_map warnings_of_rows (entries_at false lines)
told_below (Some width) lines =
    flat_map (warnings_of_row width) (take_while is_row lines) ++ flat_map warnings_of_rows (entries_at true lines)
