-- The numbers of the lines at which the levels and messages of LEVELS begin.
use Rattle.std.specs.Prelude.{ℕ, Bool, ◌&&◌, ◌||◌, not, List, map}
use Rattle.ps_model.specs.text.Lines.{Line}
use Rattle.ps_model.specs.session.LevelLines.{EntryLines, MessageLine, LevelRows, entries_at, is_message, is_row}

-- the number of the first line of an entry
abbrev pub number_of : EntryLines → ℕ
number_of (MessageLine line) = line.number
number_of (LevelRows first below) = first.number

-- those of the entries that begin at these lines, of which the first stands right below a row or doesn't
abbrev pub numbers_at : Bool → List Line → List ℕ
numbers_at is_below_row lines = map number_of (entries_at is_below_row lines)

-- an entry begins at the line
abbrev pub begins : Bool → Line → Bool
begins is_below_row line = is_message line || (is_row line && not is_below_row)
