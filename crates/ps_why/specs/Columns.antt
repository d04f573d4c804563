-- In which column of its line the marks of a fault begin.
use Rattle.std.specs.Prelude.{ℕ, ◌+◌, ◌-◌, not, Option, Some, None, List, length, filter, drop, take}
use Rattle.ps_why.specs.Lines.{goes_on, line_start}
use Rattle.ps_why.specs.declared.marks.Marks.{Marks}

-- how many characters begin in bytes
abbrev pub characters_in : List ℕ → ℕ
characters_in bytes = length (filter (λ byte. not (goes_on byte)) bytes)

-- the column of a place of a text, in the line that begins at another: its characters are counted from 1
abbrev pub column_at : List ℕ → ℕ → ℕ → ℕ
column_at text start place = characters_in (take (place - start) (drop start text)) + 1

-- the column in which the marks begin that stand below a line; the first, where there are none
abbrev pub column_of : List ℕ → ℕ → Option Marks → ℕ
column_of text line None = 1
column_of text line (Some marks) = column_at text (line_start text line) marks.mark.from
