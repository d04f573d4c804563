-- The rows of a level by the numbers of its lines.
use Rattle.std.specs.Prelude.{◌≡◌, ◌≤◌, ◌<◌, ℕ, ◌+◌, true, List, length}
use Rattle.ps_model.specs.session.LevelLines.{EntryLines, LevelRows}
use Rattle.ps_model.specs.text.Lines.{lines_of}
use Rattle.ps_model.specs.text.LineNumbers.{line_at, lines_between}

-- the rows of a level, from the line of its first to before another line
abbrev pub rows_at : List ℕ → ℕ → ℕ → EntryLines
rows_at text first end = LevelRows (line_at text first) (lines_between text (first + 1) end)

-- the text has the lines from one number to before another, and there is a first of them
pub record HasFirstLine (text : List ℕ) (first end : ℕ) : Type 0 where
  pub from_one : 1 ≤ first
  pub ordered : first < end
  pub there : end ≤ length (lines_of text) + 1

-- and the first isn't one that goes on a comment from above
pub record HasFirstRow (text : List ℕ) (first end : ℕ) : Type 0 where
  pub lines : HasFirstLine text first end
  pub row : (line_at text first).is_there ≡ true
