-- The lines of numbers.
use Rattle.std.specs.Prelude.{ℕ, List, map}
use Rattle.ps_model.specs.text.Lines.{Line}
use Rattle.ps_model.specs.text.LineNumbers.{line_at}

-- the lines of these numbers
abbrev pub lines_at : List ℕ → List ℕ → List Line
lines_at text numbers = map (line_at text) numbers
