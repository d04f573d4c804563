-- The lines of a text by their numbers, which count from 1.
use Rattle.std.specs.Prelude.{ℕ, ◌+◌, ◌-◌, ◌≤◌, length, false, None, List, [], ◌∷◌, if◌then◌else◌, filter, take, drop}
use Rattle.std.specs.Prelude.{slice_index_or}
use Rattle.ps_model.specs.declared.texts.Section.TheVariants.{Prelude}
use Rattle.ps_model.specs.text.Lines.{Line, lines_of}

-- what stands at a number that no line has: a line that isn't there
abbrev pub no_line : Line
no_line = record {
  number = 0;
  start = 0;
  section = Prelude;
  is_header = false;
  bytes = [];
  taken = None;
  is_there =
      false;
}

-- the line of a number
abbrev pub line_at : List ℕ → ℕ → Line
line_at text number = slice_index_or (lines_of text) (number - 1) no_line

-- the lines from one number to before another, without those that aren't there
abbrev pub lines_between : List ℕ → ℕ → ℕ → List Line
lines_between text from to = filter (λ line. line.is_there) (take (to - from) (drop (from - 1) (lines_of text)))

-- the line of a number alone, or no line where it isn't there
abbrev pub here : List ℕ → ℕ → List Line
here text number = if (line_at text number).is_there then line_at text number ∷ [] else []

-- the text has a line of that number
abbrev pub HasLine : List ℕ → ℕ → Type 0
HasLine text number = (1 ≤ number) × (number ≤ length (lines_of text))

-- the text has the lines from one number to before another, of which there may be none
abbrev pub HasLines : List ℕ → ℕ → ℕ → Type 0
HasLines text from to = (1 ≤ from) × ((from ≤ to) × (to ≤ length (lines_of text) + 1))
