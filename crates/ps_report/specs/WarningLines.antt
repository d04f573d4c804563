-- The warnings of a text, in lines.
use Rattle.std.specs.Prelude.{ℕ, List, [], ◌++◌, codes}
use Rattle.std.specs.Fmt.{decimal}
use Rattle.std.specs.List.{flat_map}
use Rattle.ps_warnings.specs.Wording.{sentence}
use Rattle.ps_warnings.specs.declared.kinds.Warning.{Warning}
use Rattle.ps_report.specs.Fronts.{front_of}
use Rattle.ps_report.specs.declared.details.Format.{Format}
use Rattle.ps_report.specs.declared.details.Format.TheVariants.{Text, Gnu, Json}
use Rattle.ps_report.specs.declared.details.How.{How}

-- where a warning is: for people the line, and for editors the file, the line, and its first column
abbrev pub place_in : Format → How → List ℕ → ℕ → List ℕ
place_in Text how name line = front_of how.is_named name ++ (codes "line " ++ (decimal line ++ codes ": "))
place_in Gnu how name line = name ++ (codes ":" ++ (decimal line ++ codes ":1: "))
place_in Json how name line = front_of how.is_named name ++ (codes "line " ++ (decimal line ++ codes ": "))

abbrev pub place_words : How → List ℕ → ℕ → List ℕ
place_words how name line = place_in how.format how name line

-- the line on a warning
abbrev pub warning_line : How → List ℕ → Warning → List ℕ
warning_line how name warning =
    place_words how name warning.line ++ (codes "warning: " ++ (sentence warning.kind ++ codes "\n"))

-- the line on each of the warnings
abbrev pub lines_on : How → List ℕ → List Warning → List ℕ
lines_on how name warnings = flat_map (warning_line how name) warnings

-- in a form: an object of JSON has them in itself
abbrev pub warning_lines_in : Format → How → List ℕ → List Warning → List ℕ
warning_lines_in Text how name warnings = lines_on how name warnings
warning_lines_in Gnu how name warnings = lines_on how name warnings
warning_lines_in Json how name warnings = []

-- in the form that is asked for
abbrev pub warning_lines : How → List ℕ → List Warning → List ℕ
warning_lines how name warnings = warning_lines_in how.format how name warnings
