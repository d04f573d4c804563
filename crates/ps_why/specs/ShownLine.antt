-- Which line of a text is shown with a fault: that of the fault, but for a section that isn't there. Where that may come
-- from another line, that one is shown.
use Rattle.std.specs.Prelude.{ℕ}
use Rattle.ps_causes.specs.declared.causes.Cause.{Cause}
use Rattle.ps_causes.specs.declared.causes.Cause.TheVariants.{MissingSection}
use Rattle.ps_causes.specs.declared.causes.Clue.{Clue}
use Rattle.ps_causes.specs.declared.causes.Clue.TheVariants.{Like, Open}

-- the line that a section which isn't there may come from, or else the fault's
abbrev pub line_of_clue : ℕ → Clue → ℕ
line_of_clue line (Like other) = other
line_of_clue line (Open other) = other
line_of_clue line _ = line

-- the line that is shown with a fault of that line and that cause
abbrev pub shown_line : ℕ → Cause → ℕ
shown_line line (MissingSection section clue) = line_of_clue line clue
shown_line line _ = line
