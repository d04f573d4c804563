-- The lines of a run's output, told apart by how they begin; and two kinds that no run writes, which whoever shows a run
-- may put between its lines: notes and questions. The marks of those that tell something have a blank as their second
-- byte, which no row of a frame has.
use Rattle.std.specs.Prelude.{ℕ, nat_eq, if◌then◌else◌, List, [], ◌∷◌, codes}
use Rattle.std.specs.List.{starts_with}
use Rattle.ps_view.specs.declared.line_kinds.LineKind.{LineKind}
use Rattle.ps_view.specs.declared.line_kinds.LineKind.TheVariants.{Title, Level, Message, Note, Question, LevelDone}
use Rattle.ps_view.specs.declared.line_kinds.LineKind.TheVariants.{Ending, Empty, Row}

-- what a line is
abbrev pub kind_of : List ℕ → LineKind
kind_of [] = Empty
kind_of (first ∷ others) = let line : List ℕ = first ∷ others in
    if starts_with nat_eq line (codes "= ") then Title
    else (if starts_with nat_eq line (codes "# ") then Level
    else (if starts_with nat_eq line (codes "! ") then Message
    else (if starts_with nat_eq line (codes "~ ") then Note
    else (if starts_with nat_eq line (codes "? ") then Question
    else (if starts_with nat_eq line (codes "* level ") then LevelDone
    else (if starts_with nat_eq line (codes "* ") then Ending
    else Row))))))
