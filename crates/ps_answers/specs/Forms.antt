-- How an answer about a level is told, in each form.
use Rattle.std.specs.Prelude.{ℕ, List, ◌++◌, codes}
use Rattle.ps_answers.specs.SolvedObjects.{object_line}
use Rattle.ps_answers.specs.SolvedWords.{level_line}
use Rattle.ps_answers.specs.declared.forms.Form.{Form}
use Rattle.ps_answers.specs.declared.forms.Form.TheVariants.{Line, NamedLine, Object}
use Rattle.ps_answers.specs.declared.solved.Solved.{Solved}

-- of the level of that number, in a text of that name
abbrev pub told_in : Form → List ℕ → ℕ → Solved → List ℕ
told_in Line name level solved = level_line level solved
told_in NamedLine name level solved = (name ++ codes ": ") ++ level_line level solved
told_in Object name level solved = object_line name level solved
