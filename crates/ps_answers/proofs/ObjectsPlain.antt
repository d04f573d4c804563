-- No object on a level has a number with a point: so its text is the compact one.
use Rattle.std.proofs.Common.{◌≡◌, ◌∙◌, ℕ, List, Bool, false, refl, ap}
use Rattle.ps_answers.specs.SolvedObjects.{data_line, object_line, object_with, told_of}
use Rattle.ps_answers.specs.declared.solved.Solved.{Solved}
use Rattle.ps_answers.specs.declared.solved.Solved.TheVariants.{Won, Never, Unknown}
use Rattle.serde_json.specs.Data.{Data}
use Rattle.serde_json.specs.Written.{has_float}

object_plain : (name : List ℕ) (level : ℕ) (solved : Solved) → has_float (object_with name level (told_of solved)) ≡ false
object_plain name level (Won inputs) = refl
object_plain name level (Never states) = refl
object_plain name level (Unknown states depth why) = refl

-- the line of the object on an answer
pub line_made : (name : List ℕ) (level : ℕ) (solved : Solved) (told : Data) (line : List ℕ) →
    told ≡ object_with name level (told_of solved) → (has_float told ≡ false → line ≡ data_line told) →
    line ≡ object_line name level solved
unfolding object_line
line_made name level solved told line is written =
    written (ap has_float is ∙ object_plain name level solved) ∙ ap data_line is
