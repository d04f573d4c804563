-- Lists of the numbers of lines.
use Rattle.std.specs.Prelude.{ℕ, Bool, if◌then◌else◌, List, [], ◌∷◌}

-- a number, if it is wanted
abbrev pub number_if : Bool → ℕ → List ℕ
number_if wanted number = if wanted then number ∷ [] else []
