-- The first of lines that passes a test, where the line at the front may not be there.
use Rattle.std.proofs.Common.{◌≡◌, Bool, true, false, cond, ◌&&◌, List, [], ◌∷◌, ◌++◌, Some, refl}
use Rattle.std.specs.Prelude.{find, if◌then◌else◌}

pub find_step : {X : Type 0} (test : X → Bool) (line : X) (lines : List X) (there : Bool) →
    find test ((if there then line ∷ [] else []) ++ lines) ≡ cond (there && test line) (Some line) (find test lines)
find_step test line lines true = refl
find_step test line lines false = refl
