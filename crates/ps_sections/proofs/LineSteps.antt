-- Lines of which the first may not be there, a line further.
use Rattle.std.proofs.Common.{◌≡◌, Bool, true, false, cond, ◌&&◌, ◌||◌, List, [], ◌∷◌, ◌++◌, Some, refl}
use Rattle.std.specs.Prelude.{find, if◌then◌else◌}
use Rattle.std.specs.List.{list_any}

pub any_step : {X : Type 0} (test : X → Bool) (line : X) (lines : List X) (there : Bool) →
    list_any test ((if there then line ∷ [] else []) ++ lines) ≡ ((there && test line) || list_any test lines)
any_step test line lines true = refl
any_step test line lines false = refl

pub find_step : {X : Type 0} (test : X → Bool) (line : X) (lines : List X) (there : Bool) →
    find test ((if there then line ∷ [] else []) ++ lines) ≡ cond (there && test line) (Some line) (find test lines)
find_step test line lines true = refl
find_step test line lines false = refl
