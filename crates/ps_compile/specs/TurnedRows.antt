-- Rows that are compiled from their other ends, where a rule is turned round.
use Rattle.std.specs.Prelude.{Bool, true, false, List, map, reverse}
use Rattle.ps_model.specs.declared.pieces.Direction.{Direction}
use Rattle.ps_model.specs.declared.pieces.Direction.TheVariants.{Up, Down, Left, Right}

-- down for up, right for left
abbrev pub facing_forwards : Direction → Direction
facing_forwards Up = Down
facing_forwards Down = Down
facing_forwards Left = Right
facing_forwards Right = Right

-- a list from its other end, or as it is
abbrev pub from_end : {A : Type 0} → Bool → List A → List A
from_end true items = reverse items
from_end false items = items

-- what is made of the cells of a part, and of a row
abbrev pub part_from : {A B : Type 0} → Bool → (A → B) → List A → List B
part_from backwards made part = from_end backwards (map made part)

abbrev pub row_from : {A B : Type 0} → Bool → (A → B) → List (List A) → List (List B)
row_from backwards made row = from_end backwards (map (part_from backwards made) row)
