-- The ways in which the parts of a row lie on a line, where each has a set of positions: a way is a list of positions,
-- one for each part, each part behind the one before. The position of the last part changes fastest.
use Rattle.std.specs.Prelude.{ℕ, ◌+◌, nat_le, Bool, if◌then◌else◌, List, [], ◌∷◌, ◌++◌, map, filter}
use Rattle.std.specs.List.{flat_map}
use Rattle.ps_board.specs.ColumnSets.{set_columns}

-- the positions of a set from one on
abbrev pub positions_from : List Bool → ℕ → List ℕ
positions_from set from = filter (λ position. nat_le from position) (set_columns set)

-- the ways of parts of these sizes, the first of them at a position or behind it
abbrev pub ways_from : List (List Bool) → List ℕ → ℕ → List (List ℕ)
ways_from [] sizes from = [] ∷ []
ways_from (set ∷ sets) [] from = []
ways_from (set ∷ sets) (size ∷ sizes) from =
    flat_map (λ position. map (λ way. position ∷ way) (ways_from sets sizes (position + size)))
    (positions_from set from)

-- the ways behind one
abbrev pub ways_behind : List (List Bool) → List ℕ → List ℕ → List (List ℕ)
ways_behind [] sizes way = []
ways_behind (set ∷ sets) [] way = []
ways_behind (set ∷ sets) (size ∷ sizes) [] = []
ways_behind (set ∷ sets) (size ∷ sizes) (position ∷ way) =
    map (λ others. position ∷ others) (ways_behind sets sizes way) ++ ways_from (set ∷ sets) (size ∷ sizes)
    (position + 1)

-- a list from its first element of a kind on
abbrev pub from_first : {X : Type 0} → (X → Bool) → List X → List X
from_first kind [] = []
from_first kind (x ∷ xs) = if kind x then x ∷ xs else from_first kind xs
