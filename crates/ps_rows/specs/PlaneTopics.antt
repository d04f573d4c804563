-- Planes that are the same on two boards but for those whose topic is in a set.
use Rattle.std.specs.Prelude.{◌≡◌, ◌<◌, ◌≤◌, ◌+◌, ℕ, Bool, false, List}
use Rattle.ps_board.specs.ColumnSets.{column_at, no_columns}
use Rattle.ps_match.specs.Topics.{motion_topic, object_topic}
use Rattle.ps_rows.specs.Sameness.{DifferOnlyOnRows}
use Rattle.ps_rows.specs.Showing.{motions_from}

-- a plane has the same rows on both
abbrev pub IsPlaneOfBoth : ℕ → List (List Bool) → List (List Bool) → ℕ → Type 0
IsPlaneOfBoth height first second plane = DifferOnlyOnRows height plane first second no_columns

-- the planes of the objects below a number, whose topic isn't in the set
abbrev pub AreObjectsOfBoth : ℕ → List (List Bool) → List (List Bool) → List Bool → ℕ → Type 0
AreObjectsOfBoth height first second topics count = (object : ℕ) → object < count →
    column_at topics (object_topic object) ≡ false → IsPlaneOfBoth height first second object

-- the five planes of a layer's motions that begin with that one
abbrev pub AreFiveOfBoth : ℕ → List (List Bool) → List (List Bool) → ℕ → Type 0
AreFiveOfBoth height first second from = (plane : ℕ) → from ≤ plane → plane < from + 5 →
    IsPlaneOfBoth height first second plane

-- the planes of the motions on the layers below a number, whose topic isn't in the set
abbrev pub AreMotionsOfBoth : List ℕ → ℕ → List (List Bool) → List (List Bool) → List Bool → ℕ → Type 0
AreMotionsOfBoth table height first second topics count = (layer : ℕ) → layer < count →
    column_at topics (motion_topic layer) ≡ false → AreFiveOfBoth height first second (motions_from table layer)
