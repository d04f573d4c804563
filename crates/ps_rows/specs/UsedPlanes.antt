-- Sets of planes that may have a column, `WORD_BITS` planes in each.
use Rattle.std.specs.Prelude.{◌≡◌, ◌+◌, ◌*◌, ◌/◌, ◌%◌, ◌<◌, ◌≤◌, ℕ, Bool, false, List}
use Rattle.std.specs.Prelude.{if◌then◌else◌, nat_lt}
use Rattle.ps_model.specs.declared.limits.TheConstants.{SIDE_LIMIT}
use Rattle.ps_board.specs.ColumnSets.{column_at}
use Rattle.ps_board.specs.declared.one_word.TheConstants.{WORD_BITS}
use Rattle.ps_rows.specs.Planes.{row_of}
use Rattle.ps_rows.specs.declared.used_planes.TheConstants.{MANY_PLANES}

-- how many sets there are for so many planes
abbrev pub sets_for : ℕ → ℕ
sets_for planes = if nat_lt planes MANY_PLANES then 0 else planes / WORD_BITS + 1

-- the plane is noted in its set
abbrev pub is_used : List (List Bool) → ℕ → Bool
is_used words plane = column_at (row_of words (plane / WORD_BITS)) (plane % WORD_BITS)

-- a plane that isn't noted has no marked row
abbrev pub AreUsesNoted : ℕ → List (List Bool) → List (List Bool) → Type 0
AreUsesNoted planes index used = (plane row : ℕ) → plane < planes → row < SIDE_LIMIT → is_used used plane ≡ false →
    column_at (row_of index plane) row ≡ false

-- each plane that some sets have is in others
abbrev pub AreAmongUsed : List (List Bool) → List (List Bool) → Type 0
AreAmongUsed words others = (plane : ℕ) → is_used others plane ≡ false → is_used words plane ≡ false

-- of two such lists of sets neither has one of the planes from the first up to the end
abbrev pub AreNotUsed : List (List Bool) → List (List Bool) → ℕ → ℕ → Type 0
AreNotUsed words others first end = (plane : ℕ) → first ≤ plane → plane < end →
    (is_used words plane ≡ false) × (is_used others plane ≡ false)

-- a plane from the first on, and neither has one before it
abbrev pub IsNextUsed : List (List Bool) → List (List Bool) → ℕ → ℕ → Type 0
IsNextUsed words others first next = (first ≤ next) × AreNotUsed words others first next
