-- What can go: the object that stands on a layer of a cell goes to its target, if that is bare now. It is at rest as
-- soon as it went, so that it goes one cell at most.
use Rattle.std.specs.Prelude.{ℕ, Bool, true, false, Option, Some, None, count_by, sum_by}
use Rattle.ps_model.specs.declared.pieces.Motion.TheVariants.{Still, Going, Acting}
use Rattle.ps_model.specs.declared.pieces.Slot.{Slot}
use Rattle.ps_model.specs.declared.pieces.Slot.TheVariants.{Bare, Holds}
use Rattle.ps_model.specs.board.Grid.{Grid}
use Rattle.ps_model.specs.board.Movement.{target, is_bare}

-- the cell, if its layer is bare
abbrev pub if_bare : Grid → ℕ → Option ℕ → Option ℕ
if_bare g layer None = None
if_bare g layer (Some to) = elim (is_bare g layer to) [ true ↦ Some to | false ↦ None ]

-- where the object on a layer of a cell can go at once
abbrev pub way : Grid → ℕ → ℕ → Option ℕ
way g layer cell = if_bare g layer (target g layer cell)

-- whether the motion of a slot's object is a direction
abbrev pub is_going : Slot → Bool
is_going Bare = false
is_going (Holds object Still) = false
is_going (Holds object (Going direction)) = true
is_going (Holds object Acting) = false

-- how many objects have a direction for motion
abbrev pub going_count : Grid → ℕ
going_count g = sum_by (count_by is_going) g.cells
