-- A movement under way. One layer is taken after the other, the lowest first. On a layer those go first who can go to a
-- cell that was bare from the start. A cell that an object left is entered before anything else is looked at.
use Rattle.std.specs.Prelude.{◌≡◌, ℕ, ◌+◌, ◌<◌, ◌≤◌, ◌⊎◌, true, false, Option, Some, length, count_by, slice_index_or}
use Rattle.ps_model.specs.declared.pieces.Slot.TheVariants.{Bare}
use Rattle.ps_model.specs.board.Grid.{Grid, slot_at}
use Rattle.ps_model.specs.board.Movement.{is_bare, winner, slides_within}
use Rattle.ps_move.specs.Visits.{way, is_going}
use Rattle.ps_move.specs.Midway.{IsMidway}

-- how many objects of a layer have a direction for motion
abbrev pub going_on : Grid → ℕ → ℕ
going_on g layer = count_by (λ cell. is_going (slice_index_or cell layer Bare)) g.cells

-- the object of a cell won its target, and a chain leads from it to a bare cell. Its links, and the objects of the
-- layer that still have a direction for motion, are together no more than the cells
pub record HasWon (before now : Grid) (layer from : ℕ) : Type 0 where
  pub to : ℕ
  pub wins : winner before layer to ≡ Some from
  pub links : ℕ
  pub few : links + going_on now layer ≤ length now.cells
  pub chain : slides_within before layer links from ≡ true

-- a movement that has come to a layer; one cell of it may have been left that none has entered yet, the hole; each
-- object that went had won its target; what can go now goes to a cell that was bare from the start, or to the hole. No
-- object of the layers below can go, and those above are as they were
pub record IsInOrder (before now : Grid) (layer : ℕ) (hole : Option ℕ) : Type 0 where
  pub midway : IsMidway before now
  pub won : (l from : ℕ) → midway.goes l from ≡ true → HasWon before now l from
  pub ways : (from to : ℕ) → way now layer from ≡ Some to → (is_bare before layer to ≡ true) ⊎ (hole ≡ Some to)
  pub left : (cell : ℕ) → hole ≡ Some cell → is_bare before layer cell ≡ false
  pub below : (l from to : ℕ) → l < layer → way now l from ≡ Some to → ⊥
  pub above : (l cell : ℕ) → layer < l → slot_at now cell l ≡ slot_at before cell l
