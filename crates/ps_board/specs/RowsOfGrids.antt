-- Rows of a grid, layer by layer: the columns in which something holds of the slot there. No column beyond the width is
-- in such a set, since there the slot is bare.
use Rattle.std.specs.Prelude.{◌≡◌, ◌<◌, ℕ, ◌+◌, ◌*◌, Bool, false, not, List}
use Rattle.std.specs.List.{list_any}
use Rattle.ps_model.specs.declared.pieces.ObjectId.{ObjectId}
use Rattle.ps_model.specs.declared.pieces.Direction.{Direction}
use Rattle.ps_model.specs.declared.pieces.Motion.TheVariants.{Going, Still}
use Rattle.ps_model.specs.declared.pieces.Slot.{Slot}
use Rattle.ps_model.specs.board.Grid.{Grid, cell_at, motion_in, slot_at}
use Rattle.ps_model.specs.meaning.Compiled.{slot_holds}
use Rattle.ps_model.specs.meaning.Fitting.{same_motion}
use Rattle.ps_board.specs.ColumnSets.{column_at, columns_where}

-- the object of the slot is about to do something
abbrev pub is_moving : Slot → Bool
is_moving slot = not (same_motion Still (motion_in slot))

-- the object of the slot is about to go in a direction
abbrev pub goes_in : Direction → Slot → Bool
goes_in direction slot = same_motion (Going direction) (motion_in slot)

-- no object of a layer is about to go in a direction
abbrev pub NoneGoes : Grid → ℕ → Direction → Type 0
NoneGoes g layer direction =
    (cell : ℕ) → cell < g.width * g.height → goes_in direction (slot_at g cell layer) ≡ false

-- the columns of a row in which the slot of a layer passes a test
abbrev pub row_slots : (Slot → Bool) → Grid → ℕ → ℕ → List Bool
row_slots passes g layer row = columns_where (λ x. passes (slot_at g (x * g.height + row) layer))

-- the columns of a row in which the object of a layer is about to do something
abbrev pub row_movers : Grid → ℕ → ℕ → List Bool
row_movers g layer row = row_slots is_moving g layer row

-- the columns of a row in which an object stands on a layer
abbrev pub row_holders : Grid → ObjectId → ℕ → ℕ → List Bool
row_holders g object layer row = row_slots (slot_holds object) g layer row

-- on the rows whose numbers aren't in a set no object of a layer is about to do something
abbrev pub MoveOnlyOn : Grid → ℕ → List Bool → Type 0
MoveOnlyOn g layer rows =
    (row : ℕ) → row < g.height → column_at rows row ≡ false → (x : ℕ) → x < g.width →
    is_moving (slot_at g (x * g.height + row) layer) ≡ false

-- on the rows whose numbers aren't in a set no slot passes a test
abbrev pub PassOnlyOn : (Slot → Bool) → Grid → List Bool → Type 0
PassOnlyOn passes g rows =
    (row : ℕ) → row < g.height → column_at rows row ≡ false → (x : ℕ) → x < g.width →
    list_any passes (cell_at g (x * g.height + row)) ≡ false
