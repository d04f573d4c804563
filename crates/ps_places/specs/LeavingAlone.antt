-- Places of a part that leave each other alone: cells of it that may lie on one cell of the board don't both change it,
-- and what one of them asks for stays where the other changes it.
use Rattle.std.specs.Prelude.{◌≡◌, ℕ, ◌+◌, ◌<◌, Bool, true, false, ◌&&◌, ◌||◌, not, if◌then◌else◌, Some, List, length}
use Rattle.std.specs.Prelude.{slice_get}
use Rattle.ps_model.specs.declared.limits.TheConstants.{SIDE_LIMIT}
use Rattle.ps_program.specs.declared.cells.CompiledCell.{CompiledCell}
use Rattle.ps_program.specs.declared.rows.Axis.{Axis}
use Rattle.ps_program.specs.declared.rows.Axis.TheVariants.{Down, Right}
use Rattle.ps_program.specs.CellsShown.{mask_shown, write_shown}
use Rattle.ps_program.specs.Keeping.{write_keeps}
use Rattle.ps_places.specs.PartStarts.{is_start}

-- the write of a cell keeps the mask of another
abbrev pub keeps_mask : CompiledCell → CompiledCell → Bool
keeps_mask writing asking = write_keeps (write_shown writing.write) (mask_shown asking.mask)

-- two cells of a rule leave each other alone on one cell of the board
abbrev pub leave_alone : CompiledCell → CompiledCell → Bool
leave_alone first second =
    if first.changes then not second.changes && keeps_mask first second else
    (not second.changes || keeps_mask second first)

-- so do all cells of a part that lie so many cells apart
pub record LieAlone (part : List CompiledCell) (distance : ℕ) : Type 0 where
  pub at : (k : ℕ) (first second : CompiledCell) → slice_get part k ≡ Some first →
      slice_get part (k + distance) ≡ Some second → leave_alone first second ≡ true

-- a place begins so many cells behind a column of a row of the board, along an axis
abbrev pub starts_behind : Axis → List Bool → List (List Bool) → ℕ → ℕ → ℕ → Bool
starts_behind Down rows starts distance row x = is_start rows starts (row + distance) x
starts_behind Right rows starts distance row x = is_start rows starts row (x + distance)

-- no two places begin so many cells apart
pub record AreNotApart (axis : Axis) (rows : List Bool) (starts : List (List Bool)) (distance : ℕ) : Type 0 where
  pub at : (row x : ℕ) → row < SIDE_LIMIT → x < SIDE_LIMIT → is_start rows starts row x ≡ true →
      starts_behind axis rows starts distance row x ≡ false

-- places of a part that begin so many cells apart leave each other alone
pub record ApartLieAlone (axis : Axis) (part : List CompiledCell) (rows : List Bool) (starts : List (List Bool))
    (distance : ℕ) : Type 0 where
  pub at : (row x : ℕ) → row < SIDE_LIMIT → x < SIDE_LIMIT → is_start rows starts row x ≡ true →
      starts_behind axis rows starts distance row x ≡ true → LieAlone part distance

-- so do all places of a part that begin less than its length apart
pub record PlacesLieAlone (axis : Axis) (part : List CompiledCell) (rows : List Bool)
    (starts : List (List Bool)) : Type 0 where
  pub few : length part < SIDE_LIMIT
  pub each : (distance : ℕ) → 0 < distance → distance < length part → ApartLieAlone axis part rows starts distance
