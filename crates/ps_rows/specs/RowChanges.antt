-- What becomes of a row of planes: columns are cleared in each of them, and then columns are set in one.
use Rattle.std.specs.Prelude.{◌≡◌, ◌<◌, ℕ, ◌+◌, ◌*◌, nat_eq, ◌&&◌, ◌||◌, not, if◌then◌else◌, Bool, true, false, Option}
use Rattle.std.specs.Prelude.{Some, None, List, length, slice_set}
use Rattle.std.specs.List.{list_any}
use Rattle.ps_model.specs.declared.pieces.Motion.{Motion}
use Rattle.ps_model.specs.declared.compiled.LayerWrite.{LayerWrite}
use Rattle.ps_model.specs.declared.compiled.ObjectWrite.{ObjectWrite}
use Rattle.ps_model.specs.declared.compiled.ObjectWrite.TheVariants.{Put, Leave, Clear}
use Rattle.ps_model.specs.board.Movement.{is_number}
use Rattle.ps_model.specs.declared.limits.TheConstants.{SIDE_LIMIT}
use Rattle.ps_board.specs.ColumnSets.{column_at, columns_without, either_columns, no_columns}
use Rattle.ps_rows.specs.Planes.{row_of}
use Rattle.ps_rows.specs.Showing.{motion_plane, motion_planes}
use Rattle.ps_rows.specs.declared.changes.RowChange.{RowChange}

-- a change of columns
abbrev pub Change : Type 0
Change = RowChange (List Bool)

-- the columns that a change sets in a plane
abbrev pub set_in : Change → ℕ → List Bool
set_in change plane = if is_number change.plane plane then change.set else no_columns

-- the columns of a plane's row behind a change
unfoldable pub word_after : Change → ℕ → List Bool → List Bool
word_after change plane word = either_columns (columns_without word change.cleared) (set_in change plane)

-- one of them, as it was before
abbrev pub bit_after : Change → ℕ → ℕ → Bool → Bool
bit_after change plane x before = (before && not (column_at change.cleared x)) ||
    (is_number change.plane plane && column_at change.set x)

-- the planes, of which one has its row changed
abbrev pub row_after : ℕ → ℕ → Change → List (List Bool) → ℕ → List (List Bool)
row_after height row change words plane = let place = plane * height + row in
    slice_set words place (word_after change plane (row_of words place))

-- the planes, of which each of these has its row changed
pub record AreRowsChanged (height row : ℕ) (change : Change) (words written : List (List Bool)) (planes : List ℕ) :
    Type 0 where
  pub long : length written ≡ length words
  pub there : (plane x : ℕ) → list_any (nat_eq plane) planes ≡ true → x < SIDE_LIMIT →
      column_at (row_of written (plane * height + row)) x ≡ bit_after change plane x
      (column_at (row_of words (plane * height + row)) x)
  pub elsewhere : (plane y : ℕ) → y < height → (y ≡ row → list_any (nat_eq plane) planes ≡ false) →
      row_of written (plane * height + y) ≡ row_of words (plane * height + y)

-- the planes, of which those of a layer's objects have their row changed, and those of its motions, from the first on
pub record IsLayerWritten (height row : ℕ) (words written : List (List Bool)) (planes : List ℕ) (objects : Change)
    (first : ℕ) (motions : Change) : Type 0 where
  pub long : length written ≡ length words
  pub objects_there : (plane x : ℕ) → list_any (nat_eq plane) planes ≡ true → x < SIDE_LIMIT →
      column_at (row_of written (plane * height + row)) x ≡ bit_after objects plane x
      (column_at (row_of words (plane * height + row)) x)
  pub motions_there : (plane x : ℕ) → list_any (nat_eq plane) (motion_planes first) ≡ true → x < SIDE_LIMIT →
      column_at (row_of written (plane * height + row)) x ≡ bit_after motions plane x
      (column_at (row_of words (plane * height + row)) x)
  pub elsewhere : (plane y : ℕ) → y < height → (y ≡ row → list_any (nat_eq plane) planes ≡ false) →
      (y ≡ row → list_any (nat_eq plane) (motion_planes first) ≡ false) →
      row_of written (plane * height + y) ≡ row_of words (plane * height + y)

-- the change leaves the row of a plane as it is
abbrev pub IsRowLeft : ℕ → ℕ → Change → List (List Bool) → ℕ → Type 0
IsRowLeft height row change words plane =
    let word = row_of words (plane * height + row) in (x : ℕ) → x < SIDE_LIMIT →
    bit_after change plane x (column_at word x) ≡ column_at word x

-- and that of each of these planes
abbrev pub AreRowsLeft : ℕ → ℕ → Change → List (List Bool) → List ℕ → Type 0
AreRowsLeft height row change words planes = (plane : ℕ) → list_any (nat_eq plane) planes ≡ true →
    IsRowLeft height row change words plane

-- the change that clears columns in each plane
abbrev pub clearing : List Bool → Change
clearing columns = record { cleared = columns; plane = None; set = no_columns }

-- the change of a layer's objects by its write, in columns some of which have lost their object
abbrev pub objects_by : ObjectWrite → List Bool → List Bool → Change
objects_by (Put object) columns freed = record { cleared = columns; plane = Some object.0; set = columns }
objects_by Leave columns freed = clearing freed
objects_by Clear columns freed = clearing columns

abbrev pub objects_change : Option LayerWrite → List Bool → List Bool → Change
objects_change None columns freed = clearing freed
objects_change (Some write) columns freed = objects_by write.object columns freed

-- the change of its motions, whose planes begin with the first; some columns keep an object
abbrev pub motions_by : ℕ → ObjectWrite → Option Motion → List Bool → List Bool → List Bool → Change
motions_by first (Put object) None columns freed kept = clearing freed
motions_by first (Put object) (Some motion) columns freed kept =
    record { cleared = columns; plane = motion_plane first motion; set = columns }
motions_by first Leave None columns freed kept = clearing freed
motions_by first Leave (Some motion) columns freed kept =
    record { cleared = columns; plane = motion_plane first motion; set = kept }
motions_by first Clear motion columns freed kept = clearing columns

abbrev pub motions_change : ℕ → Option LayerWrite → List Bool → List Bool → List Bool → Change
motions_change first None columns freed kept = clearing freed
motions_change first (Some write) columns freed kept = motions_by first write.object write.motion columns freed kept

-- a layer's write moves what stands there
abbrev pub moves_by : ObjectWrite → Option Motion → Bool
moves_by (Put object) motion = false
moves_by Leave None = false
moves_by Leave (Some motion) = true
moves_by Clear motion = false

abbrev pub moves_kept : Option LayerWrite → Bool
moves_kept None = false
moves_kept (Some write) = moves_by write.object write.motion
