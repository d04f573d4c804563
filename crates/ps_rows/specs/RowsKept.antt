-- Rows of a grid, a set of columns for each from a first row on, of which columns are kept whose cells pass a test.
use Rattle.std.specs.Prelude.{◌≡◌, ℕ, ◌+◌, ◌<◌, Bool, not, List, [], length, slice_index_or}
use Rattle.ps_model.specs.declared.compiled.LayeredObject.{LayeredObject}
use Rattle.ps_model.specs.declared.pieces.Slot.{Slot}
use Rattle.ps_model.specs.board.Grid.{Grid}
use Rattle.ps_board.specs.ColumnSets.{both_columns, columns_without}
use Rattle.ps_rows.specs.Planes.{IsSet}
use Rattle.ps_rows.specs.RowTests.{IsPartOf, IsWithin, held, held_any}

-- of a row's columns those are kept whose cells pass, and none is added beyond the grid
pub record IsKept (g : Grid) (row : ℕ) (columns kept : List Bool) (test : List Slot → Bool) : Type 0 where
  pub part : IsPartOf g row columns kept test
  pub within : IsWithin g columns → IsWithin g kept
  pub set : IsSet columns → IsSet kept

-- so of each row
pub record AreKept (g : Grid) (first : ℕ) (old new : List (List Bool)) (test : List Slot → Bool) : Type 0 where
  pub long : length new ≡ length old
  pub each : (k : ℕ) → k < length old →
      IsKept g (first + k) (slice_index_or old k []) (slice_index_or new k []) test

-- what the sets become, set by set
abbrev pub AreBoth : List (List Bool) → List (List Bool) → List (List Bool) → Type 0
AreBoth old words new = (k : ℕ) → k < length old →
    slice_index_or new k [] ≡ both_columns (slice_index_or old k []) (slice_index_or words k [])

abbrev pub AreWithout : List (List Bool) → List (List Bool) → List (List Bool) → Type 0
AreWithout old words new = (k : ℕ) → k < length old →
    slice_index_or new k [] ≡ columns_without (slice_index_or old k []) (slice_index_or words k [])

-- an object doesn't stand there, or none of some
abbrev pub is_away : LayeredObject → List Slot → Bool
is_away sought cell = not (held sought cell)

abbrev pub are_away : List LayeredObject → List Slot → Bool
are_away objects cell = not (held_any objects cell)
