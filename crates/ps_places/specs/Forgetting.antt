-- Places of a row that are forgotten: some of those before the one that is chosen.
use Rattle.std.specs.Prelude.{◌≡◌, ℕ, ◌<◌, ◌≤◌, true, List, ◌∷◌, ◌++◌, Bool, filter, length, slice_index_or}
use Rattle.ps_model.specs.declared.limits.TheConstants.{SIDE_LIMIT}
use Rattle.ps_board.specs.ColumnSets.{column_at}
use Rattle.ps_program.specs.declared.cells.CompiledCell.{CompiledCell}
use Rattle.ps_program.specs.declared.rows.CompiledRow.{CompiledRow}
use Rattle.ps_places.specs.Scratch.{Scratch}
use Rattle.ps_places.specs.RowPlaces.{all_places, part_sizes, place_at, places_behind, sets_on, way_of}
use Rattle.ps_places.specs.Ways.{from_first, ways_behind, ways_from}

-- the position of the first part in a way
abbrev pub first_position : List ℕ → ℕ
first_position way = slice_index_or way 0 0

-- a way is one of those from its first position on, and those behind it are the rest of them
pub record IsWayOf (sets : List (List Bool)) (sizes : List ℕ) (way : List ℕ) : Type 0 where
  pub before : List (List ℕ)
  pub whole : ways_from sets sizes (first_position way) ≡ before ++ (way ∷ ways_behind sets sizes way)

-- so for a way on a line, and the line is one of some lines
pub record IsPlaceOf (lines : List Bool) (starts : List (List Bool)) (parts : List (List CompiledCell)) (line : ℕ)
    (way : List ℕ) : Type 0 where
  pub low : line < SIDE_LIMIT
  pub on : column_at lines line ≡ true
  pub among : IsWayOf (sets_on starts (length parts) line) (part_sizes parts) way

-- the place that is chosen for a row is one of its places
abbrev pub IsAmong : CompiledRow → Scratch → Type 0
IsAmong row scratch = IsPlaceOf scratch.lines scratch.starts.items row.parts scratch.line (way_of row scratch)

-- places are forgotten: the same one is chosen, and the same ones are behind it. Those that are left are the same for
-- each kind of which the one that is chosen is the first.
pub record HaveForgotten (height : ℕ) (row : CompiledRow) (old new : Scratch) : Type 0 where
  pub at : place_at height row new ≡ place_at height row old
  pub later : places_behind height row new ≡ places_behind height row old
  pub line : new.line ≡ old.line
  pub way : new.way ≡ old.way
  pub lines : (line : ℕ) → column_at new.lines line ≡ true → column_at old.lines line ≡ true
  pub fewer : length (all_places height row new) ≤ length (all_places height row old)
  pub fitting : (fits : List ℕ → Bool) →
      from_first fits (all_places height row old) ≡ place_at height row old ∷ places_behind height row old →
      filter fits (all_places height row new) ≡ filter fits (all_places height row old)
