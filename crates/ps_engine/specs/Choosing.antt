-- How the places of rows are chosen, each row with a room of its own.
use Rattle.std.specs.Prelude.{◌≡◌, ℕ, ◌<◌, ◌≤◌, Bool, true, fold, Option, Some, List, [], ◌∷◌, length, map, slice_get}
use Rattle.ps_model.specs.board.Grid.{Grid}
use Rattle.ps_model.specs.board.Attempts.{Rewritten, applied}
use Rattle.ps_model.specs.board.Places.{places}
use Rattle.ps_model.specs.meaning.RuleMeanings.{CellMeaning}
use Rattle.ps_program.specs.Axes.{direction_of}
use Rattle.ps_program.specs.declared.rows.CompiledRow.{CompiledRow}
use Rattle.ps_places.specs.Scratch.{Scratch}
use Rattle.ps_places.specs.Forgetting.{HaveForgotten, IsAmong}
use Rattle.ps_places.specs.RowPlaces.{all_places, place_at, place_fits, places_behind, row_meaning}
use Rattle.ps_places.specs.Spaced.{HasSpacedWay}
use Rattle.ps_places.specs.Starts.{HasLinesOf, HaveSameStarts, IsOnLine}
use Rattle.ps_places.specs.Ways.{from_first}

-- what rows mean on a board with that table
abbrev pub rows_meaning : Option (List ℕ) → List CompiledRow → List (List (List CellMeaning))
rows_meaning table rows = map (row_meaning table) rows

-- the places of a row on a board with that table
abbrev pub row_places : Grid → Option (List ℕ) → CompiledRow → List (List ℕ)
row_places g table row = places g (direction_of row.axis) (row_meaning table row)

-- something holds of each of the rows with such a number and its room
abbrev pub OfEach : (ℕ → Type 0) → List CompiledRow → List Scratch → (CompiledRow → Scratch → Type 0) → Type 0
OfEach Such rows scratch holds = (k : ℕ) (row : CompiledRow) (row_scratch : Scratch) → Such k → slice_get rows k ≡ Some row →
    slice_get scratch k ≡ Some row_scratch → holds row row_scratch

-- the lines of rows' scratch are those of the board
abbrev pub HaveLinesOf : Grid → List CompiledRow → List Scratch → Type 0
HaveLinesOf g rows scratch = OfEach (λ k. 0 ≤ k) rows scratch (HasLinesOf g)

-- the place that is chosen for a row is on a line of the board, each of its parts behind the one before; so for each
-- row
pub record IsPlaced (g : Grid) (row : CompiledRow) (row_scratch : Scratch) : Type 0 where
  pub on_line : IsOnLine g row row_scratch
  pub spaced : HasSpacedWay row row_scratch

abbrev pub ArePlaced : Grid → List CompiledRow → List Scratch → Type 0
ArePlaced g rows scratch = OfEach (λ k. 0 ≤ k) rows scratch (IsPlaced g)

-- a row fits at its place
abbrev pub FitsThere : Grid → Option (List ℕ) → CompiledRow → Scratch → Type 0
FitsThere g table row row_scratch = place_fits g table row.parts (place_at g.height row row_scratch) ≡ true

-- the rows from one on fit at their places
abbrev pub FitFrom : Grid → Option (List ℕ) → List CompiledRow → List Scratch → ℕ → Type 0
FitFrom g table rows scratch from = OfEach (λ k. from ≤ k) rows scratch (FitsThere g table)

-- the first of some places at which a row fits is chosen for it
pub record IsChosenOf (g : Grid) (table : Option (List ℕ)) (row : CompiledRow) (places : List (List ℕ))
    (row_scratch : Scratch) : Type 0 where
  pub found : from_first (place_fits g table row.parts) places ≡ place_at g.height row row_scratch
      ∷ places_behind g.height row row_scratch
  pub place : IsPlaced g row row_scratch
  pub among : IsAmong row row_scratch

-- of the first so many rows each starts again at its first place at which it fits
abbrev pub AreStarted : Grid → Option (List ℕ) → List CompiledRow → List Scratch → ℕ → Type 0
AreStarted g table rows scratch count =
    OfEach (λ k. k < count) rows scratch (λ row row_scratch. IsChosenOf g table row (all_places g.height row row_scratch) row_scratch)

-- one of the first so many rows fits at none of its places
pub record LacksPlace (g : Grid) (table : Option (List ℕ)) (rows : List CompiledRow) (scratch : List Scratch)
    (count : ℕ) : Type 0 where
  pub number : ℕ
  pub low : number < count
  pub row : CompiledRow
  pub row_scratch : Scratch
  pub row_is : slice_get rows number ≡ Some row
  pub room_is : slice_get scratch number ≡ Some row_scratch
  pub none : from_first (place_fits g table row.parts) (all_places g.height row row_scratch) ≡ []

-- the scratch have the same starts, whatever places are chosen
pub record HaveStartsOf (old new : List Scratch) : Type 0 where
  pub long : length new ≡ length old
  pub each : (k : ℕ) (before after : Scratch) → slice_get old k ≡ Some before → slice_get new k ≡ Some after →
      HaveSameStarts before after

-- the scratch from one on are as they were
abbrev pub AreLeft : List Scratch → List Scratch → ℕ → Type 0
AreLeft old new from = (k : ℕ) → from ≤ k → slice_get new k ≡ slice_get old k

-- the places of the first so many rows that are chosen are among theirs
abbrev pub AreAmong : List CompiledRow → List Scratch → ℕ → Type 0
AreAmong rows scratch count = OfEach (λ k. k < count) rows scratch IsAmong

-- places of rows are forgotten, or none are
pub record AreForgotten (rows : List CompiledRow) (old new : List Scratch) : Type 0 where
  pub long : length new ≡ length old
  pub each : (k height : ℕ) (row : CompiledRow) (before after : Scratch) → slice_get rows k ≡ Some row →
      slice_get old k ≡ Some before → slice_get new k ≡ Some after → HaveForgotten height row before after

-- combinations applied one after the other come to the same as others, on that grid
abbrev pub ComeToSame : Grid → List (List (List CellMeaning)) → List (List (List ℕ)) → List (List (List ℕ)) → Type 0
ComeToSame g meant places others =
    (changed : Bool) →
    (let now : Rewritten = record { grid = g; changed = changed } in fold (applied meant) now places)
    ≡ (let now : Rewritten = record { grid = g; changed = changed } in fold (applied meant) now others)
