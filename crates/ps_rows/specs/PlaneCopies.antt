-- Planes that were copied, or cleared.
use Rattle.std.specs.Prelude.{◌≡◌, ◌≢◌, ◌<◌, ◌≤◌, ℕ, ◌+◌, ◌*◌, Bool, true, false, List}
use Rattle.ps_board.specs.ColumnSets.{both_columns, column_at, columns_without, either_columns}
use Rattle.ps_rows.specs.Planes.{row_of}

-- behind a change the planes from the first up to the end are those of a source, and all others are what they were;
-- those of no rows have no columns
pub record ArePlanesOf (height first end : ℕ) (source before after : List (List Bool)) : Type 0 where
  pub below : (plane row : ℕ) → row < height → plane < first →
      row_of after (plane * height + row) ≡ row_of before (plane * height + row)
  pub behind : (plane row : ℕ) → row < height → end ≤ plane →
      row_of after (plane * height + row) ≡ row_of before (plane * height + row)
  pub copied : (plane row : ℕ) → row < height → first ≤ plane → plane < end →
      row_of after (plane * height + row) ≡ row_of source (plane * height + row)

-- behind a change the sets from the first up to the end are those of a source, and all others are what they were
pub record AreCopied (first end : ℕ) (source before after : List (List Bool)) : Type 0 where
  pub below : (place : ℕ) → place < first → row_of after place ≡ row_of before place
  pub behind : (place : ℕ) → end ≤ place → row_of after place ≡ row_of before place
  pub copied : (place : ℕ) → first ≤ place → place < end → row_of after place ≡ row_of source place

-- behind a change those rows of the planes from the first up to the end that are in a set are a source's, and all
-- others are what they were
pub record AreRowsOf (height first end : ℕ) (rows : List Bool) (source before after : List (List Bool)) : Type 0 where
  pub below : (plane row : ℕ) → row < height → plane < first →
      row_of after (plane * height + row) ≡ row_of before (plane * height + row)
  pub behind : (plane row : ℕ) → row < height → end ≤ plane →
      row_of after (plane * height + row) ≡ row_of before (plane * height + row)
  pub copied : (plane row : ℕ) → row < height → first ≤ plane → plane < end → column_at rows row ≡ true →
      row_of after (plane * height + row) ≡ row_of source (plane * height + row)
  pub left : (plane row : ℕ) → row < height → column_at rows row ≡ false →
      row_of after (plane * height + row) ≡ row_of before (plane * height + row)

-- behind a change a row of the planes up to the end is a source's, and all others are what they were
pub record IsRowCopied (height end row : ℕ) (source before after : List (List Bool)) : Type 0 where
  pub copied : (plane : ℕ) → plane < end →
      row_of after (plane * height + row) ≡ row_of source (plane * height + row)
  pub behind : (plane : ℕ) → end ≤ plane →
      row_of after (plane * height + row) ≡ row_of before (plane * height + row)
  pub left : (plane other : ℕ) → other < height → other ≢ row →
      row_of after (plane * height + other) ≡ row_of before (plane * height + other)

-- behind a change the marks that planes up to the end have of some rows are a source's, and all others are what they
-- were
pub record AreMarksTaken (end : ℕ) (rows : List Bool) (source before after : List (List Bool)) : Type 0 where
  pub taken : (plane : ℕ) → plane < end →
      row_of after plane ≡ either_columns (columns_without (row_of before plane) rows)
      (both_columns (row_of source plane) rows)
  pub behind : (plane : ℕ) → end ≤ plane → row_of after plane ≡ row_of before plane
