-- Rows on which the planes of all objects are the same on two boards.
use Rattle.std.proofs.Common.{◌≡◌, ◌∙◌, ℕ, ◌+◌, ◌*◌, ◌<◌, ◌≤◌, inl, inr, Bool, false, not, List, length, sym, ap, subst}
use Rattle.std.proofs.Common.{arith, true, []}
use Rattle.std.proofs.lemmas.Bool.{cases_eq, not-false, or_parts}
use Rattle.ps_board.specs.ColumnSets.{column_at, either_columns, no_columns, set_columns, unlike_columns, with_column}
use Rattle.ps_board.specs.Rows.{DifferOnlyOn}
use Rattle.ps_board.proofs.ColumnLaws.{none_in, with_here, with_other}
use Rattle.ps_rows.specs.RowIndex.{AreRowsMarked}
use Rattle.ps_rows.specs.Showing.{grid_shown}
use Rattle.ps_rows.specs.Sameness.{DifferOnlyOnRows}
use Rattle.ps_rows.proofs.Sets.{either_at, none_at, same_by_unlike, same_set}
use Rattle.ps_rows.proofs.Marked.{plane_indexed}
use Rattle.ps_rows.proofs.SameRows.{others_same}
use Rattle.ps_model.specs.declared.limits.TheConstants.{SIDE_LIMIT}
use Rattle.ps_rows.specs.Planes.{IsSet, row_of}

-- a row of a plane that isn't marked on either board
pub row_unmarked : (count count' height height' plane long long' row : ℕ)
    (first second index index' : List (List Bool)) → 0 < height → height ≤ SIDE_LIMIT → height' ≡ height →
    long ≡ count * height → long' ≡ count' * height' →
    (plane + 1) * height ≤ long → (plane + 1) * height ≤ long' → AreRowsMarked count height first index →
    AreRowsMarked count' height' second index' →
    column_at (either_columns (row_of index plane) (row_of index' plane)) row ≡ false → row < height →
    row_of first (plane * height + row) ≡ row_of second (plane * height + row)
row_unmarked count count' height height' plane long long' row first second index index' some short high whole whole'
    here there marked marked' none under =
    let counted : plane < count = plane_indexed count height plane long some whole here in
    let counted' : plane < count' = plane_indexed count' height plane long' some (whole'
    ∙ ap (λ (h : ℕ). count' * h) high) there in
    let Marked : ℕ → Type 0 = λ h. AreRowsMarked count' h second index' in
    let also : AreRowsMarked count' height second index' = subst Marked high marked' in
    let parts =
    or_parts (column_at (row_of index plane) row) (column_at (row_of index' plane) row)
    (sym (either_at (row_of index plane) (row_of index' plane) row (omega (arith, under, short))) ∙ none) in
    marked plane row counted under parts.0 ∙ sym (also plane row counted' under parts.1)

-- a plane that has no marked row on either board
pub neither_marked : (count count' height height' plane long long' : ℕ) (first second index index' : List (List Bool))
    → 0 < height → height ≤ SIDE_LIMIT → height' ≡ height → long ≡ count * height → long' ≡ count' * height' →
    (plane + 1) * height ≤ long → (plane + 1) * height ≤ long' → AreRowsMarked count height first index →
    AreRowsMarked count' height' second index' →
    set_columns (either_columns (row_of index plane) (row_of index' plane)) ≡ [] →
    DifferOnlyOnRows height plane first second no_columns
neither_marked count count' height height' plane long long' first second index index' some short high whole whole' here
    there marked marked' none = λ row under clear.
    row_unmarked count count' height height' plane long long' row first second index index' some short high whole
    whole' here there marked marked'
    (none_in (either_columns (row_of index plane) (row_of index' plane)) row none (omega (arith, under, short))) under

-- a row is compared: it is taken out of the set where it is the same
pub row_compared : (height plane row : ℕ) (rows unlike : List Bool) (empty : Bool) (first second : List (List Bool)) →
    row < height → height ≤ SIDE_LIMIT →
    IsSet (row_of first (plane * height + row)) → IsSet (row_of second (plane * height + row)) →
    unlike ≡ unlike_columns (row_of first (plane * height + row)) (row_of second (plane * height + row)) →
    (empty ≡ true → set_columns unlike ≡ []) →
    DifferOnlyOnRows height plane first second rows →
    DifferOnlyOnRows height plane first second (with_column rows row (not empty))
row_compared height plane row rows unlike empty first second under short here there is told before = λ y below none.
    let mine : List Bool = row_of first (plane * height + row) in
    let other : List Bool = row_of second (plane * height + row) in
    elim (cases_eq y row) [
      | inl e ↦
          let silent : not empty ≡ false = sym (with_here rows row (not empty) (omega (arith, under, short)))
          ∙ ap (column_at (with_column rows row (not empty))) (sym e) ∙ none in
          let nothing : set_columns (unlike_columns mine other) ≡ [] = ap set_columns (sym is)
          ∙ told (not-false empty silent) in
          rw e (same_set mine other here there (same_by_unlike mine other nothing))
      | inr n ↦ before y below (sym (with_other rows row y (not empty) (omega (arith, below, short)) n) ∙ none)
    ]

-- one plane more is compared
pub one_plane_compared : (height plane : ℕ) (rows more : List Bool) (first second : List (List Bool)) →
    height ≤ SIDE_LIMIT → ((each : ℕ) → each < plane → DifferOnlyOnRows height each first second rows) →
    DifferOnlyOnRows height plane first second more → (each : ℕ) → each < plane + 1 →
    DifferOnlyOnRows height each first second (either_columns rows more)
one_plane_compared height plane rows more first second short before here each below row under none =
    let parts = or_parts (column_at rows row) (column_at more row)
    (sym (either_at rows more row (omega (arith, under, short))) ∙ none) in
    elim (cases_eq each plane) [
      | inl e ↦ rw e (here row under parts.1)
      | inr n ↦ before each (omega arith) row under parts.0
    ]

-- the rows outside of the set show the same objects
pub rows_alike : (table : List ℕ) (width height layers : ℕ) (first second : List (List Bool)) (rows : List Bool) →
    width ≤ SIDE_LIMIT →
    ((plane : ℕ) → plane < length table → DifferOnlyOnRows height plane first second rows) →
    DifferOnlyOn rows (grid_shown table width height layers first) (grid_shown table width height layers second)
rows_alike table width height layers first second rows narrow each = λ row under none column across.
    others_same table width height layers first second row no_columns under narrow
    (λ plane x below low off. ap (λ (word : List Bool). column_at word x) (each plane below row under none)) column
    across (none_at column)
