-- Objects that are nowhere on a board, and masks that fit nothing on a row.
use Rattle.std.proofs.Common.{◌≡◌, ◌∙◌, ℕ, ◌+◌, ◌*◌, ◌/◌, ◌%◌, ◌<◌, ◌≤◌, ◌&&◌, inl, inr, Bool, true, false, List, []}
use Rattle.std.proofs.Common.{length, sym, ap, arith}
use Rattle.std.specs.List.{list_any, list_all}
use Rattle.std.proofs.Math.Bool.{and-true}
use Rattle.std.proofs.lemmas.Bool.{cases_lt, and_parts}
use Rattle.std.proofs.lemmas.List.{get_or_past}
use Rattle.std.proofs.lemmas.Nat.{div_below, div-add-mod', mod_below}
use Rattle.std.specs.Prelude.{nat_lt, not, slice_get}
use Rattle.std.proofs.Math.Nat.{mul-le-mul_left}
use Rattle.std.proofs.lemmas.Option.{slice_get_within}
use Rattle.ps_model.specs.declared.pieces.Slot.{Slot}
use Rattle.ps_model.specs.declared.compiled.LayeredObject.{LayeredObject}
use Rattle.ps_model.specs.board.Grid.{Grid, cell_at}
use Rattle.ps_model.specs.meaning.Compiled.{CellMask, is_held_in, mask_fits, moves_as_asked}
use Rattle.ps_laws.proofs.common.SameThings.{is_number-true}
use Rattle.ps_board.specs.ColumnSets.{both_columns, column_at, no_columns, set_columns}
use Rattle.ps_match.specs.Nowhere.{IsNotOnRow, IsNowhere}
use Rattle.ps_model.specs.board.Movement.{is_number}
use Rattle.ps_rows.specs.RowIndex.{AreRowsMarked}
use Rattle.ps_rows.specs.RowTests.{IsRowOf, IsWithin, held, held_all}
use Rattle.ps_rows.specs.Showing.{cells_shown, grid_shown, AreObjectsShown}
use Rattle.ps_rows.proofs.Sets.{both_at, none_at}
use Rattle.ps_rows.proofs.Rests.{cells_long}
use Rattle.ps_rows.proofs.Scans.{other_row, own_row}
use Rattle.ps_model.specs.declared.limits.TheConstants.{SIDE_LIMIT}
use Rattle.ps_rows.specs.Planes.{row_of}
use Rattle.ps_board.proofs.ColumnLaws.{none_in}

-- no row has it
pub nowhere_by_rows : (table : List ℕ) (width height layers : ℕ) (words : List (List Bool)) (object : LayeredObject) →
    0 < height →
    ((row : ℕ) → row < height → IsRowOf (grid_shown table width height layers words) row no_columns (held object)) →
    IsNowhere (grid_shown table width height layers words) object
nowhere_by_rows table width height layers words object some rows = λ cell.
    let g : Grid = grid_shown table width height layers words in
    let long = cells_long table layers height words (width * height) in
    elim (cases_lt cell (width * height)) [
      | inl inside ↦
          let low : cell % height < height = mod_below cell height some in
          let across : cell / height < width = div_below cell height width some inside in
          ap (λ (n : ℕ). is_held_in (cell_at g n) object) (sym (div-add-mod' cell height))
          ∙ sym (rows (cell % height) low (cell / height) across) ∙ none_at (cell / height)
      | inr beyond ↦
          ap (λ (slots : List Slot). is_held_in slots object)
          (get_or_past (cells_shown table layers height words (width * height)) cell [] (rw long beyond))
    ]

-- a row that has it nowhere among its columns
pub not_on_row : (table : List ℕ) (width height layers : ℕ) (words : List (List Bool)) (row : ℕ)
    (object : LayeredObject) → IsRowOf (grid_shown table width height layers words) row no_columns (held object) →
    IsNotOnRow (grid_shown table width height layers words) object row
not_on_row table width height layers words row object rows = λ x.
    let long = cells_long table layers height words (width * height) in
    elim (cases_lt x width) [
      | inl across ↦ sym (rows x across) ∙ none_at x
      | inr far ↦
          let more : height * width ≤ height * x = mul-le-mul_left height far in
          let beyond : width * height ≤ x * height + row = omega arith in
          ap (λ (slots : List Slot). is_held_in slots object)
          (get_or_past (cells_shown table layers height words (width * height)) (x * height + row) []
          (rw long beyond))
    ]

-- a row that isn't marked
pub not_marked : (table : List ℕ) (width height layers : ℕ) (words index : List (List Bool)) (count row : ℕ)
    (object : LayeredObject) → 0 < height → width ≤ SIDE_LIMIT → row < height →
    AreObjectsShown table height words (width * height) → length table ≤ count →
    AreRowsMarked count height words index →
    (nat_lt (object.layer).0 layers && is_number (slice_get table (object.object).0) (object.layer).0) ≡ true →
    column_at (row_of index (object.object).0) row ≡ false →
    IsRowOf (grid_shown table width height layers words) row no_columns (held object)
not_marked table width height layers words index count row object some narrow under shown counted marked both clear =
    let layer : ℕ = (object.layer).0 in
    let parts = and_parts (nat_lt layer layers) (is_number (slice_get table (object.object).0) layer) both in
    let below : (object.object).0 < length table =
    slice_get_within table (object.object).0 layer (is_number-true (slice_get table (object.object).0) layer parts.1) in
    own_row table width height layers words row some narrow under object no_columns shown both
    (sym (marked (object.object).0 row (omega arith) under clear))

-- whether it is one of the objects of that layer or not
pub not_marked_there : (table : List ℕ) (width height layers : ℕ) (words index : List (List Bool)) (count row : ℕ)
    (object : LayeredObject) (own : Bool) → 0 < height → width ≤ SIDE_LIMIT → row < height →
    AreObjectsShown table height words (width * height) → length table ≤ count →
    AreRowsMarked count height words index →
    (nat_lt (object.layer).0 layers && is_number (slice_get table (object.object).0) (object.layer).0) ≡ own →
    ((object.object).0 < length table → column_at (row_of index (object.object).0) row ≡ false) →
    IsRowOf (grid_shown table width height layers words) row no_columns (held object)
not_marked_there table width height layers words index count row object true some narrow under shown counted marked is
    clear =
    let layer : ℕ = (object.layer).0 in
    let parts = and_parts (nat_lt layer layers) (is_number (slice_get table (object.object).0) layer) is in
    let below : (object.object).0 < length table =
    slice_get_within table (object.object).0 layer (is_number-true (slice_get table (object.object).0) layer parts.1) in
    not_marked table width height layers words index count row object some narrow under shown counted marked is
    (clear below)
not_marked_there table width height layers words index count row object false some narrow under shown counted marked is
    clear =
    other_row table width height layers words row some narrow under object is

-- one of some rows, none of which is marked
pub not_marked_of : (marked rows both : List Bool) (row : ℕ) → both ≡ both_columns marked rows →
    set_columns both ≡ [] → row < SIDE_LIMIT → column_at rows row ≡ true → column_at marked row ≡ false
not_marked_of marked rows both row is none low on =
    sym (and-true (column_at marked row)) ∙ ap (λ (b : Bool). column_at marked row && b) (sym on)
    ∙ sym (both_at marked rows row low) ∙ ap (λ (set : List Bool). column_at set row) (sym is)
    ∙ none_in both row none low

-- on a row where what a mask needs is nowhere, nothing fits it
pub mask_nowhere : (g : Grid) (row : ℕ) (needed : List Bool) (mask : CellMask) → g.width ≤ SIDE_LIMIT →
    set_columns needed ≡ [] → IsRowOf g row needed (held_all mask.needed) →
    IsRowOf g row no_columns (mask_fits mask)
mask_nowhere g row needed mask narrow none told = λ x h.
    let cell : List Slot = cell_at g (x * g.height + row) in
    let rest : Bool = not (list_any (is_held_in cell) mask.barred)
    && (list_all (λ objects. list_any (is_held_in cell) objects) mask.one_of && list_all (moves_as_asked cell)
    mask.motions) in
    none_at x ∙ sym (ap (λ (b : Bool). b && rest) (sym (told x h) ∙ none_in needed x none (omega (arith, h, narrow))))

pub none_within : (g : Grid) → IsWithin g no_columns
none_within g = λ x off low. none_at x
