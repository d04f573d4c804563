-- Columns in which a row is the same in the planes of all objects show the same objects.
use Rattle.std.proofs.Common.{◌≡◌, ℕ, ◌+◌, ◌*◌, ◌<◌, ◌≤◌, true, false, List, [], length, map, sym}
use Rattle.std.proofs.Common.{ap, ◌∙◌, arith, Bool, not, ap₂, ◌&&◌}
use Rattle.std.specs.Prelude.{option_map}
use Rattle.std.specs.List.{range_with_len}
use Rattle.std.proofs.lemmas.Bool.{and_parts, not-true}
use Rattle.std.proofs.lemmas.Nat.{mul-add-lt}
use Rattle.std.proofs.lemmas.Option.{slice_get_within}
use Rattle.std.proofs.lemmas.Simd.{map-map}
use Rattle.ps_model.specs.board.Grid.{cell_at, object_in}
use Rattle.ps_board.specs.ColumnSets.{column_at, columns_below, columns_without}
use Rattle.ps_board.specs.Rows.{AreAlike, DifferOnlyIn}
use Rattle.ps_board.proofs.LayerObjects.{objects_by_layer}
use Rattle.ps_rows.specs.Planes.{has_cell, row_of}
use Rattle.ps_rows.specs.Members.{on_layer}
use Rattle.ps_rows.specs.Showing.{numbered, object_shown, motion_shown, slot_shown, cell_shown, cells_shown, grid_shown}
use Rattle.ps_rows.specs.Sameness.{HasDifferences, HasUnlikeOf}
use Rattle.ps_rows.proofs.Alike.{column_read}
use Rattle.ps_rows.proofs.Listed.{find_same}
use Rattle.ps_rows.proofs.Rests.{object_of_slot}
use Rattle.ps_rows.proofs.Sets.{wide_on, without_at}
use Rattle.ps_rows.proofs.MemberRanges.{listed_member}
use Rattle.ps_rows.proofs.Tables.{tabled_at, tabled_same}
use Rattle.ps_model.specs.declared.limits.TheConstants.{SIDE_LIMIT}

-- two cells of a row, each of a board, have the same objects where each object's plane has both or neither
same_shown : (table : List ℕ) (height : ℕ) (first second : List (List Bool)) (row x y : ℕ) → row < height →
    ((o : ℕ) → o < length table → column_at (row_of first (o * height + row)) x ≡ column_at
    (row_of second (o * height + row)) y) → (layer : ℕ) →
    object_shown table height first (x * height + row) layer ≡ object_shown table height second (y * height + row) layer
unfolding object_shown
same_shown table height first second row x y under same layer =
    find_same (has_cell height first (x * height + row)) (has_cell height second (y * height + row))
    (on_layer table layer)
    (λ o listed.
    let below : o < length table = slice_get_within table o layer (listed_member table layer o listed) in
    sym (column_read height first row o x under) ∙ same o below ∙ column_read height second row o y under)

pub object_of_shown : (table : List ℕ) (height : ℕ) (words : List (List Bool)) (cell layer : ℕ) →
    object_in (slot_shown table height words cell layer) ≡ option_map numbered
    (object_shown table height words cell layer)
unfolding slot_shown
object_of_shown table height words cell layer =
    object_of_slot (object_shown table height words cell layer) (motion_shown table height words cell layer)

same_objects : (table : List ℕ) (height : ℕ) (first second : List (List Bool)) (cell other : ℕ) →
    ((layer : ℕ) → object_shown table height first cell layer ≡ object_shown table height second other layer) →
    (n : ℕ) →
    map object_in (map (slot_shown table height first cell) (range_with_len 0 n)) ≡ map object_in
    (map (slot_shown table height second other) (range_with_len 0 n))
same_objects table height first second cell other same n =
    map-map object_in (slot_shown table height first cell) (range_with_len 0 n)
    ∙ tabled_same (λ layer. object_in (slot_shown table height first cell layer)) (λ layer.
    object_in (slot_shown table height second other layer)) n
    (λ layer below.
    object_of_shown table height first cell layer ∙ ap (option_map numbered) (same layer)
    ∙ sym (object_of_shown table height second other layer))
    ∙ sym (map-map object_in (slot_shown table height second other) (range_with_len 0 n))

cells_same : (table : List ℕ) (width height layers : ℕ) (first second : List (List Bool)) (row x y : ℕ) →
    row < height → x < width → y < width →
    ((o : ℕ) → o < length table → column_at (row_of first (o * height + row)) x ≡ column_at
    (row_of second (o * height + row)) y) →
    map object_in (cell_at (grid_shown table width height layers first) (x * height + row)) ≡ map object_in
    (cell_at (grid_shown table width height layers second) (y * height + row))
unfolding cells_shown cell_shown
cells_same table width height layers first second row x y under across over same =
    let place : x * height + row < height * width = mul-add-lt x height row width across under in
    let there : y * height + row < height * width = mul-add-lt y height row width over under in
    let inside : x * height + row < width * height = omega arith in
    let within : y * height + row < width * height = omega arith in
    ap (map object_in) (tabled_at (cell_shown table layers height first) (width * height) (x * height + row) [] inside)
    ∙ same_objects table height first second (x * height + row) (y * height + row)
    (same_shown table height first second row x y under same) layers
    ∙ sym (ap (map object_in) (tabled_at (cell_shown table layers height second) (width * height) (y * height + row) []
    within))

pub others_same : (table : List ℕ) (width height layers : ℕ) (first second : List (List Bool)) (row : ℕ)
    (word : List Bool) → row < height → width ≤ SIDE_LIMIT →
    HasDifferences height row (length table) first second word →
    DifferOnlyIn word (grid_shown table width height layers first) (grid_shown table width height layers second) row
others_same table width height layers first second row word under narrow same = λ column h none.
    cells_same table width height layers first second row column column under h h
    (λ o below. same o column below (omega (arith, h, narrow)) none)

-- a column is among those of a board that aren't unlike it, and any other there shows what it shows
pub itself_alike : (width : ℕ) (all unlike : List Bool) (column : ℕ) → column < width → width ≤ SIDE_LIMIT →
    all ≡ columns_below width →
    column_at unlike column ≡ false → column_at (columns_without all unlike) column ≡ true
itself_alike width all unlike column across narrow is none =
    without_at all unlike column (omega (arith, across, narrow))
    ∙ ap₂ (λ (a b : Bool). a && not b) (wide_on all width narrow is column across) none

like_column : (all unlike : List Bool) (x : ℕ) → x < SIDE_LIMIT → column_at (columns_without all unlike) x ≡ true →
    column_at unlike x ≡ false
like_column all unlike x low has =
    let parts = and_parts (column_at all x) (not (column_at unlike x)) (sym (without_at all unlike x low) ∙ has) in
    not-true (column_at unlike x) parts.1

pub columns_alike : (table : List ℕ) (width height layers : ℕ) (words : List (List Bool)) (row column : ℕ)
    (all unlike : List Bool) → row < height → column < width → width ≤ SIDE_LIMIT →
    all ≡ columns_below width → HasUnlikeOf height row (length table) words all column unlike →
    AreAlike (columns_without all unlike) (grid_shown table width height layers words) row column
columns_alike table width height layers words row column all unlike under over narrow is told = λ x across has.
    let low : x < SIDE_LIMIT = omega (arith, across, narrow) in
    objects_by_layer (cell_at (grid_shown table width height layers words) (x * height + row))
    (cell_at (grid_shown table width height layers words) (column * height + row))
    (cells_same table width height layers words words row x column under across over
    (λ o below. told.1 o x below low (wide_on all width narrow is x across) (like_column all unlike x low has)))
