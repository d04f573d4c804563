-- Two boards of the same size for the same game show the same where their planes have the same cells.
use Rattle.std.proofs.Common.{◌≡◌, ℕ, ◌+◌, ◌*◌, ◌/◌, ◌%◌, ◌<◌, ◌≤◌, inl, inr, Bool, true, false, ◌&&◌, Option}
use Rattle.std.proofs.Common.{Some, None, List, [], get_or, length, refl, sym, ap, ◌∙◌, arith}
use Rattle.std.proofs.Math.Nat.{mul-le-mul_left}
use Rattle.std.specs.Prelude.{nat_eq, slice_get, option_map}
use Rattle.std.specs.List.{list_any}
use Rattle.std.proofs.lemmas.Bool.{cases_eq, cases_lt, cases_Bool, false≢true, lt-ltb, le-ltb}
use Rattle.std.proofs.lemmas.Nat.{mul-add-lt, div-mul-add, mod-mul-add, mod_below, div_below}
use Rattle.std.proofs.Math.Bool.{and-true, and-false}
use Rattle.ps_model.specs.declared.pieces.ObjectId.{ObjectId}
use Rattle.ps_model.specs.declared.pieces.Direction.TheVariants.{Up, Down, Left, Right}
use Rattle.ps_model.specs.declared.pieces.Motion.{Motion}
use Rattle.ps_model.specs.declared.pieces.Motion.TheVariants.{Going, Acting}
use Rattle.ps_model.specs.declared.pieces.Slot.{Slot}
use Rattle.ps_model.specs.declared.pieces.Slot.TheVariants.{Bare}
use Rattle.ps_model.specs.board.Grid.{motion_in, object_in, slot_of}
use Rattle.ps_model.specs.board.Movement.{is_number}
use Rattle.ps_model.specs.board.Turns.{same_cells}
use Rattle.ps_model.specs.meaning.Fitting.{same_motion}
use Rattle.ps_laws.proofs.common.SameThings.{same_cells-own, same_cells-true}
use Rattle.ps_rows.specs.Planes.{AreSameFrom, has_cell, row_of}
use Rattle.ps_rows.specs.Members.{on_layer}
use Rattle.ps_rows.specs.Showing.{numbered, motions_from, motion_plane, motion_planes, object_shown, motion_shown}
use Rattle.ps_rows.specs.Showing.{slot_shown, cell_shown, cells_shown, AreObjectsShown, AreMotionsShown}
use Rattle.ps_rows.specs.Sameness.{AreSameRows, IsSamePlane, AreSamePlanes, IsSameLayer}
use Rattle.ps_rows.proofs.Sets.{alike_at, both_at, not_unlike}
use Rattle.ps_rows.proofs.Listed.{find_same}
use Rattle.ps_rows.proofs.MemberRanges.{listed_member}
use Rattle.ps_rows.proofs.Moves.{five_true, five_false, five_high, first_motion-same}
use Rattle.ps_rows.proofs.Rests.{slot_read}
use Rattle.ps_rows.proofs.Tables.{tabled_same}
use Rattle.ps_board.proofs.ColumnLaws.{below_at, none_in}
use Rattle.ps_board.specs.ColumnSets.{both_columns, column_at, columns_below, set_columns, unlike_columns}
use Rattle.ps_board.proofs.EmptySets.{empty_of}
use Rattle.ps_model.specs.declared.limits.TheConstants.{SIDE_LIMIT}

-- rows ----------------------------------------------------------------------------------------------------------------

-- two sets that differ in no column of so many from the left on, and two that are the same there
pub rows_same : (width : ℕ) (a b : List Bool) → width ≤ SIDE_LIMIT →
    set_columns (both_columns (unlike_columns a b) (columns_below width)) ≡ [] → AreSameRows width a b
rows_same width a b narrow none = λ x h.
    let low : x < SIDE_LIMIT = omega (arith, h, narrow) in
    not_unlike a b x low
    (sym (and-true (column_at (unlike_columns a b) x))
    ∙ ap (λ (within : Bool). column_at (unlike_columns a b) x && within) (sym (below_at width x low ∙ lt-ltb x width h))
    ∙ sym (both_at (unlike_columns a b) (columns_below width) x low)
    ∙ none_in (both_columns (unlike_columns a b) (columns_below width)) x none low)

pub same_rows : (width : ℕ) (a b : List Bool) → AreSameRows width a b →
    set_columns (both_columns (unlike_columns a b) (columns_below width)) ≡ []
same_rows width a b same =
    empty_of (both_columns (unlike_columns a b) (columns_below width))
    (λ x low.
    both_at (unlike_columns a b) (columns_below width) x low
    ∙ elim (cases_lt x width) [
      | inl h ↦ ap (λ (differ : Bool). differ && column_at (columns_below width) x) (alike_at a b x low (same x h))
      | inr h ↦
          ap (λ (within : Bool). column_at (unlike_columns a b) x && within) (below_at width x low ∙ le-ltb x width h)
          ∙ and-false (column_at (unlike_columns a b) x)
    ])

-- planes --------------------------------------------------------------------------------------------------------------

-- cells of planes that are the same
cell_of_plane : (width height : ℕ) (first second : List (List Bool)) (plane cell : ℕ) → 0 < height →
    cell < width * height →
    IsSamePlane width height first second plane →
    has_cell height first cell plane ≡ has_cell height second cell plane
unfolding has_cell
cell_of_plane width height first second plane cell some inside same =
    same (cell % height) (mod_below cell height some) (cell / height) (div_below cell height width some inside)

pub column_read : (height : ℕ) (words : List (List Bool)) (row plane x : ℕ) → row < height →
    column_at (row_of words (plane * height + row)) x ≡ has_cell height words (x * height + row) plane
unfolding has_cell
column_read height words row plane x under = rw (mod-mul-add x height row under, div-mul-add x height row under) refl

plane_of_cells : (width height : ℕ) (first second : List (List Bool)) (plane : ℕ) →
    ((cell : ℕ) → cell < width * height → has_cell height first cell plane ≡ has_cell height second cell plane) →
    IsSamePlane width height first second plane
plane_of_cells width height first second plane same = λ row under x h.
    let place : x * height + row < height * width = mul-add-lt x height row width h under in
    column_read height first row plane x under ∙ same (x * height + row) (omega arith)
    ∙ sym (column_read height second row plane x under)

-- the five planes of motions
pub five_in : (first q : ℕ) → first ≤ q → q < first + 5 → list_any (nat_eq q) (motion_planes first) ≡ true
five_in first q low high = elim (cases_eq q first) [
  | inl e ↦ five_true first (Going Up) q (ap Some (sym e))
  | inr a ↦ elim (cases_eq q (first + 1)) [
    | inl e ↦ five_true first (Going Down) q (ap Some (sym e))
    | inr b ↦ elim (cases_eq q (first + 2)) [
      | inl e ↦ five_true first (Going Left) q (ap Some (sym e))
      | inr d ↦ elim (cases_eq q (first + 3)) [
        | inl e ↦ five_true first (Going Right) q (ap Some (sym e))
        | inr f ↦ let e : first + 4 ≡ q = omega arith in five_true first Acting q (ap Some e)
      ]
    ]
  ]
]

pub five_motion : (first q : ℕ) → first ≤ q → q < first + 5 → (m : Motion) × (motion_plane first m ≡ Some q)
five_motion first q low high = elim (cases_eq q first) [
  | inl e ↦ (Going Up, ap Some (sym e))
  | inr a ↦ elim (cases_eq q (first + 1)) [
    | inl e ↦ (Going Down, ap Some (sym e))
    | inr b ↦ elim (cases_eq q (first + 2)) [
      | inl e ↦ (Going Left, ap Some (sym e))
      | inr d ↦ elim (cases_eq q (first + 3)) [
        | inl e ↦ (Going Right, ap Some (sym e))
        | inr f ↦ let e : first + 4 ≡ q = omega arith in (Acting, ap Some e)
      ]
    ]
  ]
]

-- the words of another board of the same size for the same game are as many
pub other_whole : (table table' : List ℕ) (layers layers' height height' long : ℕ) → table' ≡ table → layers' ≡ layers →
    height' ≡ height → long ≡ motions_from table' layers' * height' →
    long ≡ motions_from table layers * height
other_whole table table' layers layers' height height' long a b c whole = whole ∙ rw (a, b, c) refl

-- what another board of the same size for the same game keeps of its words
pub other_objects : (table table' : List ℕ) (width width' height height' : ℕ) (words : List (List Bool)) →
    table' ≡ table →
    width' ≡ width → height' ≡ height →
    AreObjectsShown table' height' words (width' * height') → AreObjectsShown table height words (width * height)
other_objects table table' width width' height height' words a b c shown = let turned = rw (a, b, c) at shown in turned

pub other_motions : (table table' : List ℕ) (width width' height height' layers layers' : ℕ) (words : List (List Bool))
    →
    table' ≡ table → width' ≡ width → height' ≡ height → layers' ≡ layers →
    AreMotionsShown table' layers' height' words (width' * height') →
    AreMotionsShown table layers height words (width * height)
other_motions table table' width width' height height' layers layers' words a b c d shown = let turned =
    rw (a, b, c, d) at shown in turned

-- layers --------------------------------------------------------------------------------------------------------------

pub layer_same : (table : List ℕ) (width height : ℕ) (first second : List (List Bool)) (layer : ℕ) → 0 < height →
    AreSamePlanes width height first second (on_layer table layer) →
    AreSamePlanes width height first second (motion_planes (motions_from table layer)) →
    IsSameLayer table width height first second layer
unfolding slot_shown object_shown motion_shown
layer_same table width height first second layer some objects motions = λ cell inside.
    let object =
    find_same (has_cell height first cell) (has_cell height second cell) (on_layer table layer)
    (λ p listed. cell_of_plane width height first second p cell some inside (objects p listed)) in
    let motion =
    first_motion-same (has_cell height first cell) (has_cell height second cell) (motions_from table layer)
    (λ q low high. cell_of_plane width height first second q cell some inside
    (motions q (five_in (motions_from table layer) q low high))) in
    rw (object, motion) refl

unfoldable pub back : Option ObjectId → Option ℕ
back None = None
back (Some object) = Some object.0

object_back : (object : Option ℕ) (motion : Motion) → back (object_in (slot_of (option_map numbered object) motion))
    ≡ object
unfolding back
object_back None motion = refl
object_back (Some o) motion = refl

pub slot_object : (table : List ℕ) (height : ℕ) (words : List (List Bool)) (cell layer : ℕ) →
    back (object_in (slot_shown table height words cell layer)) ≡ object_shown table height words cell layer
unfolding slot_shown
slot_object table height words cell layer =
    object_back (object_shown table height words cell layer) (motion_shown table height words cell layer)

pub same_objects : (table : List ℕ) (width height : ℕ) (first second : List (List Bool)) (layer : ℕ) →
    AreObjectsShown table height first (width * height) → AreObjectsShown table height second (width * height) →
    IsSameLayer table width height first second layer → AreSamePlanes width height first second (on_layer table layer)
same_objects table width height first second layer shown showing same = λ plane listed.
    let own : slice_get table plane ≡ Some layer = listed_member table layer plane listed in
    plane_of_cells width height first second plane (λ cell inside.
    shown cell plane layer inside own
    ∙ ap (λ (object : Option ℕ). is_number object plane)
    (sym (slot_object table height first cell layer) ∙ ap (λ (slot : Slot). back (object_in slot)) (same cell inside)
    ∙ slot_object table height second cell layer)
    ∙ sym (showing cell plane layer inside own))

five_low : (first q : ℕ) → list_any (nat_eq q) (motion_planes first) ≡ true → first ≤ q
five_low first q h = elim (cases_lt q first) [
  | inl a ↦ absurd (false≢true (sym (five_false first q (inl a)) ∙ h))
  | inr b ↦ b
]

pub same_moves : (table : List ℕ) (width height layers : ℕ) (first second : List (List Bool)) (layer : ℕ) →
    layer < layers →
    AreMotionsShown table layers height first (width * height) →
    AreMotionsShown table layers height second (width * height) → IsSameLayer table width height first second layer →
    AreSamePlanes width height first second (motion_planes (motions_from table layer))
same_moves table width height layers first second layer on shown showing same = λ plane listed.
    let found = five_motion (motions_from table layer) plane (five_low (motions_from table layer) plane listed)
    (five_high (motions_from table layer) plane listed) in
    plane_of_cells width height first second plane (λ cell inside.
    shown cell layer found.0 plane inside on found.1
    ∙ ap (λ (slot : Slot). same_motion found.0 (motion_in slot)) (same cell inside)
    ∙ sym (showing cell layer found.0 plane inside on found.1))

-- and where no motion is on either
pub still_moves : (table : List ℕ) (width height : ℕ) (first second : List (List Bool)) (layer : ℕ) →
    AreSameFrom (length table * height) first second →
    AreSamePlanes width height first second (motion_planes (motions_from table layer))
still_moves table width height first second layer same = λ plane listed row under x across.
    let low : motions_from table layer ≤ plane = five_low (motions_from table layer) plane listed in
    let more : height * length table ≤ height * plane =
    mul-le-mul_left height (let past : length table ≤ plane = omega (arith, low) in past) in
    ap (λ (word : List Bool). column_at word x) (same (plane * height + row) (omega (arith, more)))

-- boards --------------------------------------------------------------------------------------------------------------

-- what two boards of the same size for the same game show
abbrev pub shown_same : List ℕ → ℕ → ℕ → ℕ → List (List Bool) → List (List Bool) → Bool
shown_same table width height layers first second =
    same_cells (cells_shown table layers height first (width * height))
    (cells_shown table layers height second (width * height))

pub board_same : (table : List ℕ) (width height layers : ℕ) (first second : List (List Bool)) →
    ((layer : ℕ) → layer < layers → IsSameLayer table width height first second layer) →
    true ≡ shown_same table width height layers first second
unfolding cells_shown cell_shown
board_same table width height layers first second same =
    sym (ap (same_cells (cells_shown table layers height first (width * height)))
    (sym (tabled_same (cell_shown table layers height first) (cell_shown table layers height second) (width * height)
    (λ cell inside. tabled_same (slot_shown table height first cell) (slot_shown table height second cell) layers
    (λ layer on. same layer on cell inside))))
    ∙ same_cells-own (cells_shown table layers height first (width * height)))

layer_of_board : (table : List ℕ) (width height layers : ℕ) (first second : List (List Bool)) (layer : ℕ) →
    layer < layers →
    cells_shown table layers height first (width * height) ≡ cells_shown table layers height second (width * height) →
    IsSameLayer table width height first second layer
layer_of_board table width height layers first second layer on same = λ cell inside.
    sym (slot_read table layers height first (width * height) cell layer inside on)
    ∙ ap (λ (cells : List (List Slot)). get_or (get_or cells cell []) layer Bare) same
    ∙ slot_read table layers height second (width * height) cell layer inside on

pub board_other : (table : List ℕ) (width height layers : ℕ) (first second : List (List Bool)) (layer : ℕ)
    (told : Bool) →
    layer < layers → told ≡ false →
    (IsSameLayer table width height first second layer → told ≡ true) →
    false ≡ shown_same table width height layers first second
board_other table width height layers first second layer told on fails tells =
    elim (cases_Bool (shown_same table width height layers first second)) [
      | inl h ↦
          absurd (false≢true
          (sym fails
          ∙ tells (layer_of_board table width height layers first second layer on
          (same_cells-true (cells_shown table layers height first (width * height))
          (cells_shown table layers height second (width * height)) h))))
      | inr h ↦ sym h
    ]

-- boards of which it is told by all layers
pub boards_other : (table : List ℕ) (width height layers : ℕ) (first second : List (List Bool)) (told : Bool) →
    told ≡ false →
    (((layer : ℕ) → layer < layers → IsSameLayer table width height first second layer) → told ≡ true) →
    false ≡ shown_same table width height layers first second
boards_other table width height layers first second told fails tells =
    elim (cases_Bool (shown_same table width height layers first second)) [
      | inl h ↦
          absurd (false≢true
          (sym fails
          ∙ tells (λ layer on. layer_of_board table width height layers first second layer on
          (same_cells-true (cells_shown table layers height first (width * height))
          (cells_shown table layers height second (width * height)) h))))
      | inr h ↦ sym h
    ]
