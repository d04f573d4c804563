-- What isn't marked has no cell to take away.
use Rattle.std.proofs.Common.{◌≡◌, ◌≢◌, ◌∙◌, ℕ, ◌+◌, ◌*◌, ◌/◌, ◌%◌, ◌<◌, ◌≤◌, ◌||◌, Bool, true, false, None, Some, List}
use Rattle.std.proofs.Common.{refl, arith}
use Rattle.std.proofs.Common.{inl, inr, sym, ap}
use Rattle.std.specs.Prelude.{nat_eq, slice_set, if◌then◌else◌}
use Rattle.std.proofs.lemmas.Bool.{cases_eq, ne_eqb, or_parts}
use Rattle.std.proofs.lemmas.Bool.Decides.{nat_tests}
use Rattle.std.proofs.lemmas.Nat.{mod_below, same_from_place}
use Rattle.std.proofs.lemmas.Option.{none-some, same_Some}
use Rattle.std.proofs.lemmas.List.{get_or-set_other, set-get_or}
use Rattle.ps_model.specs.declared.limits.TheConstants.{SIDE_LIMIT}
use Rattle.ps_board.specs.ColumnSets.{column_at, either_columns, no_columns, with_column}
use Rattle.ps_board.proofs.ColumnLaws.{columns-agree}
use Rattle.ps_model.specs.declared.pieces.Direction.TheVariants.{Up, Down, Left, Right}
use Rattle.ps_model.specs.declared.pieces.Motion.{Motion}
use Rattle.ps_model.specs.declared.pieces.Motion.TheVariants.{Still, Going, Acting}
use Rattle.ps_model.specs.board.Movement.{is_number}
use Rattle.ps_rows.specs.Planes.{row_of, with_cell, with_cell_in}
use Rattle.ps_rows.specs.RowIndex.{AreRowsMarked}
use Rattle.ps_rows.specs.RowTests.{five_rows}
use Rattle.ps_rows.specs.Showing.{motion_plane, motion_planes}
use Rattle.ps_rows.proofs.Sets.{either_at, none_at}

off_by : (own off : Bool) → off ≡ false → (if own then false else off) ≡ false
off_by true off e = refl
off_by false off e = e

without_any : (column : ℕ) → with_column no_columns column false ≡ no_columns
without_any column = columns-agree (λ x. if nat_eq x column then false else column_at no_columns x) (λ x. false)
    (λ x low. off_by (nat_eq x column) (column_at no_columns x) (none_at x))

-- a row without columns stays as it is
blank_stays : (words : List (List Bool)) (place column : ℕ) → row_of words place ≡ no_columns →
    slice_set words place (with_column (row_of words place) column false) ≡ words
blank_stays words place column blank =
    ap (λ (row : List Bool). slice_set words place (with_column row column false)) blank
    ∙ ap (slice_set words place) (without_any column ∙ sym blank) ∙ set-get_or words place no_columns

-- and so does one that isn't marked
pub unmarked_stays : (count height : ℕ) (words index : List (List Bool)) (plane row column : ℕ) (on : Bool) →
    plane < count → row < height → AreRowsMarked count height words index →
    column_at (row_of index plane) row ≡ false → on ≡ false →
    words ≡ slice_set words (plane * height + row) (with_column (row_of words (plane * height + row)) column on)
unmarked_stays count height words index plane row column on counted under marked clear off =
    let place : ℕ = plane * height + row in
    sym (blank_stays words place column (marked plane row counted under clear))
    ∙ ap (λ (b : Bool). slice_set words place (with_column (row_of words place) column b)) (sym off)

-- five planes of which none has a row marked
none_of : (a b : List Bool) (row : ℕ) → row < SIDE_LIMIT → column_at (either_columns a b) row ≡ false →
    (column_at a row ≡ false) × (column_at b row ≡ false)
none_of a b row few none = or_parts (column_at a row) (column_at b row) (sym (either_at a b row few) ∙ none)

pub five_clear : (index : List (List Bool)) (first row : ℕ) → row < SIDE_LIMIT →
    column_at (either_columns (either_columns (either_columns (row_of index first) (row_of index (first + 1)))
    (either_columns (row_of index (first + 2)) (row_of index (first + 3)))) (row_of index (first + 4))) row ≡ false →
    (plane : ℕ) → first ≤ plane → plane ≤ first + 4 → column_at (row_of index plane) row ≡ false
five_clear index first row few none plane low high =
    let upright = either_columns (row_of index first) (row_of index (first + 1)) in
    let across = either_columns (row_of index (first + 2)) (row_of index (first + 3)) in
    let all = none_of (either_columns upright across) (row_of index (first + 4)) row few none in
    let four = none_of upright across row few all.0 in
    let up = none_of (row_of index first) (row_of index (first + 1)) row few four.0 in
    let left = none_of (row_of index (first + 2)) (row_of index (first + 3)) row few four.1 in
    elim (cases_eq plane first) [
      | inl e ↦ rw e up.0
      | inr a ↦ elim (cases_eq plane (first + 1)) [
        | inl e ↦ rw e up.1
        | inr b ↦ elim (cases_eq plane (first + 2)) [
          | inl e ↦ rw e left.0
          | inr c ↦ elim (cases_eq plane (first + 3)) [
            | inl e ↦ rw e left.1
            | inr d ↦ let e : plane ≡ first + 4 = omega arith in rw e all.1
          ]
        ]
      ]
    ]

-- a row of five planes without columns
either_none : either_columns no_columns no_columns ≡ no_columns
either_none = columns-agree (λ x. column_at no_columns x || column_at no_columns x) (λ x. false)
    (λ x low. rw (none_at x) refl)

pub five_none : (height : ℕ) (words : List (List Bool)) (first row : ℕ) →
    ((plane : ℕ) → first ≤ plane → plane ≤ first + 4 → row_of words (plane * height + row) ≡ no_columns) →
    five_rows height words first row ≡ no_columns
five_none height words first row none =
    rw (
      none first (omega arith) (omega arith),
      none (first + 1) (omega arith) (omega arith),
      none (first + 2) (omega arith) (omega arith),
      none (first + 3) (omega arith) (omega arith),
      none (first + 4) (omega arith) (omega arith),
      either_none,
      either_none,
      either_none,
      either_none,
    ) refl

-- the cell of a row and a column in a plane, or not
abbrev pub cell_with : ℕ → ℕ → ℕ → List (List Bool) → Bool → ℕ → List (List Bool)
cell_with row column plane words on height =
    slice_set words (plane * height + row) (with_column (row_of words (plane * height + row)) column on)

pub cell_set : (height cell plane row column : ℕ) (words : List (List Bool)) (on : Bool) → row ≡ cell % height →
    column ≡ cell / height → cell_with row column plane words on height ≡ with_cell height words cell plane on
unfolding with_cell
cell_set height cell plane row column words on r c = rw (r, c) refl

-- the cell is in none of five planes
pub five_stay : (height cell first : ℕ) (words : List (List Bool)) →
    ((plane : ℕ) → first ≤ plane → plane ≤ first + 4 → row_of words (plane * height + cell % height) ≡ no_columns) →
    words ≡ with_cell_in height cell None words (motion_planes first)
unfolding with_cell_in
five_stay height cell first words blank =
    let stays : (plane : ℕ) → first ≤ plane → plane ≤ first + 4 → with_cell height words cell plane false ≡ words =
    λ plane low high. sym (cell_set height cell plane (cell % height) (cell / height) words false refl refl)
    ∙ blank_stays words (plane * height + cell % height) (cell / height) (blank plane low high) in
    rw (
      stays first (omega arith) (omega arith),
      stays (first + 1) (omega arith) (omega arith),
      stays (first + 2) (omega arith) (omega arith),
      stays (first + 3) (omega arith) (omega arith),
      stays (first + 4) (omega arith) (omega arith),
    ) refl

-- a plane that isn't the chosen one, whose row has no columns, stays as it is
other_stays : (height cell chosen plane : ℕ) (words : List (List Bool)) → plane ≢ chosen →
    row_of words (plane * height + cell % height) ≡ no_columns →
    with_cell height words cell plane (is_number (Some chosen) plane) ≡ words
other_stays height cell chosen plane words apart blank =
    let off : nat_eq chosen plane ≡ false = ne_eqb chosen plane (λ e. apart (sym e)) in
    ap (with_cell height words cell plane) off
    ∙ sym (cell_set height cell plane (cell % height) (cell / height) words false refl refl)
    ∙ blank_stays words (plane * height + cell % height) (cell / height) blank

-- also behind a change of the chosen one
row_apart : (height cell chosen plane : ℕ) (words : List (List Bool)) → 0 < height → plane ≢ chosen →
    row_of (with_cell height words cell chosen true) (plane * height + cell % height)
    ≡ row_of words (plane * height + cell % height)
unfolding with_cell
row_apart height cell chosen plane words some apart =
    let under : cell % height < height = mod_below cell height some in
    let row : List Bool = row_of words (chosen * height + cell % height) in
    get_or-set_other words (chosen * height + cell % height) (plane * height + cell % height)
    (with_column row (cell / height) true) no_columns
    (λ e. apart ((same_from_place plane (cell % height) chosen (cell % height) height under under e).0))

other_stays_behind : (height cell chosen plane : ℕ) (words : List (List Bool)) → 0 < height → plane ≢ chosen →
    row_of words (plane * height + cell % height) ≡ no_columns →
    with_cell height (with_cell height words cell chosen true) cell plane (is_number (Some chosen) plane)
    ≡ with_cell height words cell chosen true
other_stays_behind height cell chosen plane words some apart blank =
    other_stays height cell chosen plane (with_cell height words cell chosen true) apart
    (row_apart height cell chosen plane words some apart ∙ blank)

chosen_on : (height cell chosen : ℕ) (words : List (List Bool)) →
    with_cell height words cell chosen (is_number (Some chosen) chosen) ≡ with_cell height words cell chosen true
chosen_on height cell chosen words =
    let on : nat_eq chosen chosen ≡ true = grind (arith, nat_tests) in ap (with_cell height words cell chosen) on

-- so that of five planes without columns in the row no more is changed than the motion's
pub five_alone : (height cell first : ℕ) (motion : Motion) (plane : ℕ) (words : List (List Bool)) → 0 < height →
    motion_plane first motion ≡ Some plane →
    ((plane : ℕ) → first ≤ plane → plane ≤ first + 4 → row_of words (plane * height + cell % height) ≡ no_columns) →
    with_cell height words cell plane true
    ≡ with_cell_in height cell (motion_plane first motion) words (motion_planes first)
unfolding with_cell_in
five_alone height cell first Still plane words some is blank = absurd (none-some plane is)
five_alone height cell first (Going Up) plane words some is blank =
    rw (
      ← same_Some first plane is,
      chosen_on height cell first words,
      other_stays_behind height cell first (first + 1) words some (omega arith) (blank (first + 1) (omega arith) (omega arith)),
      other_stays_behind height cell first (first + 2) words some (omega arith) (blank (first + 2) (omega arith) (omega arith)),
      other_stays_behind height cell first (first + 3) words some (omega arith) (blank (first + 3) (omega arith) (omega arith)),
      other_stays_behind height cell first (first + 4) words some (omega arith) (blank (first + 4) (omega arith) (omega arith)),
    ) refl
five_alone height cell first (Going Down) plane words some is blank =
    rw (
      ← same_Some (first + 1) plane is,
      other_stays height cell (first + 1) first words (omega arith) (blank first (omega arith) (omega arith)),
      chosen_on height cell (first + 1) words,
      other_stays_behind height cell (first + 1) (first + 2) words some (omega arith) (blank (first + 2) (omega arith) (omega arith)),
      other_stays_behind height cell (first + 1) (first + 3) words some (omega arith) (blank (first + 3) (omega arith) (omega arith)),
      other_stays_behind height cell (first + 1) (first + 4) words some (omega arith) (blank (first + 4) (omega arith) (omega arith)),
    ) refl
five_alone height cell first (Going Left) plane words some is blank =
    rw (
      ← same_Some (first + 2) plane is,
      other_stays height cell (first + 2) first words (omega arith) (blank first (omega arith) (omega arith)),
      other_stays height cell (first + 2) (first + 1) words (omega arith) (blank (first + 1) (omega arith) (omega arith)),
      chosen_on height cell (first + 2) words,
      other_stays_behind height cell (first + 2) (first + 3) words some (omega arith) (blank (first + 3) (omega arith) (omega arith)),
      other_stays_behind height cell (first + 2) (first + 4) words some (omega arith) (blank (first + 4) (omega arith) (omega arith)),
    ) refl
five_alone height cell first (Going Right) plane words some is blank =
    rw (
      ← same_Some (first + 3) plane is,
      other_stays height cell (first + 3) first words (omega arith) (blank first (omega arith) (omega arith)),
      other_stays height cell (first + 3) (first + 1) words (omega arith) (blank (first + 1) (omega arith) (omega arith)),
      other_stays height cell (first + 3) (first + 2) words (omega arith) (blank (first + 2) (omega arith) (omega arith)),
      chosen_on height cell (first + 3) words,
      other_stays_behind height cell (first + 3) (first + 4) words some (omega arith) (blank (first + 4) (omega arith) (omega arith)),
    ) refl
five_alone height cell first Acting plane words some is blank =
    rw (
      ← same_Some (first + 4) plane is,
      other_stays height cell (first + 4) first words (omega arith) (blank first (omega arith) (omega arith)),
      other_stays height cell (first + 4) (first + 1) words (omega arith) (blank (first + 1) (omega arith) (omega arith)),
      other_stays height cell (first + 4) (first + 2) words (omega arith) (blank (first + 2) (omega arith) (omega arith)),
      other_stays height cell (first + 4) (first + 3) words (omega arith) (blank (first + 3) (omega arith) (omega arith)),
      chosen_on height cell (first + 4) words,
    ) refl
