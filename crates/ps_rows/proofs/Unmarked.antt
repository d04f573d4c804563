-- Rows that aren't marked in the planes of an object, of a motion, or of all motions.
use Rattle.std.proofs.Common.{◌≡◌, ◌∙◌, ℕ, suc, ◌+◌, ◌*◌, ◌<◌, ◌≤◌, ◌&&◌, inl, inr, Bool, false, not, Some, List, []}
use Rattle.std.proofs.Common.{◌∷◌, ap, length, get_or, refl, sym, arith}
use Rattle.std.specs.Prelude.{nat_lt, slice_get}
use Rattle.std.specs.List.{list_any}
use Rattle.std.proofs.lemmas.Bool.{cases_Bool, cases_eq, cases_lt, and_parts, or_parts, false≢true, lt-ltb}
use Rattle.std.proofs.lemmas.Option.{slice_get_within}
use Rattle.ps_model.specs.declared.pieces.ObjectId.{ObjectId}
use Rattle.ps_model.specs.declared.pieces.Direction.TheVariants.{Up, Down, Left, Right}
use Rattle.ps_model.specs.declared.pieces.Motion.{Motion}
use Rattle.ps_model.specs.declared.pieces.Motion.TheVariants.{Still, Going, Acting}
use Rattle.ps_model.specs.declared.pieces.Slot.{Slot}
use Rattle.ps_model.specs.declared.pieces.Slot.TheVariants.{Bare}
use Rattle.ps_model.specs.declared.compiled.LayeredObject.{LayeredObject}
use Rattle.ps_model.specs.declared.compiled.MotionTest.{MotionTest}
use Rattle.ps_model.specs.board.Grid.{Grid, cell_at, motion_in, slot_at}
use Rattle.ps_model.specs.board.Movement.{is_number}
use Rattle.ps_model.specs.meaning.Compiled.{slot_holds}
use Rattle.ps_model.specs.meaning.Fitting.{same_motion}
use Rattle.ps_laws.proofs.common.SameThings.{is_number-true}
use Rattle.ps_board.specs.RowsOfGrids.{is_moving}
use Rattle.ps_match.specs.Nowhere.{HasMovesIn, NoneMovesOnRow}
use Rattle.ps_rows.specs.RowIndex.{AreRowsMarked}
use Rattle.ps_rows.specs.RowTests.{IsRowOf, held, moved}
use Rattle.ps_rows.specs.Showing.{motions_from, motion_plane, grid_shown, AreObjectsShown, AreMotionsShown}
use Rattle.ps_rows.proofs.Absent.{not_marked}
use Rattle.ps_rows.proofs.Sets.{either_at, none_at}
use Rattle.ps_rows.proofs.Moves.{plane_low, plane_high}
use Rattle.ps_rows.proofs.Scans.{other_row, moving_row_is, beyond_row}
use Rattle.ps_board.specs.ColumnSets.{column_at, columns_below, either_columns, no_columns}
use Rattle.ps_board.proofs.ColumnLaws.{column_at-where}
use Rattle.ps_model.specs.declared.limits.TheConstants.{SIDE_LIMIT}
use Rattle.ps_rows.specs.Planes.{row_of}

-- no slot of a cell passes a test
no_slot : (passes : Slot → Bool) (cell : List Slot) → ((layer : ℕ) → passes (get_or cell layer Bare) ≡ false) →
    list_any passes cell ≡ false
no_slot passes [] each = refl
no_slot passes (slot ∷ slots) each = rw (each 0, no_slot passes slots (λ layer. each (suc layer))) refl

-- what isn't going to do anything else is at rest
at_rest_by : (motion : Motion) → ((other : Motion) → same_motion other Still ≡ false →
    same_motion other motion ≡ false) → not (same_motion Still motion) ≡ false
at_rest_by Still none = refl
at_rest_by (Going Up) none = absurd (false≢true (sym (none (Going Up) refl)))
at_rest_by (Going Down) none = absurd (false≢true (sym (none (Going Down) refl)))
at_rest_by (Going Left) none = absurd (false≢true (sym (none (Going Left) refl)))
at_rest_by (Going Right) none = absurd (false≢true (sym (none (Going Right) refl)))
at_rest_by Acting none = absurd (false≢true (sym (none Acting refl)))

-- the marks of one plane more
pub one_plane_rows : (first : ℕ) (index : List (List Bool)) (plane : ℕ) (rows : List Bool) →
    ((each row : ℕ) → row < SIDE_LIMIT → first ≤ each → each < plane → column_at rows row ≡ false →
    column_at (row_of index each) row ≡ false) →
    (each row : ℕ) → row < SIDE_LIMIT → first ≤ each → each < plane + 1 →
    column_at (either_columns rows (row_of index plane)) row ≡ false → column_at (row_of index each) row ≡ false
one_plane_rows first index plane rows before each row few low below none =
    let parts = or_parts (column_at rows row) (column_at (row_of index plane) row)
    (sym (either_at rows (row_of index plane) row few) ∙ none) in
    elim (cases_eq each plane) [
      | inl e ↦ rw e parts.1
      | inr apart ↦ before each row few low (omega arith) parts.0
    ]

-- each motion but rest has a plane
by_motion : (first : ℕ) (motion : Motion) (P : Motion → Type 0) → same_motion motion Still ≡ false →
    ((m : Motion) (plane : ℕ) → motion_plane first m ≡ Some plane → P m) → P motion
by_motion first Still P going there = absurd (false≢true (sym going))
by_motion first (Going Up) P going there = there (Going Up) first refl
by_motion first (Going Down) P going there = there (Going Down) (first + 1) refl
by_motion first (Going Left) P going there = there (Going Left) (first + 2) refl
by_motion first (Going Right) P going there = there (Going Right) (first + 3) refl
by_motion first Acting P going there = there Acting (first + 4) refl

module _ (table : List ℕ) (width height layers : ℕ) (words : List (List Bool)) (row : ℕ) (some : 0 < height)
    (narrow : width ≤ SIDE_LIMIT) (under : row < height) where
  -- an object stands on no layer of the row
  pub not_holding : (index : List (List Bool)) (count : ℕ) (object : ObjectId) →
      AreObjectsShown table height words (width * height) → length table ≤ count →
      AreRowsMarked count height words index →
      (object.0 < length table → column_at (row_of index object.0) row ≡ false) → (x : ℕ) → x < width →
      list_any (slot_holds object) (cell_at (grid_shown table width height layers words) (x * height + row)) ≡ false
  not_holding index count object shown counted marked clear x across =
      no_slot (slot_holds object) (cell_at (grid_shown table width height layers words) (x * height + row))
      (λ layer.
      let sought : LayeredObject = record { object = object; layer = record { 0 = layer } } in
      let own : Bool = is_number (slice_get table object.0) layer in
      let told : IsRowOf (grid_shown table width height layers words) row no_columns (held sought) =
      elim (cases_Bool (nat_lt layer layers && own)) [
        | inl both ↦
            let parts = and_parts (nat_lt layer layers) own both in
            let below : object.0 < length table =
            slice_get_within table object.0 layer (is_number-true (slice_get table object.0) layer parts.1) in
            not_marked table width height layers words index count row sought some narrow under shown counted marked
            both (clear below)
        | inr other ↦ other_row table width height layers words row some narrow under sought other
      ] in
      sym (told x across) ∙ none_at x)

  -- a row that isn't marked for a motion
  moved_nowhere : (test : MotionTest) (plane : ℕ) → AreMotionsShown table layers height words (width * height) →
      (test.layer).0 < layers →
      motion_plane (motions_from table (test.layer).0) test.motion ≡ Some plane →
      row_of words (plane * height + row) ≡ no_columns →
      IsRowOf (grid_shown table width height layers words) row no_columns (moved test)
  moved_nowhere test plane shown on asked blank =
      moving_row_is table width height layers words row some narrow under test no_columns plane shown on asked
      (sym blank)

  pub none_moves : (index : List (List Bool)) (count : ℕ) (test : MotionTest) (plane : ℕ) →
      AreMotionsShown table layers height words (width * height) → motions_from table layers ≤ count →
      AreRowsMarked count height words index → (test.layer).0 < layers →
      motion_plane (motions_from table (test.layer).0) test.motion ≡ Some plane →
      column_at (row_of index plane) row ≡ false → NoneMovesOnRow (grid_shown table width height layers words) test row
  none_moves index count test plane shown counted marked on asked clear = λ x across.
      let high : plane < motions_from table (test.layer).0 + 5 =
      plane_high (motions_from table (test.layer).0) test.motion plane asked in
      sym (moved_nowhere test plane shown on asked (marked plane row (omega arith) under clear) x across) ∙ none_at x

  -- a row that isn't marked for any motion of a layer
  unmoved_on : (layer : ℕ) (motion : Motion) → AreMotionsShown table layers height words (width * height) →
      layer < layers →
      ((plane : ℕ) → motions_from table layer ≤ plane → plane < motions_from table layer + 5 →
      row_of words (plane * height + row) ≡ no_columns) → same_motion motion Still ≡ false →
      IsRowOf (grid_shown table width height layers words) row no_columns
      (moved (record { layer = record { 0 = layer }; motion = motion }))
  unmoved_on layer motion shown on blank going =
      let first : ℕ = motions_from table layer in
      let there : (m : Motion) (plane : ℕ) → motion_plane first m ≡ Some plane →
      IsRowOf (grid_shown table width height layers words) row no_columns
      (moved (record { layer = record { 0 = layer }; motion = m })) =
      λ m plane asked.
      moved_nowhere (record { layer = record { 0 = layer }; motion = m }) plane shown on asked
      (blank plane (plane_low first m plane asked) (plane_high first m plane asked)) in
      by_motion first motion (λ m. IsRowOf (grid_shown table width height layers words) row no_columns
      (moved (record { layer = record { 0 = layer }; motion = m }))) going there

  pub none_moving_on : (layer : ℕ) → AreMotionsShown table layers height words (width * height) → layer < layers →
      ((plane : ℕ) → motions_from table layer ≤ plane → plane < motions_from table layer + 5 →
      row_of words (plane * height + row) ≡ no_columns) → (x : ℕ) → x < width →
      is_moving (slot_at (grid_shown table width height layers words) (x * height + row) layer) ≡ false
  none_moving_on layer shown on blank x across =
      at_rest_by (motion_in (slot_at (grid_shown table width height layers words) (x * height + row) layer))
      (λ other going. sym (unmoved_on layer other shown on blank going x across) ∙ none_at x)

  -- and for any motion at all
  unmoved : (layer : ℕ) (motion : Motion) → AreMotionsShown table layers height words (width * height) →
      ((plane : ℕ) → length table ≤ plane → plane < motions_from table layers →
      row_of words (plane * height + row) ≡ no_columns) → same_motion motion Still ≡ false →
      IsRowOf (grid_shown table width height layers words) row no_columns
      (moved (record { layer = record { 0 = layer }; motion = motion }))
  unmoved layer motion shown blank going = elim (cases_lt layer layers) [
    | inl on ↦
        unmoved_on layer motion shown on (λ plane low high. blank plane (omega (arith, low)) (omega (arith, on, high)))
        going
    | inr off ↦
        beyond_row table width height layers words row some narrow under
        (record { layer = record { 0 = layer }; motion = motion }) no_columns off
        (λ x low. none_at x ∙ sym going)
  ]

  pub none_moving : AreMotionsShown table layers height words (width * height) →
      ((plane : ℕ) → length table ≤ plane → plane < motions_from table layers →
      row_of words (plane * height + row) ≡ no_columns) → (x : ℕ) → x < width →
      list_any is_moving (cell_at (grid_shown table width height layers words) (x * height + row)) ≡ false
  none_moving shown blank x across =
      let cell : List Slot = cell_at (grid_shown table width height layers words) (x * height + row) in
      no_slot is_moving cell
      (λ layer. at_rest_by (motion_in (get_or cell layer Bare)) (λ other going.
      sym (unmoved layer other shown blank going x across) ∙ none_at x))

-- no row of a board is outside of all for which there is room
pub may_move_anywhere : (g : Grid) (test : MotionTest) (limit : ℕ) (rows : List Bool) → g.height ≤ SIDE_LIMIT →
    g.height ≤ limit → rows ≡ columns_below limit → HasMovesIn g test rows
may_move_anywhere g test limit rows low room all = λ row under none.
    let within : row < SIDE_LIMIT = omega (arith, under, low) in
    let here : column_at rows row ≡ nat_lt row limit =
    ap (λ (set : List Bool). column_at set row) all ∙ column_at-where (λ x. nat_lt x limit) row within in
    absurd (false≢true (sym none ∙ here ∙ lt-ltb row limit (omega (arith, under, room))))
