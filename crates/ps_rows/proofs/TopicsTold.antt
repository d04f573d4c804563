-- What two boards have alike, by planes that have the same rows on both.
use Rattle.std.proofs.Common.{◌≡◌, ◌∙◌, ℕ, ◌+◌, ◌*◌, ◌/◌, ◌%◌, ◌<◌, ◌≤◌, ◌&&◌, inl, inr, Bool, true, false, not}
use Rattle.std.proofs.Common.{Option, Some, None, List, [], length, refl, sym, ap, arith}
use Rattle.std.specs.Prelude.{nat_lt, slice_get}
use Rattle.std.proofs.lemmas.Bool.{and_parts, cases_eq, cases_lt, false≢true, or_parts}
use Rattle.std.proofs.lemmas.List.{get_or_past}
use Rattle.std.proofs.lemmas.Nat.{div_below, div-add-mod', mod_below}
use Rattle.std.proofs.lemmas.Option.{none-some, same_Some, slice_get_within}
use Rattle.ps_model.specs.declared.limits.TheConstants.{SIDE_LIMIT}
use Rattle.ps_model.specs.declared.pieces.Direction.TheVariants.{Up, Down, Left, Right}
use Rattle.ps_model.specs.declared.pieces.Motion.{Motion}
use Rattle.ps_model.specs.declared.pieces.Motion.TheVariants.{Still, Going, Acting}
use Rattle.ps_model.specs.declared.pieces.Slot.{Slot}
use Rattle.ps_model.specs.declared.compiled.LayeredObject.{LayeredObject}
use Rattle.ps_model.specs.declared.compiled.MotionTest.{MotionTest}
use Rattle.ps_model.specs.board.Grid.{Grid, cell_at}
use Rattle.ps_model.specs.board.Movement.{is_number}
use Rattle.ps_model.specs.meaning.Fitting.{same_motion}
use Rattle.ps_laws.proofs.common.SameThings.{is_number-true}
use Rattle.ps_board.specs.ColumnSets.{column_at, columns_below, columns_where, columns_without, either_columns}
use Rattle.ps_board.specs.ColumnSets.{no_columns}
use Rattle.ps_board.proofs.ColumnLaws.{column_at-where}
use Rattle.ps_match.specs.Topics.{DifferOnlyAbout, HasTopicsOf, HoldAlike, MoveAlike, motion_topic, object_topic}
use Rattle.ps_match.proofs.TopicSets.{motion_low, object_low}
use Rattle.ps_rows.specs.PlaneTopics.{AreFiveOfBoth, AreMotionsOfBoth, AreObjectsOfBoth}
use Rattle.ps_rows.specs.Planes.{row_of}
use Rattle.ps_rows.specs.RowTests.{IsRowOf, five_rows, held, moved}
use Rattle.ps_rows.specs.Showing.{AreMotionsShown, AreObjectsShown, cells_shown, grid_shown, motion_plane, motions_from}
use Rattle.ps_rows.proofs.Rests.{cells_long}
use Rattle.ps_rows.proofs.Scans.{beyond_row, moving_row_is, other_row, own_row, resting_row_is}
use Rattle.ps_rows.proofs.Sets.{either_at, none_at}

-- a topic that isn't in a set isn't in one that it has all of
pub not_before : (topics more : List Bool) → HasTopicsOf topics more → (topic : ℕ) → topic < SIDE_LIMIT →
    column_at more topic ≡ false → column_at topics topic ≡ false
not_before topics more kept topic low none = by (column_at topics topic) refl where
  by : (on : Bool) → column_at topics topic ≡ on → on ≡ false
  by true e = absurd (false≢true (sym none ∙ kept topic low e))
  by false e = refl

-- the plane of a motion is one of a layer's five
five_planes : (first plane : ℕ) (motion : Motion) → motion_plane first motion ≡ Some plane →
    (first ≤ plane) × (plane < first + 5)
five_planes first plane Still e = absurd (none-some plane e)
five_planes first plane (Going Up) e = let is : first ≡ plane = same_Some first plane e in
    (omega (arith, is), omega (arith, is))
five_planes first plane (Going Down) e = let is : first + 1 ≡ plane = same_Some (first + 1) plane e in
    (omega (arith, is), omega (arith, is))
five_planes first plane (Going Left) e = let is : first + 2 ≡ plane = same_Some (first + 2) plane e in
    (omega (arith, is), omega (arith, is))
five_planes first plane (Going Right) e = let is : first + 3 ≡ plane = same_Some (first + 3) plane e in
    (omega (arith, is), omega (arith, is))
five_planes first plane Acting e = let is : first + 4 ≡ plane = same_Some (first + 4) plane e in
    (omega (arith, is), omega (arith, is))

module _ (table : List ℕ) (width height layers : ℕ) (words others : List (List Bool)) (some : 0 < height)
    (narrow : width ≤ SIDE_LIMIT) where
  abbrev here : Grid
  here = grid_shown table width height layers words

  abbrev there : Grid
  there = grid_shown table width height layers others

  -- a test that each row passes alike
  alike_by_rows : (test : List Slot → Bool) → ((row : ℕ) → row < height →
      (word : List Bool) × IsRowOf here row word test × IsRowOf there row word test) →
      (cell : ℕ) → test (cell_at here cell) ≡ test (cell_at there cell)
  alike_by_rows test rows cell = elim (cases_lt cell (width * height)) [
    | inl inside ↦
        let low : cell % height < height = mod_below cell height some in
        let across : cell / height < width = div_below cell height width some inside in
        let both = rows (cell % height) low in
        ap (λ (n : ℕ). test (cell_at here n)) (sym (div-add-mod' cell height))
        ∙ sym (both.1 (cell / height) across) ∙ both.2 (cell / height) across
        ∙ ap (λ (n : ℕ). test (cell_at there n)) (div-add-mod' cell height)
    | inr beyond ↦
        ap test (get_or_past (cells_shown table layers height words (width * height)) cell []
        (rw (cells_long table layers height words (width * height)) beyond)
        ∙ sym (get_or_past (cells_shown table layers height others (width * height)) cell []
        (rw (cells_long table layers height others (width * height)) beyond)))
  ]

  module _ (topics : List Bool) (objects : AreObjectsOfBoth height words others topics (length table))
      (shown : AreObjectsShown table height words (width * height))
      (shown' : AreObjectsShown table height others (width * height)) where
    held_row : (object : LayeredObject) (on : Bool) →
        (nat_lt (object.layer).0 layers && is_number (slice_get table (object.object).0) (object.layer).0) ≡ on →
        column_at topics (object_topic (object.object).0) ≡ false → (row : ℕ) → row < height →
        (word : List Bool) × IsRowOf here row word (held object) × IsRowOf there row word (held object)
    held_row object true e none row under =
        let o : ℕ = (object.object).0 in
        let layer : ℕ = (object.layer).0 in
        let word : List Bool = row_of words (o * height + row) in
        let parts = and_parts (nat_lt layer layers) (is_number (slice_get table o) layer) e in
        let counted : o < length table = slice_get_within table o layer (is_number-true (slice_get table o) layer
        parts.1) in (
          word,
          own_row table width height layers words row some narrow under object word shown e refl,
          own_row table width height layers others row some narrow under object word shown' e
              (objects o counted none row under (none_at row)),
        )
    held_row object false e none row under = (
      no_columns,
      other_row table width height layers words row some narrow under object e,
      other_row table width height layers others row some narrow under object e,
    )

    pub held_alike : (object : LayeredObject) → column_at topics (object_topic (object.object).0) ≡ false →
        HoldAlike here there object
    held_alike object none cell = alike_by_rows (held object)
        (held_row object (nat_lt (object.layer).0 layers && is_number (slice_get table (object.object).0)
        (object.layer).0) refl none) cell

  module _ (topics : List Bool) (motions : AreMotionsOfBoth table height words others topics layers)
      (shown : AreMotionsShown table layers height words (width * height))
      (shown' : AreMotionsShown table layers height others (width * height)) (test : MotionTest)
      (none : column_at topics (motion_topic (test.layer).0) ≡ false) where
    abbrev layer : ℕ
    layer = (test.layer).0

    abbrev first : ℕ
    first = motions_from table layer

    -- the five planes of the layer
    same_plane : layer < layers → (row : ℕ) → row < height → (plane : ℕ) → first ≤ plane → plane < first + 5 →
        row_of words (plane * height + row) ≡ row_of others (plane * height + row)
    same_plane on row under plane from to = motions layer on none plane from to row under (none_at row)

    five_same : layer < layers → (row : ℕ) → row < height →
        five_rows height words first row ≡ five_rows height others first row
    five_same on row under =
        rw (
          same_plane on row under first (omega arith) (omega arith),
          same_plane on row under (first + 1) (omega arith) (omega arith),
          same_plane on row under (first + 2) (omega arith) (omega arith),
          same_plane on row under (first + 3) (omega arith) (omega arith),
          same_plane on row under (first + 4) (omega arith) (omega arith),
        ) refl

    moved_row : (asked : Option ℕ) → motion_plane first test.motion ≡ asked → layer < layers → (row : ℕ) →
        row < height → (word : List Bool) × IsRowOf here row word (moved test) × IsRowOf there row word (moved test)
    moved_row (Some plane) e on row under =
        let word : List Bool = row_of words (plane * height + row) in
        let within = five_planes first plane test.motion e in (
          word,
          moving_row_is table width height layers words row some narrow under test word plane shown on e refl,
          moving_row_is table width height layers others row some narrow under test word plane shown' on e
              (same_plane on row under plane within.0 within.1),
        )
    moved_row None e on row under =
        let any : List Bool = five_rows height words first row in
        let all : List Bool = columns_below width in (
          columns_without all any,
          resting_row_is table width height layers words row some narrow under test all any refl shown on e refl,
          resting_row_is table width height layers others row some narrow under test all any refl shown' on e
              (five_same on row under),
        )

    -- a layer that there isn't
    still_row : layers ≤ layer → (row : ℕ) → row < height →
        (word : List Bool) × IsRowOf here row word (moved test) × IsRowOf there row word (moved test)
    still_row off row under =
        let holds : ℕ → Bool = λ x. same_motion test.motion Still in
        let word : List Bool = columns_where holds in
        let told : (x : ℕ) → x < width → column_at word x ≡ same_motion test.motion Still =
        λ x across. column_at-where holds x (omega (arith, across, narrow)) in (
          word,
          beyond_row table width height layers words row some narrow under test word off told,
          beyond_row table width height layers others row some narrow under test word off told,
        )

    pub moved_alike : MoveAlike here there test
    moved_alike cell = alike_by_rows (moved test)
        (λ row under. elim (cases_lt layer layers) [
          | inl on ↦ moved_row (motion_plane first test.motion) refl on row under
          | inr off ↦ still_row off row under
        ]) cell

  -- all together
  pub differ_about : (objects motions : List Bool) → AreObjectsOfBoth height words others objects (length table) →
      AreMotionsOfBoth table height words others motions layers →
      AreObjectsShown table height words (width * height) → AreObjectsShown table height others (width * height) →
      AreMotionsShown table layers height words (width * height) →
      AreMotionsShown table layers height others (width * height) →
      DifferOnlyAbout (either_columns objects motions) here there
  differ_about objects motions of_objects of_motions shown shown' moves moves' = record {
    objects = λ object none.
        let topic : ℕ = object_topic (object.object).0 in
        let parts = or_parts (column_at objects topic) (column_at motions topic)
        (sym (either_at objects motions topic (object_low (object.object).0)) ∙ none) in
        held_alike objects of_objects shown shown' object parts.0;
    motions = λ test none.
        let topic : ℕ = motion_topic (test.layer).0 in
        let parts = or_parts (column_at objects topic) (column_at motions topic)
        (sym (either_at objects motions topic (motion_low (test.layer).0)) ∙ none) in
        moved_alike motions of_motions moves moves' test parts.1;
  }

-- one plane more ------------------------------------------------------------------------------------------------------

pub one_object_more : (height : ℕ) (words others : List (List Bool)) (topics more : List Bool) (n m : ℕ) (same : Bool)
    → HasTopicsOf topics more → (not same ≡ true → column_at more (object_topic n) ≡ true) →
    (same ≡ true → (row : ℕ) → row < height → column_at no_columns row ≡ false →
    row_of words (n * height + row) ≡ row_of others (n * height + row)) → m ≡ n + 1 →
    AreObjectsOfBoth height words others topics n → AreObjectsOfBoth height words others more m
one_object_more height words others topics more n m same kept wanted is next before object low none =
    elim (cases_eq object n) [
      | inl e ↦ by same refl e
      | inr apart ↦ before object (omega (arith, low, next, apart))
          (not_before topics more kept (object_topic object) (object_low object) none)
    ]
  where
    by : (s : Bool) → same ≡ s → object ≡ n → (row : ℕ) → row < height → column_at no_columns row ≡ false →
        row_of words (object * height + row) ≡ row_of others (object * height + row)
    by true e at = rw at (is e)
    by false e at = absurd (false≢true (sym none ∙ ap (λ (k : ℕ). column_at more (object_topic k)) at
        ∙ wanted (ap not e)))

pub one_layer_more : (table : List ℕ) (height : ℕ) (words others : List (List Bool)) (topics more : List Bool)
    (n m : ℕ) (same : Bool) → HasTopicsOf topics more →
    (not same ≡ true → column_at more (motion_topic n) ≡ true) →
    (same ≡ true → AreFiveOfBoth height words others (motions_from table n)) → m ≡ n + 1 →
    AreMotionsOfBoth table height words others topics n → AreMotionsOfBoth table height words others more m
one_layer_more table height words others topics more n m same kept wanted is next before layer low none =
    elim (cases_eq layer n) [
      | inl e ↦ by same refl e
      | inr apart ↦ before layer (omega (arith, low, next, apart))
          (not_before topics more kept (motion_topic layer) (motion_low layer) none)
    ]
  where
    by : (s : Bool) → same ≡ s → layer ≡ n → AreFiveOfBoth height words others (motions_from table layer)
    by true e at = rw at (is e)
    by false e at = absurd (false≢true (sym none ∙ ap (λ (k : ℕ). column_at more (motion_topic k)) at
        ∙ wanted (ap not e)))

-- the other board's own table, sides and layers
pub grids_alike : (table table' : List ℕ) (width width' height height' layers layers' : ℕ)
    (words others : List (List Bool)) (topics objects motions : List Bool) → table' ≡ table → width' ≡ width →
    height' ≡ height → layers' ≡ layers → topics ≡ either_columns objects motions →
    DifferOnlyAbout (either_columns objects motions) (grid_shown table width height layers words)
    (grid_shown table width height layers others) →
    DifferOnlyAbout topics (grid_shown table width height layers words)
    (grid_shown table' width' height' layers' others)
grids_alike table table' width width' height height' layers layers' words others topics objects motions same wide high
    deep are differ = rw (same, wide, high, deep, are) differ
