-- Sets of columns of a row against what a mask asks.
use Rattle.std.proofs.Common.{◌≡◌, ◌∙◌, ℕ, ◌+◌, ◌*◌, ◌<◌, ◌≤◌, inl, inr, Bool, true, false, not, ◌&&◌, ◌||◌}
use Rattle.std.proofs.Common.{Option, Some, None, List, [], ◌∷◌, length, get_or, take, map, refl, sym, ap, ap₂, arith}
use Rattle.std.specs.Prelude.{nat_lt, slice_get, option_map}
use Rattle.std.specs.List.{list_all, list_any, range_with_len}
use Rattle.std.proofs.lemmas.Bool.{cases_lt, and_parts, false_from_ne_true, false≢true, ltb-true, lt-ltb}
use Rattle.std.proofs.lemmas.Bool.{le-ltb}
use Rattle.std.proofs.Math.Bool.{and-true}
use Rattle.std.proofs.lemmas.Option.{none-some}
use Rattle.std.proofs.lemmas.Nat.{mul-add-lt, div-mul-add, mod-mul-add}
use Rattle.std.proofs.lemmas.List.{get_or_past}
use Rattle.std.proofs.lemmas.List.Folds.{list_all_more, list_any_more}
use Rattle.std.proofs.lemmas.List.FromFn.{length-map-range_with_len}
use Rattle.ps_model.specs.declared.pieces.ObjectId.{ObjectId}
use Rattle.ps_model.specs.declared.pieces.Direction.TheVariants.{Up, Down, Left, Right}
use Rattle.ps_model.specs.declared.pieces.Motion.{Motion}
use Rattle.ps_model.specs.declared.pieces.Motion.TheVariants.{Still, Going, Acting}
use Rattle.ps_model.specs.declared.pieces.Slot.{Slot}
use Rattle.ps_model.specs.declared.pieces.Slot.TheVariants.{Bare}
use Rattle.ps_model.specs.declared.compiled.LayeredObject.{LayeredObject}
use Rattle.ps_model.specs.declared.compiled.MotionTest.{MotionTest}
use Rattle.ps_model.specs.board.Grid.{Grid, cell_at, slot_of, motion_in}
use Rattle.ps_model.specs.board.Movement.{is_number}
use Rattle.ps_model.specs.meaning.Fitting.{same_motion}
use Rattle.ps_model.specs.meaning.Compiled.{CellMask, slot_holds, mask_fits}
use Rattle.ps_laws.proofs.common.SameThings.{is_number-true}
use Rattle.ps_rows.specs.Planes.{has_cell, row_of}
use Rattle.ps_rows.specs.Showing.{numbered, motions_from, motion_plane, object_shown, motion_shown, slot_shown}
use Rattle.ps_rows.specs.Showing.{cell_shown, cells_shown, grid_shown, AreObjectsShown, AreMotionsShown}
use Rattle.ps_rows.specs.RowTests.{IsPartOf, IsRowOf, IsWithin, held, held_all, held_any, held_of_each, moved}
use Rattle.ps_rows.specs.RowTests.{five_rows, is_free, moved_all, narrowed}
use Rattle.ps_rows.proofs.Sets.{both_at, either_at, none_at, wide_of, wide_on, without_at}
use Rattle.ps_rows.proofs.Listed.{same_tests}
use Rattle.ps_rows.proofs.Rests.{slot_read, object_room}
use Rattle.ps_rows.proofs.Tables.{tabled_at}
use Rattle.ps_board.specs.ColumnSets.{both_columns, column_at, columns_below, columns_without, either_columns}
use Rattle.ps_board.specs.ColumnSets.{no_columns}
use Rattle.ps_model.specs.declared.limits.TheConstants.{SIDE_LIMIT}

-- loops ---------------------------------------------------------------------------------------------------------------

module _ {X : Type 0} (g : Grid) (row : ℕ) (q : List Slot → X → Bool) (narrow : g.width ≤ SIDE_LIMIT) where
  pub all_none : (all : List Bool) → all ≡ columns_below g.width → IsRowOf g row all (λ cell. list_all (q cell) [])
  all_none all is = wide_on all g.width narrow is

  pub any_none : IsRowOf g row no_columns (λ cell. list_any (q cell) [])
  any_none = λ x h. none_at x

  pub all_more : (xs : List X) (i : ℕ) (d : X) (word part : List Bool) → i < length xs →
      IsRowOf g row word (λ cell. list_all (q cell) (take i xs)) →
      IsRowOf g row part (λ cell. q cell (get_or xs i d)) →
      IsRowOf g row (both_columns word part) (λ cell. list_all (q cell) (take (i + 1) xs))
  all_more xs i d word part below front here = λ x h.
      let cell : List Slot = cell_at g (x * g.height + row) in
      both_at word part x (omega (arith, h, narrow)) ∙ ap (λ (b : Bool). b && column_at part x) (front x h)
      ∙ ap (λ (b : Bool). list_all (q cell) (take i xs) && b) (here x h)
      ∙ sym (list_all_more (q cell) xs i d below)

  pub any_more : (xs : List X) (i : ℕ) (d : X) (word part : List Bool) → i < length xs →
      IsRowOf g row word (λ cell. list_any (q cell) (take i xs)) →
      IsRowOf g row part (λ cell. q cell (get_or xs i d)) →
      IsRowOf g row (either_columns word part) (λ cell. list_any (q cell) (take (i + 1) xs))
  any_more xs i d word part below front here = λ x h.
      let cell : List Slot = cell_at g (x * g.height + row) in
      either_at word part x (omega (arith, h, narrow)) ∙ ap (λ (b : Bool). b || column_at part x) (front x h)
      ∙ ap (λ (b : Bool). list_any (q cell) (take i xs) || b) (here x h)
      ∙ sym (list_any_more (q cell) xs i d below)

-- cells ---------------------------------------------------------------------------------------------------------------

-- a slot holds an object where that is shown
holds_number : (shown : Option ℕ) (motion : Motion) (sought : ObjectId) →
    slot_holds sought (slot_of (option_map numbered shown) motion) ≡ is_number shown sought.0
holds_number None motion sought = refl
holds_number (Some o) motion sought = same_tests sought.0 o o sought.0 (λ e. sym e) (λ e. sym e)

-- five motions, and rest
pub rest_is_none : (motion : Motion) →
    not ((((same_motion (Going Up) motion || same_motion (Going Down) motion) || same_motion (Going Left) motion) ||
    same_motion (Going Right) motion) || same_motion Acting motion)
    ≡ same_motion Still motion
rest_is_none Still = refl
rest_is_none (Going Up) = refl
rest_is_none (Going Down) = refl
rest_is_none (Going Left) = refl
rest_is_none (Going Right) = refl
rest_is_none Acting = refl

pub not_rest : (motion : Motion) → (motion ≡ Still → ⊥) → same_motion motion Still ≡ false
not_rest Still n = absurd (n refl)
not_rest (Going Up) n = refl
not_rest (Going Down) n = refl
not_rest (Going Left) n = refl
not_rest (Going Right) n = refl
not_rest Acting n = refl

no_plane : (first : ℕ) (motion : Motion) → motion_plane first motion ≡ None → motion ≡ Still
no_plane first Still h = refl
no_plane first (Going Up) h = absurd (none-some first (sym h))
no_plane first (Going Down) h = absurd (none-some (first + 1) (sym h))
no_plane first (Going Left) h = absurd (none-some (first + 2) (sym h))
no_plane first (Going Right) h = absurd (none-some (first + 3) (sym h))
no_plane first Acting h = absurd (none-some (first + 4) (sym h))

module _ (table : List ℕ) (width height layers : ℕ) (words : List (List Bool)) (row : ℕ) (some : 0 < height)
    (narrow : width ≤ SIDE_LIMIT)
    (under : row < height) where
  abbrev g : Grid
  g = grid_shown table width height layers words

  inside : (x : ℕ) → x < width → x * height + row < width * height
  inside x h = let place : x * height + row < height * width = mul-add-lt x height row width h under in omega arith

  -- a column of a plane's row
  column_read : (plane x : ℕ) → column_at (row_of words (plane * height + row)) x ≡ has_cell height words
      (x * height + row) plane
  unfolding has_cell
  column_read plane x = rw (mod-mul-add x height row under, div-mul-add x height row under) refl

  -- a slot of a cell, on a layer that there is, and on one that there isn't
  slot_within : (x layer : ℕ) → x < width → layer < layers → get_or (cell_at g (x * height + row)) layer Bare
      ≡ slot_shown table height words (x * height + row) layer
  slot_within x layer h on = slot_read table layers height words (width * height) (x * height + row) layer
      (inside x h) on

  slot_beyond : (x layer : ℕ) → x < width → layers ≤ layer → get_or (cell_at g (x * height + row)) layer Bare ≡ Bare
  unfolding cells_shown cell_shown
  slot_beyond x layer h off =
      ap (λ (slots : List Slot). get_or slots layer Bare)
      (tabled_at (cell_shown table layers height words) (width * height) (x * height + row) [] (inside x h))
      ∙ get_or_past (map (slot_shown table height words (x * height + row)) (range_with_len 0 layers)) layer Bare
      (rw length-map-range_with_len off)

  shown_holds : (x layer : ℕ) (sought : ObjectId) →
      slot_holds sought (slot_shown table height words (x * height + row) layer)
      ≡ is_number (object_shown table height words (x * height + row) layer) sought.0
  unfolding slot_shown
  shown_holds x layer sought =
      holds_number (object_shown table height words (x * height + row) layer)
      (motion_shown table height words (x * height + row) layer) sought

  -- an object that isn't on the layer by the table, or whose layer there isn't
  pub other_row : (sought : LayeredObject) →
      (nat_lt (sought.layer).0 layers && is_number (slice_get table (sought.object).0) (sought.layer).0) ≡ false →
      IsRowOf g row no_columns (held sought)
  other_row sought not_on = λ x h.
      let layer : ℕ = (sought.layer).0 in
      let object : ObjectId = sought.object in
      elim (cases_lt layer layers) [
        | inl on ↦
            let other : is_number (slice_get table object.0) layer ≡ false = rw (lt-ltb layer layers on) at not_on in
            let none : is_number (object_shown table height words (x * height + row) layer) object.0 ≡ false =
            false_from_ne_true (is_number (object_shown table height words (x * height + row) layer) object.0)
            (λ yes. false≢true
            (sym other
            ∙ object_room table height words (x * height + row) layer object.0
            (is_number-true (object_shown table height words (x * height + row) layer) object.0 yes))) in
            none_at x
            ∙ sym (ap (slot_holds object) (slot_within x layer h on) ∙ shown_holds x layer object ∙ none)
        | inr off ↦ none_at x ∙ sym (ap (slot_holds object) (slot_beyond x layer h off))
      ]

  -- an object that is on the layer by the table
  pub own_row : (sought : LayeredObject) (word : List Bool) → AreObjectsShown table height words (width * height) →
      (nat_lt (sought.layer).0 layers && is_number (slice_get table (sought.object).0) (sought.layer).0) ≡ true →
      word ≡ row_of words ((sought.object).0 * height + row) → IsRowOf g row word (held sought)
  own_row sought word shown both so = λ x h.
      let layer : ℕ = (sought.layer).0 in
      let object : ObjectId = sought.object in
      let parts = and_parts (nat_lt layer layers) (is_number (slice_get table object.0) layer) both in
      let on : layer < layers = ltb-true layer layers parts.0 in
      let own : slice_get table object.0 ≡ Some layer = is_number-true (slice_get table object.0) layer parts.1 in
      ap (λ (w : List Bool). column_at w x) so ∙ column_read object.0 x ∙ shown (x * height + row) object.0 layer
      (inside x h) own
      ∙ sym (ap (slot_holds object) (slot_within x layer h on) ∙ shown_holds x layer object)

  -- a layer that there isn't rests
  pub beyond_row : (test : MotionTest) (word : List Bool) → layers ≤ (test.layer).0 →
      ((x : ℕ) → x < width → column_at word x ≡ same_motion test.motion Still) → IsRowOf g row word (moved test)
  beyond_row test word off still = λ x h.
      still x h
      ∙ sym (ap (λ (slot : Slot). same_motion test.motion (motion_in slot)) (slot_beyond x (test.layer).0 h off))

  -- a layer is asked for a motion, or for rest
  pub moving_row_is : (test : MotionTest) (word : List Bool) (plane : ℕ) →
      AreMotionsShown table layers height words (width * height) → (test.layer).0 < layers →
      motion_plane (motions_from table (test.layer).0) test.motion ≡ Some plane →
      word ≡ row_of words (plane * height + row) → IsRowOf g row word (moved test)
  moving_row_is test word plane shown on asked so = λ x h.
      ap (λ (w : List Bool). column_at w x) so ∙ column_read plane x
      ∙ shown (x * height + row) (test.layer).0 test.motion plane (inside x h) on asked
      ∙ sym (ap (λ (slot : Slot). same_motion test.motion (motion_in slot)) (slot_within x (test.layer).0 h on))

  pub resting_row_is : (test : MotionTest) (all any : List Bool) → all ≡ columns_below width →
      AreMotionsShown table layers height words (width * height) → (test.layer).0 < layers →
      motion_plane (motions_from table (test.layer).0) test.motion ≡ None →
      any ≡ five_rows height words (motions_from table (test.layer).0) row →
      IsRowOf g row (columns_without all any) (moved test)
  resting_row_is test all any is shown on asked so = λ x h.
      let low : x < SIDE_LIMIT = omega (arith, h, narrow) in
      let layer : ℕ = (test.layer).0 in
      let first : ℕ = motions_from table layer in
      let motion : Motion = motion_in (slot_shown table height words (x * height + row) layer) in
      let word : ℕ → List Bool = λ plane. row_of words (plane * height + row) in
      let two : List Bool = either_columns (word first) (word (first + 1)) in
      let three : List Bool = either_columns two (word (first + 2)) in
      let four : List Bool = either_columns three (word (first + 3)) in
      let either : Bool → Bool → Bool = λ a b. a || b in
      let tells : (m : Motion) (plane : ℕ) → motion_plane first m ≡ Some plane →
      column_at (word plane) x ≡ same_motion m motion =
      λ m plane e. column_read plane x ∙ shown (x * height + row) layer m plane (inside x h) on e in
      let told : column_at any x
      ≡ ((((same_motion (Going Up) motion || same_motion (Going Down) motion) || same_motion (Going Left) motion) ||
      same_motion (Going Right) motion) || same_motion Acting motion) =
      ap (λ (w : List Bool). column_at w x) so
      ∙ either_at four (word (first + 4)) x low
      ∙ ap₂ either
      (either_at three (word (first + 3)) x low
      ∙ ap₂ either
      (either_at two (word (first + 2)) x low
      ∙ ap₂ either
      (either_at (word first) (word (first + 1)) x low
      ∙ ap₂ either (tells (Going Up) first refl) (tells (Going Down) (first + 1) refl))
      (tells (Going Left) (first + 2) refl))
      (tells (Going Right) (first + 3) refl))
      (tells Acting (first + 4) refl) in
      let still : test.motion ≡ Still = no_plane first test.motion asked in
      without_at all any x low
      ∙ ap₂ (λ (a b : Bool). a && not b) (wide_on all width narrow is x h) told
      ∙ rest_is_none motion
      ∙ ap (λ (m : Motion). same_motion m motion) (sym still)
      ∙ sym (ap (λ (slot : Slot). same_motion test.motion (motion_in slot)) (slot_within x layer h on))

-- a whole mask --------------------------------------------------------------------------------------------------------

pub and4 : (a b c d : Bool) → ((a && b) && (c && d)) ≡ (a && (b && (c && d)))
and4 true b c d = refl
and4 false b c d = refl

-- the cells that have all that it needs, and nothing that it bars
pub free_inside : (g : Grid) (row : ℕ) (needed barred : List Bool) (mask : CellMask) → g.width ≤ SIDE_LIMIT →
    IsRowOf g row needed (held_all mask.needed) → IsRowOf g row barred (held_any mask.barred) →
    IsRowOf g row (columns_without needed barred) (is_free mask)
free_inside g row needed barred mask narrow a b = λ x h.
    without_at needed barred x (omega (arith, h, narrow)) ∙ ap₂ (λ (p q : Bool). p && not q) (a x h) (b x h)

pub free_within : (g : Grid) (needed barred : List Bool) → IsWithin g needed →
    IsWithin g (columns_without needed barred)
free_within g needed barred within = λ x off low.
    without_at needed barred x low ∙ ap (λ (b : Bool). b && not (column_at barred x)) (within x off low)

-- where a mask needs one object, and bars none
pub alone_free : (g : Grid) (row : ℕ) (full held_row word : List Bool) (sought : LayeredObject) (mask : CellMask) →
    g.width ≤ SIDE_LIMIT → full ≡ columns_below g.width → mask.needed ≡ sought ∷ [] → mask.barred ≡ [] →
    IsRowOf g row held_row (held sought) → word ≡ both_columns full held_row → IsRowOf g row word (is_free mask)
alone_free g row full held_row word sought mask narrow is needed barred told so = λ x h.
    let low : x < SIDE_LIMIT = omega (arith, h, narrow) in
    let cell : List Slot = cell_at g (x * g.height + row) in
    ap (λ (w : List Bool). column_at w x) so ∙ both_at full held_row x low
    ∙ ap₂ (λ (p q : Bool). p && q) (wide_on full g.width narrow is x h) (told x h)
    ∙ sym (ap₂ (λ (xs ys : List LayeredObject). held_all xs cell && not (held_any ys cell)) needed barred
    ∙ and-true (held sought cell && true) ∙ and-true (held sought cell))

-- all columns of the board, and fewer of a set, are within it
pub full_within : (g : Grid) (full : List Bool) → full ≡ columns_below g.width → IsWithin g full
full_within g full is = λ x off low. wide_of full g.width is x low ∙ le-ltb x g.width off

pub both_within : (g : Grid) (columns word : List Bool) → IsWithin g columns → IsWithin g (both_columns columns word)
both_within g columns word within = λ x off low.
    both_at columns word x low ∙ ap (λ (b : Bool). b && column_at word x) (within x off low)

pub and3 : (a b c : Bool) → ((a && b) && c) ≡ (a && (b && c))
and3 true b c = refl
and3 false b c = refl

-- they fit
pub mask_narrowed : (g : Grid) (row : ℕ) (free word : List Bool) (mask : CellMask) →
    IsRowOf g row free (is_free mask) →
    IsPartOf g row free word (narrowed mask) → IsRowOf g row word (mask_fits mask)
mask_narrowed g row free word mask a b = λ x h.
    let cell : List Slot = cell_at g (x * g.height + row) in
    b x h ∙ ap (λ (p : Bool). p && narrowed mask cell) (a x h)
    ∙ and4 (held_all mask.needed cell) (not (held_any mask.barred cell)) (held_of_each mask.one_of cell)
    (moved_all mask.motions cell)

-- and where there are no lists and no motions, those that are free do
pub mask_free : (g : Grid) (row : ℕ) (free : List Bool) (mask : CellMask) → mask.one_of ≡ [] → mask.motions ≡ [] →
    IsRowOf g row free (is_free mask) → IsRowOf g row free (mask_fits mask)
mask_free g row free mask lists motions a = λ x h.
    let cell : List Slot = cell_at g (x * g.height + row) in
    let all : narrowed mask cell ≡ true =
    ap₂ (λ (p q : Bool). p && q) (ap (λ (xs : List (List LayeredObject)). held_of_each xs cell) lists)
    (ap (λ (xs : List MotionTest). moved_all xs cell) motions) in
    a x h ∙ sym (and-true (is_free mask cell)) ∙ sym (ap (λ (p : Bool). is_free mask cell && p) all)
    ∙ and4 (held_all mask.needed cell) (not (held_any mask.barred cell)) (held_of_each mask.one_of cell)
    (moved_all mask.motions cell)
