-- What planes show behind a put.
use Rattle.std.proofs.Common.{◌≡◌, ◌≢◌, ℕ, ◌+◌, ◌*◌, ◌/◌, ◌<◌, ◌≤◌, ◌⊎◌, inl, inr, Option, Some, None, List, [], length}
use Rattle.std.proofs.Common.{get_or, map, refl, sym, ap, ◌∙◌, arith, Bool}
use Rattle.std.specs.Prelude.{slice_get, slice_set, option_map}
use Rattle.std.specs.List.{range_with_len}
use Rattle.std.proofs.Math.Nat.{mul-le-mul_left}
use Rattle.std.proofs.lemmas.Bool.{cases_eq, cases_lt}
use Rattle.std.proofs.lemmas.Option.{same_Some, slice_get_within}
use Rattle.ps_model.specs.declared.pieces.Motion.{Motion}
use Rattle.ps_model.specs.declared.pieces.Motion.TheVariants.{Still}
use Rattle.ps_model.specs.declared.pieces.Slot.{Slot}
use Rattle.ps_model.specs.board.Grid.{slot_of, motion_in}
use Rattle.ps_model.specs.board.Movement.{is_number}
use Rattle.ps_model.specs.meaning.Fitting.{same_motion}
use Rattle.ps_rows.specs.Planes.{HavePlanes, has_cell, with_cell_in}
use Rattle.ps_rows.specs.Members.{on_layer}
use Rattle.ps_rows.specs.Showing.{numbered, motions_from, motion_plane, motion_planes, object_shown, motion_shown}
use Rattle.ps_rows.specs.Showing.{slot_shown, cell_shown, cells_shown, with_slot_in, AreObjectsShown, AreMotionsShown}
use Rattle.ps_rows.proofs.Marks.{length-with_cell_in, has_cell-in_elsewhere, has_cell-in_there}
use Rattle.ps_rows.proofs.Listed.{find_same, find_object}
use Rattle.ps_rows.proofs.MemberRanges.{member_listed, listed_member, not_listed}
use Rattle.ps_rows.proofs.Moves.{plane_low, plane_high, five_true, five_false, five_high, chosen_motion}
use Rattle.ps_rows.proofs.Moves.{first_motion-is, first_motion-same}
use Rattle.ps_rows.proofs.Tables.{tabled_at, tabled_same, tabled_set}
use Rattle.ps_model.specs.declared.limits.TheConstants.{SIDE_LIMIT}

-- an object, or none, is put into a cell of a layer
pub record IsPut (table : List ℕ) (layers height cells : ℕ) (words : List (List Bool)) (cell layer : ℕ)
    (object : Option ℕ) (motion : Motion) : Type 0 where
  pub some : 0 < height
  pub columns : (c : ℕ) → c < cells → c / height < SIDE_LIMIT
  pub inside : cell < cells
  pub layered : layer < layers
  pub whole : length words ≡ motions_from table layers * height
  pub room : (o : ℕ) → object ≡ Some o → slice_get table o ≡ Some layer
  pub still : object ≡ None → motion ≡ Still

-- each plane stands whole in the words
pub plane_whole : (table : List ℕ) (layers height long plane : ℕ) → long ≡ motions_from table layers * height →
    plane < motions_from table layers → (plane + 1) * height ≤ long
plane_whole table layers height long plane whole below =
    let next : plane + 1 ≤ motions_from table layers = omega arith in
    let more : height * (plane + 1) ≤ height * motions_from table layers = mul-le-mul_left height next in
    omega arith

pub planes_whole : (table : List ℕ) (layers height : ℕ) (words : List (List Bool)) (layer : ℕ) →
    length words ≡ motions_from table layers * height → HavePlanes height words (on_layer table layer)
planes_whole table layers height words layer whole = λ plane listed.
    let own : plane < length table = slice_get_within table plane layer (listed_member table layer plane listed) in
    let below : plane < motions_from table layers = omega arith in
    plane_whole table layers height (length words) plane whole below

-- the same cell and layer, or not
cases_slot : (c cell l layer : ℕ) → ((c ≡ cell) × (l ≡ layer)) ⊎ (c ≡ cell → l ≢ layer)
cases_slot c cell l layer = elim (cases_eq c cell) [
  | inl e ↦ elim (cases_eq l layer) [ inl f ↦ inl (e, f) | inr n ↦ inr (λ x. n) ]
  | inr n ↦ inr (λ x y. n x)
]

-- two layers' planes of motions lie apart
pub apart_from : (table : List ℕ) (l layer q : ℕ) → l ≢ layer → motions_from table l ≤ q →
    q < motions_from table l + 5 →
    (q < motions_from table layer) ⊎ (motions_from table layer + 5 ≤ q)
apart_from table l layer q n low high = elim (cases_lt l layer)
    [ inl below ↦ inl (omega arith) | inr above ↦ inr (omega arith) ]

-- the motion of a slot
motion_of_slot : (object : Option ℕ) (motion : Motion) → (object ≡ None → motion ≡ Still) →
    motion_in (slot_of (option_map numbered object) motion) ≡ motion
motion_of_slot None motion still = sym (still refl)
motion_of_slot (Some o) motion still = refl

module _ (table : List ℕ) (layers height cells : ℕ) (words : List (List Bool)) (cell layer : ℕ) (object : Option ℕ)
    (motion : Motion) (put : IsPut table layers height cells words cell layer object motion) where
  abbrev first : ℕ
  first = motions_from table layer

  abbrev between : List (List Bool)
  between = with_cell_in height cell object words (on_layer table layer)

  abbrev written : List (List Bool)
  written = with_slot_in height cell (on_layer table layer) object first motion words

  low : cell / height < SIDE_LIMIT
  low = put.columns cell put.inside

  have_objects : HavePlanes height words (on_layer table layer)
  have_objects = planes_whole table layers height words layer put.whole

  have_motions : HavePlanes height between (motion_planes first)
  have_motions = λ q listed.
      let high : q < first + 5 = five_high first q listed in
      let layered : layer < layers = put.layered in
      let below : q < motions_from table layers = omega arith in
      rw (length-with_cell_in height cell object words (on_layer table layer))
      (plane_whole table layers height (length words) q put.whole below)

  pub written_long : length written ≡ length words
  written_long = length-with_cell_in height cell (motion_plane first motion) between (motion_planes first)
      ∙ length-with_cell_in height cell object words (on_layer table layer)

  object_there : (o : ℕ) → slice_get table o ≡ Some layer → has_cell height written cell o ≡ is_number object o
  object_there o own =
      let below : o < length table = slice_get_within table o layer own in
      let before : o < first = omega arith in
      has_cell-in_elsewhere height cell (motion_plane first motion) between (motion_planes first) cell o put.some low
      have_motions (λ e. five_false first o (inl before))
      ∙ has_cell-in_there height cell object words (on_layer table layer) o put.some low have_objects
      (member_listed table layer o own)

  object_elsewhere : (c o : ℕ) → c < cells → o < length table → (c ≡ cell → slice_get table o ≡ Some layer → ⊥) →
      has_cell height written c o ≡ has_cell height words c o
  object_elsewhere c o inside below apart =
      let before : o < first = omega arith in
      has_cell-in_elsewhere height cell (motion_plane first motion) between (motion_planes first) c o put.some
      (put.columns c inside) have_motions (λ e. five_false first o (inl before))
      ∙ has_cell-in_elsewhere height cell object words (on_layer table layer) c o put.some (put.columns c inside)
      have_objects (λ e. not_listed table layer o (apart e))

  motion_there : (m : Motion) (q : ℕ) → motion_plane first m ≡ Some q →
      has_cell height written cell q ≡ same_motion m motion
  motion_there m q h =
      has_cell-in_there height cell (motion_plane first motion) between (motion_planes first) q put.some low
      have_motions (five_true first m q h) ∙ chosen_motion first motion m q h

  motion_elsewhere : (c l q : ℕ) → c < cells → motions_from table l ≤ q → q < motions_from table l + 5 →
      (c ≡ cell → l ≢ layer) → has_cell height written c q ≡ has_cell height words c q
  motion_elsewhere c l q inside above below apart =
      let behind : length table ≤ q = omega arith in
      has_cell-in_elsewhere height cell (motion_plane first motion) between (motion_planes first) c q put.some
      (put.columns c inside) have_motions
      (λ e. five_false first q (apart_from table l layer q (apart e) above below))
      ∙ has_cell-in_elsewhere height cell object words (on_layer table layer) c q put.some (put.columns c inside)
      have_objects
      (λ e. not_listed table layer q (λ own. let within : q < length table = slice_get_within table q layer own in
      absurd (omega arith)))

  -- the object and the motion that are shown there, and elsewhere
  shown_there : object_shown table height written cell layer ≡ object
  unfolding object_shown
  shown_there =
      find_same (has_cell height written cell) (is_number object) (on_layer table layer) (λ o listed.
      object_there o (listed_member table layer o listed))
      ∙ find_object object (on_layer table layer) (λ o e. member_listed table layer o (put.room o e))

  shown_elsewhere : (c l : ℕ) → c < cells → (c ≡ cell → l ≢ layer) →
      object_shown table height written c l ≡ object_shown table height words c l
  unfolding object_shown
  shown_elsewhere c l inside apart =
      find_same (has_cell height written c) (has_cell height words c) (on_layer table l)
      (λ o listed.
      let own : slice_get table o ≡ Some l = listed_member table l o listed in
      object_elsewhere c o inside (slice_get_within table o l own) (λ e other.
      apart e (same_Some l layer (sym own ∙ other))))

  moved_there : motion_shown table height written cell layer ≡ motion
  unfolding motion_shown
  moved_there = first_motion-is (has_cell height written cell) first motion motion_there

  moved_elsewhere : (c l : ℕ) → c < cells → (c ≡ cell → l ≢ layer) →
      motion_shown table height written c l ≡ motion_shown table height words c l
  unfolding motion_shown
  moved_elsewhere c l inside apart =
      first_motion-same (has_cell height written c) (has_cell height words c) (motions_from table l) (λ q above below.
      motion_elsewhere c l q inside above below apart)

  pub slot_there : slot_shown table height written cell layer ≡ slot_of (option_map numbered object) motion
  unfolding slot_shown
  slot_there = rw (shown_there, moved_there) refl

  pub slot_elsewhere : (c l : ℕ) → c < cells → (c ≡ cell → l ≢ layer) →
      slot_shown table height written c l ≡ slot_shown table height words c l
  unfolding slot_shown
  slot_elsewhere c l inside apart = rw (shown_elsewhere c l inside apart, moved_elsewhere c l inside apart) refl

  -- what the board's type keeps
  pub objects_kept : AreObjectsShown table height words cells → AreObjectsShown table height written cells
  objects_kept shown = λ c o l inside own. elim (cases_slot c cell l layer) [
    | inl same ↦
        let here : slice_get table o ≡ Some layer = own ∙ ap Some same.1 in
        rw (same.0, same.1, shown_there) (object_there o here)
    | inr apart ↦
        object_elsewhere c o inside (slice_get_within table o l own) (λ e other.
        apart e (same_Some l layer (sym own ∙ other)))
        ∙ shown c o l inside own ∙ sym (ap (λ (x : Option ℕ). is_number x o) (shown_elsewhere c l inside apart))
  ]

  pub motions_kept : AreMotionsShown table layers height words cells → AreMotionsShown table layers height written cells
  motions_kept shown = λ c l m q inside on plane. elim (cases_slot c cell l layer) [
    | inl same ↦
        let here : motion_plane first m ≡ Some q = ap (λ (k : ℕ). motion_plane (motions_from table k) m) (sym same.1)
        ∙ plane in
        rw (same.0, same.1, slot_there, motion_of_slot object motion put.still) (motion_there m q here)
    | inr apart ↦
        motion_elsewhere c l q inside (plane_low (motions_from table l) m q plane)
        (plane_high (motions_from table l) m q plane) apart
        ∙ shown c l m q inside on plane ∙ sym (ap (λ (s : Slot).
        same_motion m (motion_in s)) (slot_elsewhere c l inside apart))
  ]

  -- the cells that are shown
  cell_there : cell_shown table layers height written cell ≡ slice_set (cell_shown table layers height words cell)
      layer (slot_of (option_map numbered object) motion)
  unfolding cell_shown
  cell_there =
      tabled_set (slot_shown table height written cell) (slot_shown table height words cell) layers layer put.layered
      (λ l on other. slot_elsewhere cell l put.inside (λ e. other))
      ∙ ap (λ (s : Slot). slice_set (map (slot_shown table height words cell) (range_with_len 0 layers)) layer s)
      slot_there

  cell_elsewhere : (c : ℕ) → c < cells → c ≢ cell →
      cell_shown table layers height written c ≡ cell_shown table layers height words c
  unfolding cell_shown
  cell_elsewhere c inside other =
      tabled_same (slot_shown table height written c) (slot_shown table height words c) layers (λ l on.
      slot_elsewhere c l inside (λ e. absurd (other e)))

  pub cells_put : cells_shown table layers height written cells
      ≡ slice_set (cells_shown table layers height words cells) cell
      (slice_set (get_or (cells_shown table layers height words cells) cell []) layer
      (slot_of (option_map numbered object) motion))
  unfolding cells_shown
  cells_put =
      let before = map (cell_shown table layers height words) (range_with_len 0 cells) in
      let here : get_or before cell [] ≡ cell_shown table layers height words cell =
      tabled_at (cell_shown table layers height words) cells cell [] put.inside in
      tabled_set (cell_shown table layers height written) (cell_shown table layers height words) cells cell put.inside
      cell_elsewhere
      ∙ ap (λ (s : List Slot). slice_set before cell s) (cell_there
      ∙ ap (λ (s : List Slot). slice_set s layer (slot_of (option_map numbered object) motion)) (sym here))
