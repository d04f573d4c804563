-- What planes show without motions, and without anything; and how a slot is read.
use Rattle.std.proofs.Common.{◌≡◌, ℕ, ◌+◌, ◌-◌, ◌*◌, ◌/◌, ◌%◌, ◌<◌, ◌≤◌, inl, inr, true, false, Option, Some, None}
use Rattle.std.proofs.Common.{List, [], length, get_or, map, take, replicate, refl, sym, ap, ◌∙◌, arith, Bool}
use Rattle.std.specs.Prelude.{slice_get, option_map, All}
use Rattle.std.specs.List.{range_with_len}
use Rattle.std.proofs.Math.Nat.{mul-le-mul_left}
use Rattle.std.proofs.lemmas.Bool.{cases_lt}
use Rattle.std.proofs.lemmas.Nat.{mod_below}
use Rattle.std.proofs.lemmas.Option.{none-some, slice_get_within}
use Rattle.std.proofs.lemmas.List.{length-take-le, get_or_append_left, get_or-take, get_or-append_right}
use Rattle.std.proofs.lemmas.List.{get_or-replicate, get_or_past, length-replicate}
use Rattle.std.proofs.lemmas.List.FromFn.{length-map-range_with_len}
use Rattle.std.proofs.lemmas.Simd.{map-map}
use Rattle.ps_model.specs.declared.pieces.Motion.{Motion}
use Rattle.ps_model.specs.declared.pieces.Motion.TheVariants.{Still}
use Rattle.ps_model.specs.declared.pieces.Slot.{Slot}
use Rattle.ps_model.specs.declared.pieces.Slot.TheVariants.{Bare}
use Rattle.ps_model.specs.board.Grid.{slot_of, object_in, motion_in, slot_at_rest}
use Rattle.ps_model.specs.board.Movement.{is_number}
use Rattle.ps_model.specs.meaning.Fitting.{same_motion}
use Rattle.ps_laws.proofs.common.SameThings.{is_number-own}
use Rattle.ps_rows.specs.Planes.{has_cell, row_of}
use Rattle.ps_rows.specs.Members.{on_layer}
use Rattle.ps_rows.specs.Showing.{numbered, motions_from, object_shown, motion_shown, slot_shown, cell_shown}
use Rattle.ps_rows.specs.Showing.{cells_shown, cleared_from, AreObjectsShown, AreMotionsShown}
use Rattle.ps_rows.proofs.Sets.{none_at}
use Rattle.ps_rows.proofs.Listed.{find_same, find_object, find_listed}
use Rattle.ps_rows.proofs.MemberRanges.{listed_member}
use Rattle.ps_rows.proofs.Moves.{plane_low, not_still, first_motion-is}
use Rattle.ps_rows.proofs.Tables.{tabled_at, tabled_same, tabled_alike}
use Rattle.ps_board.specs.ColumnSets.{column_at, no_columns}

-- reading -------------------------------------------------------------------------------------------------------------

pub object_of_slot : (object : Option ℕ) (motion : Motion) →
    object_in (slot_of (option_map numbered object) motion) ≡ option_map numbered object
object_of_slot None motion = refl
object_of_slot (Some o) motion = refl

-- the slot of a cell among all that is shown
pub slot_read : (table : List ℕ) (layers height : ℕ) (words : List (List Bool)) (cells cell layer : ℕ) → cell < cells →
    layer < layers →
    get_or (get_or (cells_shown table layers height words cells) cell []) layer Bare ≡ slot_shown table height words
    cell layer
unfolding cells_shown cell_shown
slot_read table layers height words cells cell layer inside on =
    ap (λ (slots : List Slot). get_or slots layer Bare)
    (tabled_at (cell_shown table layers height words) cells cell [] inside)
    ∙ tabled_at (slot_shown table height words cell) layers layer Bare on

pub object_read : (table : List ℕ) (layers height : ℕ) (words : List (List Bool)) (cells cell layer : ℕ) →
    cell < cells → layer < layers →
    option_map numbered (object_shown table height words cell layer) ≡ object_in
    (get_or (get_or (cells_shown table layers height words cells) cell []) layer Bare)
unfolding slot_shown
object_read table layers height words cells cell layer inside on =
    sym (ap object_in (slot_read table layers height words cells cell layer inside on)
    ∙ object_of_slot (object_shown table height words cell layer) (motion_shown table height words cell layer))

pub motion_read : (table : List ℕ) (layers height : ℕ) (words : List (List Bool)) (cells cell layer : ℕ) →
    cell < cells → layer < layers →
    AreMotionsShown table layers height words cells →
    motion_shown table height words cell layer ≡ motion_in
    (get_or (get_or (cells_shown table layers height words cells) cell []) layer Bare)
unfolding motion_shown
motion_read table layers height words cells cell layer inside on shown =
    first_motion-is (has_cell height words cell) (motions_from table layer)
    (motion_in (slot_shown table height words cell layer)) (λ m q h. shown cell layer m q inside on h)
    ∙ ap motion_in (sym (slot_read table layers height words cells cell layer inside on))

-- what stands on a layer has room there
pub object_room : (table : List ℕ) (height : ℕ) (words : List (List Bool)) (cell layer o : ℕ) →
    object_shown table height words cell layer ≡ Some o → is_number (slice_get table o) layer ≡ true
unfolding object_shown
object_room table height words cell layer o h =
    is_number-own (slice_get table o) layer (listed_member table layer o
    (find_listed (has_cell height words cell) (on_layer table layer) o h))

-- how many cells are shown, and how many slots of each
pub cells_long : (table : List ℕ) (layers height : ℕ) (words : List (List Bool)) (cells : ℕ) →
    length (cells_shown table layers height words cells) ≡ cells
unfolding cells_shown
cells_long table layers height words cells = length-map-range_with_len (cell_shown table layers height words) 0 cells

pub slots_long : (table : List ℕ) (layers height : ℕ) (words : List (List Bool)) (cells : ℕ) →
    All (λ cell. length cell ≡ layers) (cells_shown table layers height words cells)
unfolding cells_shown cell_shown
slots_long table layers height words cells = λ k d h.
    let inside : k < cells = rw (← length-map-range_with_len (cell_shown table layers height words) 0 cells) h in
    ap length (tabled_at (cell_shown table layers height words) cells k d inside)
    ∙ length-map-range_with_len (slot_shown table height words k) 0 layers

-- rest ----------------------------------------------------------------------------------------------------------------

slot_still : (object : Option ℕ) (motion : Motion) →
    slot_of (option_map numbered object) Still ≡ slot_at_rest (slot_of (option_map numbered object) motion)
slot_still None motion = refl
slot_still (Some o) motion = refl

still_slot : (object : Option ℕ) → motion_in (slot_of (option_map numbered object) Still) ≡ Still
still_slot None = refl
still_slot (Some o) = refl

pub blank_word : (n i : ℕ) → row_of (replicate n no_columns) i ≡ no_columns
blank_word n i = elim (cases_lt i n) [
  | inl h ↦ get_or-replicate n i no_columns no_columns h
  | inr h ↦ get_or_past (replicate n no_columns) i no_columns (rw length-replicate h)
]

module _ (table : List ℕ) (layers height cells : ℕ) (words : List (List Bool)) (some : 0 < height)
    (whole : length words ≡ motions_from table layers * height) where
  abbrev start : ℕ
  start = length table * height

  abbrev rested : List (List Bool)
  rested = cleared_from start words

  within : start ≤ length words
  within =
      let less : length table ≤ motions_from table layers = omega arith in
      let more : height * length table ≤ height * motions_from table layers = mul-le-mul_left height less in
      omega arith

  front : length (take start words) ≡ start
  front = length-take-le start words within

  -- the rows of the planes of all objects stay
  pub row_kept : (o row : ℕ) → o < length table → row < height →
      row_of rested (o * height + row) ≡ row_of words (o * height + row)
  row_kept o row below under =
      let next : height * (o + 1) ≤ height * length table =
      mul-le-mul_left height (let next : o + 1 ≤ length table = omega arith in next) in
      let place : o * height + row < start = omega arith in
      let long : o * height + row < length (take start words) = rw front place in
      get_or_append_left (take start words) (replicate (length words - start) no_columns) no_columns (o * height + row)
      long
      ∙ get_or-take start words (o * height + row) no_columns place

  kept : (c o : ℕ) → o < length table → has_cell height rested c o ≡ has_cell height words c o
  unfolding has_cell
  kept c o below = ap (λ (word : List Bool). column_at word (c / height))
      (row_kept o (c % height) below (mod_below c height some))

  cleared : (c q : ℕ) → length table ≤ q → has_cell height rested c q ≡ false
  unfolding has_cell
  cleared c q above =
      let more : height * length table ≤ height * q = mul-le-mul_left height above in
      let place : start ≤ q * height + c % height = omega arith in
      let word : row_of rested (q * height + c % height) ≡ no_columns =
      get_or-append_right (take start words) (replicate (length words - start) no_columns) start
      (q * height + c % height) no_columns front place
      ∙ blank_word (length words - start) (q * height + c % height - start) in
      rw word (none_at (c / height))

  object_rested : (c l : ℕ) → object_shown table height rested c l ≡ object_shown table height words c l
  unfolding object_shown
  object_rested c l =
      find_same (has_cell height rested c) (has_cell height words c) (on_layer table l) (λ o listed.
      kept c o (slice_get_within table o l (listed_member table l o listed)))

  motion_rested : (c l : ℕ) → motion_shown table height rested c l ≡ Still
  unfolding motion_shown
  motion_rested c l =
      first_motion-is (has_cell height rested c) (motions_from table l) Still
      (λ m q h. let low : motions_from table l ≤ q = plane_low (motions_from table l) m q h in
      let above : length table ≤ q = omega arith in cleared c q above ∙ sym (not_still (motions_from table l) m q h))

  pub slot_of_rested : (c l : ℕ) → slot_shown table height rested c l ≡ slot_of
      (option_map numbered (object_shown table height words c l)) Still
  unfolding slot_shown
  slot_of_rested c l = rw (object_rested c l, motion_rested c l) refl

  slot_rested : (c l : ℕ) → slot_shown table height rested c l ≡ slot_at_rest (slot_shown table height words c l)
  unfolding slot_shown
  slot_rested c l = slot_of_rested c l ∙ slot_still (object_shown table height words c l)
      (motion_shown table height words c l)

  slot_quiet : (c l : ℕ) → motion_in (slot_shown table height rested c l) ≡ Still
  unfolding slot_shown
  slot_quiet c l = rw (motion_rested c l) (still_slot (object_shown table height rested c l))

  pub rested_objects : AreObjectsShown table height words cells → AreObjectsShown table height rested cells
  rested_objects shown = λ c o l inside own.
      kept c o (slice_get_within table o l own) ∙ shown c o l inside own
      ∙ sym (ap (λ (x : Option ℕ). is_number x o) (object_rested c l))

  pub rested_motions : AreMotionsShown table layers height rested cells
  rested_motions = λ c l m q inside on plane.
      let low : motions_from table l ≤ q = plane_low (motions_from table l) m q plane in
      let above : length table ≤ q = omega arith in
      cleared c q above ∙ sym (ap (same_motion m) (slot_quiet c l) ∙ not_still (motions_from table l) m q plane)

  cell_rested : (c : ℕ) → cell_shown table layers height rested c ≡ map slot_at_rest
      (cell_shown table layers height words c)
  unfolding cell_shown
  cell_rested c =
      tabled_same (slot_shown table height rested c) (λ l.
      slot_at_rest (slot_shown table height words c l)) layers (λ l on. slot_rested c l)
      ∙ sym (map-map slot_at_rest (slot_shown table height words c) (range_with_len 0 layers))

  pub cells_rested : cells_shown table layers height rested cells ≡ map (map slot_at_rest)
      (cells_shown table layers height words cells)
  unfolding cells_shown
  cells_rested =
      tabled_same (cell_shown table layers height rested) (λ c.
      map slot_at_rest (cell_shown table layers height words c)) cells (λ c inside. cell_rested c)
      ∙ sym (map-map (map slot_at_rest) (cell_shown table layers height words) (range_with_len 0 cells))

-- nothing -------------------------------------------------------------------------------------------------------------

module _ (table : List ℕ) (layers height cells count : ℕ) where
  abbrev nothing : List (List Bool)
  nothing = replicate count no_columns

  blank : (c p : ℕ) → has_cell height nothing c p ≡ false
  unfolding has_cell
  blank c p = rw (blank_word count (p * height + c % height)) (none_at (c / height))

  no_object : (c l : ℕ) → object_shown table height nothing c l ≡ None
  unfolding object_shown
  no_object c l =
      find_same (has_cell height nothing c) (is_number None) (on_layer table l) (λ o listed. blank c o)
      ∙ find_object None (on_layer table l) (λ o e. absurd (none-some o e))

  no_motion : (c l : ℕ) → motion_shown table height nothing c l ≡ Still
  unfolding motion_shown
  no_motion c l =
      first_motion-is (has_cell height nothing c) (motions_from table l) Still (λ m q h. blank c q
      ∙ sym (not_still (motions_from table l) m q h))

  bare : (c l : ℕ) → slot_shown table height nothing c l ≡ Bare
  unfolding slot_shown
  bare c l = rw (no_object c l) refl

  pub empty_objects : AreObjectsShown table height nothing cells
  empty_objects = λ c o l inside own. blank c o ∙ sym (ap (λ (x : Option ℕ). is_number x o) (no_object c l))

  pub empty_motions : AreMotionsShown table layers height nothing cells
  empty_motions = λ c l m q inside on plane. blank c q
      ∙ sym (ap (λ (s : Slot). same_motion m (motion_in s)) (bare c l) ∙ not_still (motions_from table l) m q plane)

  pub empty_cells : cells_shown table layers height nothing cells ≡ replicate cells (replicate layers Bare)
  unfolding cells_shown cell_shown
  empty_cells =
      tabled_alike (λ c. map (slot_shown table height nothing c) (range_with_len 0 layers)) (replicate layers Bare) 0
      cells
      (λ c. tabled_alike (slot_shown table height nothing c) Bare 0 layers (λ l. bare c l))
