-- Boards that keys stand for.
use Rattle.std.proofs.Common.{◌≡◌, ◌∙◌, ℕ, ◌+◌, ◌*◌, ◌/◌, ◌%◌, ◌<◌, ◌≤◌, ◌&&◌, inl, inr, Bool, true, false, Option}
use Rattle.std.proofs.Common.{Some, None, List, [], get_or, length, map, refl, sym, ap, ap₂, subst, arith}
use Rattle.std.specs.Prelude.{find, nat_eq, nat_lt, option_map, replicate, slice_get}
use Rattle.std.specs.List.{range_with_len}
use Rattle.std.proofs.Math.Nat.{mul-le-mul_left}
use Rattle.std.proofs.lemmas.Bool.{cases_Bool, cases_lt, lt-ltb, le-ltb}
use Rattle.std.proofs.lemmas.List.{get_or-replicate, get_or_past, length-replicate}
use Rattle.std.proofs.lemmas.Nat.{div-add-mod', div-mul-add, div_below, mod-mul-add, mod_below}
use Rattle.std.proofs.lemmas.Nat.Bits.{bit_at-zero}
use Rattle.std.proofs.lemmas.Option.{slice_get-get_or, slice_get_within, same_Some}
use Rattle.ps_model.specs.declared.pieces.Motion.{Motion}
use Rattle.ps_model.specs.declared.pieces.Motion.TheVariants.{Still}
use Rattle.ps_model.specs.declared.pieces.ObjectId.{ObjectId}
use Rattle.ps_model.specs.declared.pieces.Slot.{Slot}
use Rattle.ps_model.specs.declared.pieces.Slot.TheVariants.{Bare}
use Rattle.ps_model.specs.board.Grid.{Grid, cell_at, motion_in, object_in, slot_of}
use Rattle.ps_model.specs.board.Movement.{is_number}
use Rattle.ps_model.specs.meaning.Fitting.{same_motion}
use Rattle.ps_board.specs.ColumnSets.{bit_is_set, column_at}
use Rattle.ps_board.specs.Rows.{DifferOnlyOn}
use Rattle.ps_rows.specs.Members.{on_layer}
use Rattle.ps_rows.specs.PackedKeys.{AreTurned, IsWithin, KeepsKeys, Turned, differs, flipped, key_bit, number_at}
use Rattle.ps_rows.specs.Packings.{HaveRoomBy, IsKey, Packed, cells_by, has_packed, packed, packed_grid, slot_by}
use Rattle.ps_rows.specs.Planes.{AreEmptyFrom, has_cell, row_of}
use Rattle.ps_rows.specs.Showing.{AreMotionsShown, AreObjectsShown, cell_shown, cells_shown, grid_shown, motion_plane}
use Rattle.ps_rows.specs.Showing.{motion_shown, motions_from, numbered, object_shown, slot_shown}
use Rattle.ps_rows.specs.TurnedPlaces.{differ_at, has_layer, has_place, is_turned, keys_differ, rows_differ}
use Rattle.ps_rows.proofs.Alike.{back, slot_object}
use Rattle.ps_rows.proofs.Listed.{find_same}
use Rattle.ps_rows.proofs.MemberRanges.{listed_member}
use Rattle.ps_rows.proofs.Moves.{first_motion-is, first_motion-same, not_still, plane_low}
use Rattle.ps_rows.proofs.Rests.{slot_read}
use Rattle.ps_rows.proofs.RowsApart.{object_at}
use Rattle.ps_rows.proofs.Sets.{none_at}
use Rattle.ps_rows.proofs.Tables.{tabled_at, tabled_same}
use Rattle.ps_rows.proofs.TurnedKeys.{flipped_assoc, flipped_back, flipped_both, flipped_own}

abbrev grid_with : ℕ → ℕ → ℕ → List (List Slot) → Grid
grid_with width height layers cells = record { width = width; height = height; layers = layers; cells = cells }

-- slots of boards at rest ----------------------------------------------------------------------------------------------

back_of : (object : Option ℕ) (motion : Motion) → back (object_in (slot_of (option_map numbered object) motion)) ≡ object
unfolding back
back_of None motion = refl
back_of (Some o) motion = refl

still_of : (object : Option ℕ) → motion_in (slot_of (option_map numbered object) Still) ≡ Still
still_of None = refl
still_of (Some o) = refl

-- an object of a layer that a board has
layer_of : (table : List ℕ) (layers o l : ℕ) → slice_get table o ≡ Some l → has_layer table layers o ≡ nat_lt l layers
layer_of table layers o l own =
    let within : o < length table = slice_get_within table o l own in
    ap (λ (layer : ℕ). nat_lt layer layers)
    (same_Some (get_or table o layers) l (sym (slice_get-get_or table o layers within) ∙ own))

module _ (table : List ℕ) (layers height cells : ℕ) (words : List (List Bool)) (has : ℕ → ℕ → Bool) where
  -- what tells of the cells of planes shows what they do, if nothing moves
  pub shown_by : ((c o l : ℕ) → c < cells → l < layers → slice_get table o ≡ Some l → has c o ≡ has_cell height words c o)
      → ((c l : ℕ) → c < cells → l < layers → motion_shown table height words c l ≡ Still) →
      cells_by table layers has cells ≡ cells_shown table layers height words cells
  unfolding cells_by slot_by cells_shown cell_shown slot_shown object_shown
  shown_by same still =
      tabled_same (λ c. map (slot_by table has c) (range_with_len 0 layers)) (cell_shown table layers height words) cells
      (λ c inside. tabled_same (slot_by table has c) (slot_shown table height words c) layers (λ l on.
      ap₂ (λ (object : Option ℕ) (motion : Motion). slot_of (option_map numbered object) motion)
      (find_same (has c) (has_cell height words c) (on_layer table l) (λ o listed.
      same c o l inside on (listed_member table l o listed)))
      (sym (still c l inside on))))

  module _ (same : cells_shown table layers height words cells ≡ cells_by table layers has cells) where
    slot_same : (c l : ℕ) → c < cells → l < layers → slot_shown table height words c l ≡ slot_by table has c l
    unfolding cells_by
    slot_same c l inside on =
        sym (slot_read table layers height words cells c l inside on)
        ∙ ap (λ (all : List (List Slot)). get_or (get_or all c []) l Bare) same
        ∙ ap (λ (slots : List Slot). get_or slots l Bare)
        (tabled_at (λ k. map (slot_by table has k) (range_with_len 0 layers)) cells c [] inside)
        ∙ tabled_at (slot_by table has c) layers l Bare on

    object_same : (c l : ℕ) → c < cells → l < layers →
        object_shown table height words c l ≡ find (has c) (on_layer table l)
    unfolding slot_by
    object_same c l inside on =
        sym (slot_object table height words c l)
        ∙ ap (λ (slot : Slot). back (object_in slot)) (slot_same c l inside on)
        ∙ back_of (find (has c) (on_layer table l)) Still

    -- such a board has the cells that are told of
    pub cells_same : AreObjectsShown table height words cells → HaveRoomBy table layers has cells →
        (c o l : ℕ) → c < cells → l < layers → slice_get table o ≡ Some l → has_cell height words c o ≡ has c o
    cells_same shown room c o l inside on own =
        shown c o l inside own
        ∙ ap (λ (object : Option ℕ). is_number object o) (object_same c l inside on)
        ∙ sym (room c o l inside on own)

    quiet_same : (c l : ℕ) → c < cells → l < layers → motion_in (slot_shown table height words c l) ≡ Still
    unfolding slot_by
    quiet_same c l inside on =
        ap motion_in (slot_same c l inside on) ∙ still_of (find (has c) (on_layer table l))

    pub still_same : AreMotionsShown table layers height words cells → (c l : ℕ) → c < cells → l < layers →
        motion_shown table height words c l ≡ Still
    unfolding motion_shown
    still_same moving c l inside on =
        first_motion-is (has_cell height words c) (motions_from table l) Still (λ m q h.
        moving c l m q inside on h ∙ ap (same_motion m) (quiet_same c l inside on))

    pub none_moves : AreMotionsShown table layers height words cells → (c l : ℕ) (m : Motion) (q : ℕ) → c < cells →
        l < layers → motion_plane (motions_from table l) m ≡ Some q → has_cell height words c q ≡ false
    none_moves moving c l m q inside on h =
        moving c l m q inside on h ∙ ap (same_motion m) (quiet_same c l inside on) ∙ not_still (motions_from table l) m q h

  -- no motion where no plane of motions has a column
  pub still_empty : AreEmptyFrom (length table * height) words → (c l : ℕ) →
      motion_shown table height words c l ≡ Still
  unfolding motion_shown has_cell
  still_empty empty c l =
      first_motion-is (has_cell height words c) (motions_from table l) Still (λ m q h.
      let low : motions_from table l ≤ q = plane_low (motions_from table l) m q h in
      let past : length table ≤ q = omega (arith, low) in
      let more : height * length table ≤ height * q = mul-le-mul_left height past in
      ap (λ (word : List Bool). column_at word (c / height)) (empty (q * height + c % height) (omega (arith, more)))
      ∙ none_at (c / height) ∙ sym (not_still (motions_from table l) m q h))

-- what tells of cells as another does
module _ (table : List ℕ) (layers cells : ℕ) (has other : ℕ → ℕ → Bool)
    (same : (c o l : ℕ) → c < cells → l < layers → slice_get table o ≡ Some l → has c o ≡ other c o) where
  found_same : (c l : ℕ) → c < cells → l < layers → find (has c) (on_layer table l) ≡ find (other c) (on_layer table l)
  found_same c l inside on =
      find_same (has c) (other c) (on_layer table l) (λ o listed. same c o l inside on (listed_member table l o listed))

  pub cells_by-same : cells_by table layers has cells ≡ cells_by table layers other cells
  unfolding cells_by slot_by
  cells_by-same =
      tabled_same (λ c. map (slot_by table has c) (range_with_len 0 layers))
      (λ c. map (slot_by table other c) (range_with_len 0 layers)) cells (λ c inside.
      tabled_same (slot_by table has c) (slot_by table other c) layers (λ l on.
      ap (λ (object : Option ℕ). slot_of (option_map numbered object) Still) (found_same c l inside on)))

  pub room_same : HaveRoomBy table layers other cells → HaveRoomBy table layers has cells
  room_same room = λ c o l inside on own.
      same c o l inside on own ∙ room c o l inside on own
      ∙ ap (λ (object : Option ℕ). is_number object o) (sym (found_same c l inside on))

-- a board's own cells have room
pub own_room : (table : List ℕ) (layers height cells : ℕ) (words : List (List Bool)) →
    AreObjectsShown table height words cells → HaveRoomBy table layers (has_cell height words) cells
unfolding object_shown
own_room table layers height cells words shown = λ c o l inside on own. shown c o l inside own

-- places -----------------------------------------------------------------------------------------------------------------

module _ (width height : ℕ) where
  abbrev cells : ℕ
  cells = width * height

  pub place_has : (words : List (List Bool)) (o c : ℕ) → c < cells →
      has_place width height words (o * cells + c) ≡ has_cell height words c o
  unfolding has_place
  place_has words o c inside =
      ap₂ (λ (cell object : ℕ). has_cell height words cell object) (mod-mul-add o cells c inside)
      (div-mul-add o cells c inside)

-- the empty key ----------------------------------------------------------------------------------------------------------

empty_bit : (n k : ℕ) → key_bit (replicate n 0) k ≡ false
unfolding key_bit
empty_bit n k =
    ap (λ (w : ℕ). bit_is_set w (k % 64))
    (elim (cases_lt (k / 64) n) [
      | inl low ↦ get_or-replicate n (k / 64) 0 0 low
      | inr high ↦ get_or_past (replicate n 0) (k / 64) 0 (rw length-replicate high)
    ])
    ∙ ap (λ (bit : ℕ). nat_eq bit 1) (bit_at-zero (k % 64))

pub empty_within : (n count : ℕ) → IsWithin count (replicate n 0)
empty_within n count = λ k far. empty_bit n k

module _ (table : List ℕ) (width height layers : ℕ) (start : List (List Bool)) (numbers : List ℕ) (count : ℕ) where
  abbrev made : Packed
  made = packed table width height layers start numbers count

  empty_has : (n c o : ℕ) → has_packed made (replicate n 0) c o ≡ has_cell height start c o
  unfolding has_packed differs
  empty_has n c o = ap (λ (b : Bool). flipped b (has_cell height start c o)) (empty_bit n (number_at numbers (o * (width * height) + c)))

  pub empty_grid : AreEmptyFrom (length table * height) start → (n : ℕ) →
      packed_grid made (replicate n 0) ≡ grid_shown table width height layers start
  empty_grid rest n =
      ap (grid_with width height layers)
      (shown_by table layers height (width * height) start (has_packed made (replicate n 0))
      (λ c o l inside on own. empty_has n c o)
      (λ c l inside on. still_empty table layers height (width * height) start (has_packed made (replicate n 0)) rest c l))

  pub empty_key : AreObjectsShown table height start (width * height) → (n : ℕ) → IsKey made (replicate n 0)
  empty_key shown n = record {
    within = empty_within n count;
    room = room_same table layers (width * height) (has_packed made (replicate n 0)) (has_cell height start)
        (λ c o l inside on own. empty_has n c o) (own_room table layers height (width * height) start shown);
  }

  -- keys, where further places are noted ---------------------------------------------------------------------------------

  module _ (more : List ℕ) (counted : ℕ) (kept : KeepsKeys numbers count more counted) where
    abbrev grown : Packed
    grown = packed table width height layers start more counted

    kept_has : (words : List ℕ) → IsWithin count words → (c o : ℕ) → has_packed grown words c o ≡ has_packed made words c o
    unfolding has_packed
    kept_has words low c o =
        ap (λ (b : Bool). flipped b (has_cell height start c o)) ((kept words low).1 (o * (width * height) + c))

    pub kept_key : (words : List ℕ) → IsKey made words → IsKey grown words
    kept_key words key = record {
      within = (kept words key.within).0;
      room = room_same table layers (width * height) (has_packed grown words) (has_packed made words)
          (λ c o l inside on own. kept_has words key.within c o) key.room;
    }

    pub kept_grid : (words : List ℕ) → IsKey made words → packed_grid grown words ≡ packed_grid made words
    kept_grid words key =
        ap (grid_with width height layers)
        (cells_by-same table layers (width * height) (has_packed grown words) (has_packed made words)
        (λ c o l inside on own. kept_has words key.within c o))

    -- packing ------------------------------------------------------------------------------------------------------------

    module _ (words after : List ℕ) (rows : List Bool) (from to : List (List Bool)) (down : 0 < height)
        (key : IsKey made words)
        (here : grid_shown table width height layers from ≡ packed_grid made words)
        (shown : AreObjectsShown table height from (width * height))
        (showing : AreObjectsShown table height to (width * height))
        (rest : AreEmptyFrom (length table * height) to)
        (apart : DifferOnlyOn rows (grid_shown table width height layers from)
        (grid_shown table width height layers to))
        (turned : AreTurned (rows_differ width height (length table) from to rows) numbers words counted more after) where
      cells_here : cells_shown table layers height from (width * height)
          ≡ cells_by table layers (has_packed made words) (width * height)
      cells_here = ap (λ (g : Grid). g.cells) here

      -- in the other rows the same objects stand
      objects_there : (c l : ℕ) → c < width * height → l < layers → column_at rows (c % height) ≡ false →
          object_shown table height from c l ≡ object_shown table height to c l
      unfolding cells_shown cell_shown
      objects_there c l inside on off =
          let e : c / height * height + c % height ≡ c = div-add-mod' c height in
          let P : ℕ → Type 0 = λ cell. map object_in (cell_at (grid_shown table width height layers from) cell) ≡
          map object_in (cell_at (grid_shown table width height layers to) cell) in
          let all = sym (ap (map object_in) (tabled_at (cell_shown table layers height from) (width * height) c [] inside))
          ∙ subst P e (apart (c % height) (mod_below c height down) off (c / height)
          (div_below c height width down inside))
          ∙ ap (map object_in) (tabled_at (cell_shown table layers height to) (width * height) c [] inside) in
          sym (slot_object table height from c l)
          ∙ ap back (sym (object_at table height layers from c l on)
          ∙ ap (λ (objects : List (Option ObjectId)). get_or objects l None) all
          ∙ object_at table height layers to c l on)
          ∙ slot_object table height to c l

      turned_by : (o c l : ℕ) → c < width * height → l < layers → slice_get table o ≡ Some l →
          rows_differ width height (length table) from to rows (o * (width * height) + c)
          ≡ flipped (has_cell height from c o) (has_cell height to c o)
      unfolding rows_differ differ_at
      turned_by o c l inside on own =
          let object : (o * (width * height) + c) / (width * height) ≡ o = div-mul-add o (width * height) c inside in
          let cell : (o * (width * height) + c) % (width * height) ≡ c = mod-mul-add o (width * height) c inside in
          let among : nat_lt o (length table) ≡ true = lt-ltb o (length table) (slice_get_within table o l own) in
          ap₂ (λ (p r : ℕ). nat_lt p (length table) && (column_at rows (r % height)
          && flipped (has_place width height from (o * (width * height) + c))
          (has_place width height to (o * (width * height) + c)))) object cell
          ∙ ap (λ (b : Bool). b && (column_at rows (c % height)
          && flipped (has_place width height from (o * (width * height) + c))
          (has_place width height to (o * (width * height) + c)))) among
          ∙ ap₂ (λ (a b : Bool). column_at rows (c % height) && flipped a b) (place_has width height from o c inside)
          (place_has width height to o c inside)
          ∙ elim (cases_Bool (column_at rows (c % height))) [
            | inl among_rows ↦
                ap (λ (b : Bool). b && flipped (has_cell height from c o) (has_cell height to c o)) among_rows
            | inr off ↦
                let same : has_cell height from c o ≡ has_cell height to c o =
                shown c o l inside own
                ∙ ap (λ (object : Option ℕ). is_number object o) (objects_there c l inside on off)
                ∙ sym (showing c o l inside own) in
                ap (λ (b : Bool). b && flipped (has_cell height from c o) (has_cell height to c o)) off
                ∙ sym (ap (λ (b : Bool). flipped b (has_cell height to c o)) same ∙ flipped_own (has_cell height to c o))
          ]

      has_to : (c o l : ℕ) → c < width * height → l < layers → slice_get table o ≡ Some l →
          has_packed grown after c o ≡ has_cell height to c o
      unfolding has_packed
      has_to c o l inside on own =
          let place : ℕ = o * (width * height) + c in
          let was : flipped (differs numbers words place) (has_cell height start c o) ≡ has_cell height from c o =
          sym (cells_same table layers height (width * height) from (has_packed made words) cells_here shown key.room c o l
          inside on own) in
          let which : Bool = rows_differ width height (length table) from to rows place in
          ap (λ (b : Bool). flipped b (has_cell height start c o)) (turned.turned place)
          ∙ flipped_assoc which (differs numbers words place) (has_cell height start c o)
          ∙ ap₂ flipped (turned_by o c l inside on own) was
          ∙ flipped_back (has_cell height from c o) (has_cell height to c o)

      pub packed_key : IsKey grown after
      packed_key = record {
        within = turned.within;
        room = room_same table layers (width * height) (has_packed grown after) (has_cell height to) has_to
            (own_room table layers height (width * height) to showing);
      }

      pub packed_to : packed_grid grown after ≡ grid_shown table width height layers to
      packed_to =
          ap (grid_with width height layers)
          (shown_by table layers height (width * height) to (has_packed grown after) has_to
          (λ c l inside on. still_empty table layers height (width * height) to (has_packed grown after) rest c l))

  -- unpacking --------------------------------------------------------------------------------------------------------------

  module _ (words others : List ℕ) (before after : List (List Bool)) (down : 0 < height) (key : IsKey made words)
      (other : IsKey made others)
      (here : grid_shown table width height layers before ≡ packed_grid made words)
      (shown : AreObjectsShown table height before (width * height))
      (moving : AreMotionsShown table layers height before (width * height))
      (turned : Turned (is_turned table layers (width * height) (keys_differ numbers words others))
      (has_place width height before) (has_place width height after))
      (behind : (q : ℕ) → length table * height ≤ q → row_of after q ≡ row_of before q) where
    cells_now : cells_shown table layers height before (width * height)
        ≡ cells_by table layers (has_packed made words) (width * height)
    cells_now = ap (λ (g : Grid). g.cells) here

    cell_turned : (c o l : ℕ) → c < width * height → slice_get table o ≡ Some l → has_cell height after c o
        ≡ flipped (nat_lt l layers && keys_differ numbers words others (o * (width * height) + c))
        (has_cell height before c o)
    unfolding is_turned
    cell_turned c o l inside own =
        let place : ℕ = o * (width * height) + c in
        let object : place / (width * height) ≡ o = div-mul-add o (width * height) c inside in
        sym (place_has width height after o c inside) ∙ turned place
        ∙ ap₂ (λ (b h : Bool). flipped (b && keys_differ numbers words others place) h)
        (ap (has_layer table layers) object ∙ layer_of table layers o l own)
        (place_has width height before o c inside)

    has_other : (c o l : ℕ) → c < width * height → l < layers → slice_get table o ≡ Some l →
        has_packed made others c o ≡ has_cell height after c o
    unfolding has_packed keys_differ
    has_other c o l inside on own =
        let place : ℕ = o * (width * height) + c in
        sym (cell_turned c o l inside own
        ∙ ap (λ (b : Bool). flipped (b && flipped (differs numbers words place) (differs numbers others place))
        (has_cell height before c o)) (lt-ltb l layers on)
        ∙ ap (flipped (flipped (differs numbers words place) (differs numbers others place)))
        (cells_same table layers height (width * height) before (has_packed made words) cells_now shown key.room c o l
        inside on own)
        ∙ flipped_both (differs numbers words place) (differs numbers others place) (has_cell height start c o))

    pub unpacked_objects : AreObjectsShown table height after (width * height)
    unfolding object_shown
    unpacked_objects = λ c o l inside own. elim (cases_lt l layers) [
      | inl on ↦
          sym (has_other c o l inside on own) ∙ other.room c o l inside on own
          ∙ ap (λ (object : Option ℕ). is_number object o)
          (find_same (has_packed made others c) (has_cell height after c) (on_layer table l) (λ p listed.
          has_other c p l inside on (listed_member table l p listed)))
      | inr off ↦
          let left : (p : ℕ) → slice_get table p ≡ Some l → has_cell height after c p ≡ has_cell height before c p = λ p its.
          cell_turned c p l inside its
          ∙ ap (λ (b : Bool). flipped (b && keys_differ numbers words others (p * (width * height) + c))
          (has_cell height before c p)) (le-ltb l layers off) in
          left o own ∙ shown c o l inside own
          ∙ ap (λ (object : Option ℕ). is_number object o)
          (find_same (has_cell height before c) (has_cell height after c) (on_layer table l) (λ p listed.
          sym (left p (listed_member table l p listed))))
    ]

    behind_same : (c q : ℕ) → length table ≤ q → has_cell height after c q ≡ has_cell height before c q
    unfolding has_cell
    behind_same c q past =
        let more : height * length table ≤ height * q = mul-le-mul_left height past in
        ap (λ (word : List Bool). column_at word (c / height)) (behind (q * height + c % height) (omega (arith, more)))

    still_after : (c l : ℕ) → c < width * height → l < layers → motion_shown table height after c l ≡ Still
    unfolding motion_shown
    still_after c l inside on =
        first_motion-same (has_cell height after c) (has_cell height before c) (motions_from table l) (λ q low high.
        behind_same c q (omega (arith, low)))
        ∙ still_same table layers height (width * height) before (has_packed made words) cells_now moving c l inside on

    pub unpacked_motions : AreMotionsShown table layers height after (width * height)
    unfolding slot_shown
    unpacked_motions = λ c l m q inside on plane.
        let low : motions_from table l ≤ q = plane_low (motions_from table l) m q plane in
        behind_same c q (omega (arith, low))
        ∙ none_moves table layers height (width * height) before (has_packed made words) cells_now moving c l m q inside on
        plane
        ∙ sym (ap (λ (motion : Motion). same_motion m (motion_in (slot_of (option_map numbered
        (object_shown table height after c l)) motion))) (still_after c l inside on)
        ∙ ap (same_motion m) (still_of (object_shown table height after c l))
        ∙ not_still (motions_from table l) m q plane)

    pub unpacked_grid : grid_shown table width height layers after ≡ packed_grid made others
    unpacked_grid =
        sym (ap (grid_with width height layers)
        (shown_by table layers height (width * height) after (has_packed made others) has_other still_after))
