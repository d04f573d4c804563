-- What a write makes of a layer in columns of a row.
use Rattle.std.proofs.Common.{◌≡◌, ◌≢◌, ◌∙◌, ℕ, ◌+◌, ◌*◌, ◌/◌, ◌%◌, ◌<◌, ◌≤◌, inl, inr, Bool, true, false, not, ◌&&◌}
use Rattle.std.proofs.Common.{◌||◌, Option, Some, None, List, [], ◌∷◌, length, get_or, take, refl, sym, ap, ap₂, arith}
use Rattle.std.specs.Prelude.{nat_eq, find, option_map, slice_get}
use Rattle.std.specs.List.{list_any}
use Rattle.std.proofs.Math.Nat.{div-add-mod}
use Rattle.std.proofs.lemmas.Bool.{cases_Bool, cases_eq, ne_eqb}
use Rattle.std.proofs.lemmas.List.Folds.{list_any_more}
use Rattle.std.proofs.lemmas.Nat.{div_below, mul-add-lt}
use Rattle.std.proofs.lemmas.Option.{none-some, same_Some}
use Rattle.std.proofs.Math.Bool.{and-false}
use Rattle.ps_model.specs.declared.compiled.LayerWrite.{LayerWrite}
use Rattle.ps_model.specs.declared.compiled.LayeredObject.{LayeredObject}
use Rattle.ps_model.specs.declared.compiled.ObjectWrite.{ObjectWrite}
use Rattle.ps_model.specs.declared.compiled.ObjectWrite.TheVariants.{Put, Leave, Clear}
use Rattle.ps_model.specs.declared.pieces.Motion.{Motion}
use Rattle.ps_model.specs.declared.pieces.Slot.{Slot}
use Rattle.ps_model.specs.declared.pieces.Slot.TheVariants.{Bare, Holds}
use Rattle.ps_model.specs.board.Grid.{Grid, cell_at, motion_in, slot_of}
use Rattle.ps_model.specs.board.Movement.{is_number}
use Rattle.ps_model.specs.meaning.Compiled.{CellWrite, is_held_in, slot_holds, slot_freed}
use Rattle.ps_model.specs.meaning.Fitting.{same_motion}
use Rattle.ps_laws.proofs.common.SameThings.{is_number-true}
use Rattle.ps_match.specs.InRoom.{SlotHasRoom, own_write, slot_after, write_in_room}
use Rattle.ps_match.proofs.OwnWrites.{after_value, room_after}
use Rattle.ps_rows.specs.Planes.{has_cell, row_of}
use Rattle.ps_rows.specs.Members.{on_layer}
use Rattle.ps_rows.specs.RowChanges.{Change, bit_after, motions_by, motions_change, moves_kept, objects_by}
use Rattle.ps_rows.specs.RowChanges.{objects_change}
use Rattle.ps_rows.specs.RowTests.{IsRowOf, IsWithin}
use Rattle.ps_rows.specs.Showing.{numbered, motion_plane, motions_from, object_shown, motion_shown, slot_shown}
use Rattle.ps_rows.specs.Showing.{grid_shown}
use Rattle.ps_rows.specs.SlotsWritten.{IsLayerChange, goes_from, loses, one_goes, slot_if, slot_number, stands}
use Rattle.ps_rows.specs.SlotsWritten.{stands_on}
use Rattle.ps_rows.proofs.Alike.{column_read}
use Rattle.ps_rows.proofs.Rests.{object_room, slot_read}
use Rattle.ps_rows.proofs.Sets.{both_at, either_at, none_at, without_at}
use Rattle.ps_rows.proofs.SlotChanges.{motion_bit, object_bit}
use Rattle.ps_board.specs.ColumnSets.{both_columns, column_at, columns_without, either_columns, no_columns}
use Rattle.ps_model.specs.declared.limits.TheConstants.{SIDE_LIMIT}

-- what goes -----------------------------------------------------------------------------------------------------------

pub stays_here : (g : Grid) (row layer : ℕ) (each : LayeredObject) → (each.layer).0 ≢ layer →
    IsRowOf g row no_columns (λ cell. goes_from layer cell each)
stays_here g row layer each other = λ x h.
    none_at x ∙ sym (ap (λ (b : Bool). b && is_held_in (cell_at g (x * g.height + row)) each)
    (ne_eqb (each.layer).0 layer other))

one_loses : (layer : ℕ) (cell : List Slot) (each : LayeredObject) (s : Slot) → get_or cell layer Bare ≡ s →
    goes_from layer cell each ≡ (nat_eq (each.layer).0 layer && slot_holds each.object s)
one_loses layer cell each s e = elim (cases_eq (each.layer).0 layer) [
  | inl same ↦
      ap (λ (k : ℕ). nat_eq (each.layer).0 layer && slot_holds each.object (get_or cell k Bare)) same
      ∙ ap (λ (t : Slot). nat_eq (each.layer).0 layer && slot_holds each.object t) e
  | inr other ↦ rw (ne_eqb (each.layer).0 layer other) refl
]

pub goes_loses : (gone : List LayeredObject) (layer : ℕ) (cell : List Slot) (s : Slot) → get_or cell layer Bare ≡ s →
    one_goes gone layer cell ≡ loses gone layer s
goes_loses [] layer cell Bare e = refl
goes_loses [] layer cell (Holds object motion) e = refl
goes_loses (each ∷ gone) layer cell Bare e =
    ap₂ (λ (a b : Bool). a || b) (one_loses layer cell each Bare e
    ∙ and-false (nat_eq (each.layer).0 layer)) (goes_loses gone layer cell Bare e)
goes_loses (each ∷ gone) layer cell (Holds object motion) e =
    ap₂ (λ (a b : Bool). a || b) (one_loses layer cell each (Holds object motion) e)
    (goes_loses gone layer cell (Holds object motion) e)

-- what stands ---------------------------------------------------------------------------------------------------------

abbrev pub has_at : ℕ → ℕ → List (List Bool) → ℕ → ℕ → Bool
has_at height row words x plane = column_at (row_of words (plane * height + row)) x

pub standing_more : (height row : ℕ) (words : List (List Bool)) (planes : List ℕ) (k : ℕ) (word part : List Bool) →
    k < length planes → part ≡ row_of words (get_or planes k 0 * height + row) →
    ((x : ℕ) → x < SIDE_LIMIT → column_at word x ≡ list_any (has_at height row words x) (take k planes)) → (x : ℕ) →
    x < SIDE_LIMIT →
    column_at (either_columns word part) x ≡ list_any (has_at height row words x) (take (k + 1) planes)
standing_more height row words planes k word part below e so x low =
    either_at word part x low ∙ ap₂ (λ (a b : Bool). a || b) (so x low) (ap (λ (w : List Bool). column_at w x) e)
    ∙ sym (list_any_more (has_at height row words x) planes k 0 below)

abbrev found : Option ℕ → Bool
found None = false
found (Some o) = true

any_found : (f : ℕ → Bool) (xs : List ℕ) → list_any f xs ≡ found (find f xs)
any_found f [] = refl
any_found f (x ∷ xs) = elim (cases_Bool (f x)) [ inl pass ↦ rw pass refl | inr fail ↦ rw fail (any_found f xs) ]

any_same : (f h : ℕ → Bool) (xs : List ℕ) → ((x : ℕ) → f x ≡ h x) → list_any f xs ≡ list_any h xs
any_same f h [] same = refl
any_same f h (x ∷ xs) same = ap₂ (λ (a b : Bool). a || b) (same x) (any_same f h xs same)

stands_found : (object : Option ℕ) (motion : Motion) →
    stands (slot_of (option_map numbered object) motion) ≡ found object
stands_found None motion = refl
stands_found (Some o) motion = refl

pub number_shown : (table : List ℕ) (height : ℕ) (words : List (List Bool)) (cell layer : ℕ) →
    slot_number (slot_shown table height words cell layer) ≡ object_shown table height words cell layer
unfolding slot_shown
number_shown table height words cell layer = number_of (object_shown table height words cell layer)
    (motion_shown table height words cell layer) where
      number_of : (object : Option ℕ) (motion : Motion) →
          slot_number (slot_of (option_map numbered object) motion) ≡ object
      number_of None motion = refl
      number_of (Some o) motion = refl

pub stands_shown : (table : List ℕ) (height : ℕ) (words : List (List Bool)) (cell layer : ℕ) →
    list_any (has_cell height words cell) (on_layer table layer) ≡ stands (slot_shown table height words cell layer)
unfolding slot_shown object_shown
stands_shown table height words cell layer =
    any_found (has_cell height words cell) (on_layer table layer)
    ∙ sym (stands_found (find (has_cell height words cell) (on_layer table layer))
    (motion_shown table height words cell layer))

-- a row's cells -------------------------------------------------------------------------------------------------------

pub cell_again : (height row c : ℕ) → c % height ≡ row → c / height * height + row ≡ c
cell_again height row c e =
    let whole : height * (c / height) + c % height ≡ c = div-add-mod c height in
    let turned : c / height * height ≡ height * (c / height) = omega arith in
    omega (arith, whole, turned, e)

module _ (table : List ℕ) (width height layers : ℕ) (words : List (List Bool)) (layer row : ℕ) (some : 0 < height)
    (narrow : width ≤ SIDE_LIMIT) (under : row < height) (on : layer < layers) where
  abbrev g : Grid
  g = grid_shown table width height layers words

  abbrev slot : ℕ → Slot
  slot c = slot_shown table height words c layer

  wide : (c : ℕ) → c < width * height → c / height < width
  wide c inside = div_below c height width some inside

  read : (c : ℕ) → c < width * height → get_or (cell_at g c) layer Bare ≡ slot c
  read c inside = slot_read table layers height words (width * height) c layer inside on

  inside_row : (x : ℕ) → x < width → x * height + row < width * height
  inside_row x h = let place : x * height + row < height * width = mul-add-lt x height row width h under in omega arith

  pub standing_is : (word : List Bool) → ((x : ℕ) → x < SIDE_LIMIT →
      column_at word x ≡ list_any (has_at height row words x) (on_layer table layer)) →
      IsRowOf g row word (stands_on layer)
  standing_is word so = λ x h.
      so x (omega (arith, h, narrow))
      ∙ any_same (has_at height row words x) (has_cell height words (x * height + row)) (on_layer table layer) (λ p.
      column_read height words row p x under)
      ∙ stands_shown table height words (x * height + row) layer
      ∙ ap stands (sym (read (x * height + row) (inside_row x h)))

  -- room
  room_of : (t : Slot) (o : ℕ) → SlotHasRoom (Some table) layer t → slot_number t ≡ Some o →
      slice_get table o ≡ Some layer
  room_of Bare o room e = absurd (none-some o e)
  room_of (Holds object motion) o room e = ap (λ (n : ℕ). slice_get table n) (sym (same_Some object.0 o e))
      ∙ is_number-true (slice_get table object.0) layer room

  has_room : (t : Slot) → ((o : ℕ) → slot_number t ≡ Some o → is_number (slice_get table o) layer ≡ true) →
      SlotHasRoom (Some table) layer t
  has_room Bare says = tt
  has_room (Holds object motion) says = says object.0 refl

  room_before : (c : ℕ) → SlotHasRoom (Some table) layer (slot c)
  room_before c = has_room (slot c) (λ o e. object_room table height words c layer o
      (sym (number_shown table height words c layer) ∙ e))

  room_if : (write : CellWrite) (b : Bool) (s : Slot) → SlotHasRoom (Some table) layer s →
      SlotHasRoom (Some table) layer (slot_if b (slot_after (write_in_room (Some table) write) layer) s)
  room_if write true s room = room_after (Some table) layer write s room
  room_if write false s room = room

  -- columns beyond the board
  unchanged : (a k n s : Bool) → k ≡ false → s ≡ false → ((a && not k) || (n && s)) ≡ a
  unchanged true k n s e f = rw e refl
  unchanged false k n s e f = rw f (and-false n)

  module _ (columns freed : List Bool) (x p : ℕ) (before : Bool) (off : column_at columns x ≡ false)
      (none : column_at freed x ≡ false) where
    objects_beyond : (own : Option LayerWrite) → bit_after (objects_change own columns freed) p x before ≡ before
    objects_beyond None = unchanged before (column_at freed x) false (column_at no_columns x) none (none_at x)
    objects_beyond (Some write) = by write.object where
      by : (object : ObjectWrite) → bit_after (objects_by object columns freed) p x before ≡ before
      by (Put object) = unchanged before (column_at columns x) (is_number (Some object.0) p) (column_at columns x) off
          off
      by Leave = unchanged before (column_at freed x) false (column_at no_columns x) none (none_at x)
      by Clear = unchanged before (column_at columns x) false (column_at no_columns x) off (none_at x)

    motions_beyond : (first : ℕ) (kept : List Bool) (own : Option LayerWrite) → column_at kept x ≡ false →
        bit_after (motions_change first own columns freed kept) p x before ≡ before
    motions_beyond first kept None gone = unchanged before (column_at freed x) false (column_at no_columns x) none
        (none_at x)
    motions_beyond first kept (Some write) gone = by write.object write.motion where
      by : (object : ObjectWrite) (motion : Option Motion) →
          bit_after (motions_by first object motion columns freed kept) p x before ≡ before
      by (Put object) None = unchanged before (column_at freed x) false (column_at no_columns x) none (none_at x)
      by (Put object) (Some motion) = unchanged before (column_at columns x) (is_number (motion_plane first motion) p)
          (column_at columns x) off off
      by Leave None = unchanged before (column_at freed x) false (column_at no_columns x) none (none_at x)
      by Leave (Some motion) = unchanged before (column_at columns x) (is_number (motion_plane first motion) p)
          (column_at kept x) off gone
      by Clear motion = unchanged before (column_at columns x) false (column_at no_columns x) off (none_at x)

  -- the whole
  module _ (write : CellWrite) (columns gone standing : List Bool) (within : IsWithin g columns)
      (gone_is : IsRowOf g row gone (one_goes write.gone layer))
      (standing_so : moves_kept (own_write (Some table) layer write.layers) ≡ true →
      IsRowOf g row standing (stands_on layer)) where
    abbrev own : Option LayerWrite
    own = own_write (Some table) layer write.layers

    abbrev freed : List Bool
    freed = both_columns columns gone

    abbrev kept : List Bool
    kept = both_columns (columns_without columns freed) standing

    abbrev becomes : Slot → Slot
    becomes = slot_after (write_in_room (Some table) write) layer

    low : (c : ℕ) → c < width * height → c / height < SIDE_LIMIT
    low c inside = let narrower : c / height < width = wide c inside in omega (arith, narrower, narrow)

    freed_at : (c : ℕ) → c < width * height → c % height ≡ row →
        column_at freed (c / height) ≡ (column_at columns (c / height) && loses write.gone layer (slot c))
    freed_at c inside e =
        both_at columns gone (c / height) (low c inside)
        ∙ ap (λ (b : Bool). column_at columns (c / height) && b)
        (gone_is (c / height) (wide c inside) ∙ ap (λ (n : ℕ).
        one_goes write.gone layer (cell_at g n)) (cell_again height row c e)
        ∙ goes_loses write.gone layer (cell_at g c) (slot c) (read c inside))

    stands_left : (lost : List LayeredObject) (b : Bool) (s : Slot) →
        ((b && not (b && loses lost layer s)) && stands s) ≡ (b && stands (slot_freed lost layer s))
    stands_left lost false s = refl
    stands_left lost true Bare = refl
    stands_left lost true (Holds object motion) =
        elim (cases_Bool (loses lost layer (Holds object motion)))
        [ inl goes ↦ rw goes refl | inr stays ↦ rw stays refl ]

    kept_at : (c : ℕ) → c < width * height → c % height ≡ row → moves_kept own ≡ true →
        column_at kept (c / height) ≡ (column_at columns (c / height) && stands (slot_freed write.gone layer (slot c)))
    kept_at c inside e moves =
        both_at (columns_without columns freed) standing (c / height) (low c inside)
        ∙ ap₂ (λ (a b : Bool). a && b)
        (without_at columns freed (c / height) (low c inside)
        ∙ ap (λ (b : Bool). column_at columns (c / height) && not b) (freed_at c inside e))
        (standing_so moves (c / height) (wide c inside)
        ∙ ap (λ (n : ℕ). stands_on layer (cell_at g n)) (cell_again height row c e) ∙ ap stands (read c inside))
        ∙ stands_left write.gone (column_at columns (c / height)) (slot c)

    off_beyond : (x : ℕ) → width ≤ x → x < SIDE_LIMIT → column_at freed x ≡ false
    off_beyond x far below = both_at columns gone x below
        ∙ ap (λ (b : Bool). b && column_at gone x) (within x far below)

    kept_beyond : (x : ℕ) → width ≤ x → x < SIDE_LIMIT → column_at kept x ≡ false
    kept_beyond x far below =
        both_at (columns_without columns freed) standing x below
        ∙ ap (λ (b : Bool). b && column_at standing x)
        (without_at columns freed x below ∙ ap (λ (b : Bool). b && not (column_at freed x)) (within x far below))

    pub layer_changed : (first : ℕ) (objects motions : Change) → first ≡ motions_from table layer →
        objects ≡ objects_change own columns freed →
        motions ≡ motions_change first own columns freed kept →
        IsLayerChange table width height words layer row columns becomes objects motions
    layer_changed first objects motions e f h =
        rw (f, h, e) (record {
          object = λ c o inside so.
              object_bit write.gone layer columns freed (c / height) (slot c) (freed_at c inside so) own o
              ∙ ap (λ (t : Slot). is_number (slot_number (slot_if (column_at columns (c / height)) (λ s. t) (slot c)))
              o) (sym (after_value (Some table) layer write (slot c)));
          motion = λ c m q inside so plane.
              motion_bit write.gone layer columns freed (c / height) (slot c) (freed_at c inside so)
              (motions_from table layer) kept own m q plane (kept_at c inside so)
              ∙ ap (λ (t : Slot). same_motion m
              (motion_in (slot_if (column_at columns (c / height)) (λ s. t) (slot c))))
              (sym (after_value (Some table) layer write (slot c)));
          room = λ c o inside so is. room_of (slot_if (column_at columns (c / height)) becomes (slot c)) o
              (room_if write (column_at columns (c / height)) (slot c) (room_before c)) is;
          beyond_objects = λ x p before far low.
              objects_beyond columns freed x p before (within x far low) (off_beyond x far low) own;
          beyond_motions = λ x p before far low.
              motions_beyond columns freed x p before (within x far low) (off_beyond x far low)
              (motions_from table layer) kept own (kept_beyond x far low);
        })
