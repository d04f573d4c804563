-- The grid of a board, as each method leaves it.
use Rattle.std.proofs.Common.{◌≡◌, ℕ, ◌*◌, ◌/◌, ◌<◌, ◌≤◌, true, Option, Some, None, List, [], length, get_or, map}
use Rattle.std.proofs.Common.{replicate, refl, sym, ap, subst, ◌∙◌, arith, Bool}
use Rattle.std.specs.Prelude.{IfSome, option_map, slice_get, slice_set}
use Rattle.std.proofs.lemmas.List.{length-replicate}
use Rattle.std.proofs.lemmas.Nat.{div_below}
use Rattle.std.proofs.lemmas.Option.{none-some, same_Some, slice_get-map}
use Rattle.ps_model.specs.declared.pieces.ObjectId.{ObjectId}
use Rattle.ps_model.specs.declared.pieces.LayerId.{LayerId}
use Rattle.ps_model.specs.declared.pieces.Motion.{Motion}
use Rattle.ps_model.specs.declared.pieces.Motion.TheVariants.{Still}
use Rattle.ps_model.specs.declared.pieces.Slot.{Slot}
use Rattle.ps_model.specs.board.Grid.{Grid, slot_of, with_slot, at_rest, empty_grid}
use Rattle.ps_model.specs.board.Movement.{is_number}
use Rattle.ps_laws.proofs.common.SameThings.{is_number-true, is_number-own}
use Rattle.ps_board.specs.Rooms.{HasRoom, HaveRoom}
use Rattle.ps_rows.specs.Members.{on_layer}
use Rattle.ps_rows.specs.Showing.{numbered, motions_from, object_shown, cells_shown, cleared_from, with_slot_in}
use Rattle.ps_rows.specs.Showing.{AreMotionsShown, AreObjectsShown, grid_shown}
use Rattle.ps_rows.specs.Planes.{AreEmptyFrom}
use Rattle.ps_rows.proofs.Puts.{IsPut, cells_put}
use Rattle.ps_rows.proofs.Rests.{object_room, cells_rested, empty_cells}
use Rattle.ps_board.specs.ColumnSets.{no_columns}
use Rattle.ps_model.specs.declared.limits.TheConstants.{SIDE_LIMIT}

-- the columns of a board's cells
pub columns_low : (width height : ℕ) → 0 < height → width ≤ SIDE_LIMIT → (c : ℕ) → c < width * height →
    c / height < SIDE_LIMIT
columns_low width height some narrow c inside = let column : c / height < width =
    div_below c height width some inside in omega arith

-- what is put has its number, and room by the table
pub room_of : (table : List ℕ) (layer : ℕ) (number : Option ℕ) (object : Option ObjectId) →
    option_map numbered number ≡ object →
    IfSome object (λ put. HasRoom (Some table) put layer) → (o : ℕ) → number ≡ Some o → slice_get table o ≡ Some layer
room_of table layer None object e room o h = absurd (none-some o h)
room_of table layer (Some n) object e room o h =
    let P : Option ObjectId → Type 0 = λ x. IfSome x (λ put. HasRoom (Some table) put layer) in
    let has : HasRoom (Some table) (numbered n) layer = subst P (sym e) room in
    ap (slice_get table) (sym (same_Some n o h)) ∙ is_number-true (slice_get table n) layer has

pub put_facts : (table : List ℕ) (width height layers : ℕ) (words : List (List Bool)) (cell layer : ℕ)
    (number : Option ℕ) (object : Option ObjectId) (motion : Motion) →
    0 < height → width ≤ SIDE_LIMIT → cell < width * height → layer < layers →
    length words ≡ motions_from table layers * height → option_map numbered number ≡ object →
    (object ≡ None → motion ≡ Still) → IfSome object (λ put. HasRoom (Some table) put layer) →
    IsPut table layers height (width * height) words cell layer number motion
put_facts table width height layers words cell layer number object motion some narrow inside on whole e still room =
    record {
      some = some;
      columns = columns_low width height some narrow;
      inside = inside;
      layered = on;
      whole = whole;
      room = room_of table layer number object e room;
      still = λ none. still (sym e ∙ ap (option_map numbered) none);
    }

-- the grid behind a put
pub put_grid : (table : List ℕ) (width height layers : ℕ) (words written : List (List Bool)) (cell layer : ℕ)
    (number : Option ℕ) (object : Option ObjectId) (motion : Motion) →
    IsPut table layers height (width * height) words cell layer number motion → option_map numbered number ≡ object →
    written ≡ with_slot_in height cell (on_layer table layer) number (motions_from table layer) motion words →
    grid_shown table width height layers written ≡ with_slot (grid_shown table width height layers words) cell layer
    (slot_of object motion)
put_grid table width height layers words written cell layer number object motion put e so =
    let before : List (List Slot) = cells_shown table layers height words (width * height) in
    rw so (ap (λ (cells : List (List Slot)). let g : Grid =
    record { width = width; height = height; layers = layers; cells = cells } in g)
    (cells_put table layers height (width * height) words cell layer number motion put
    ∙ ap (λ (slot : Slot). slice_set before cell (slice_set (get_or before cell []) layer slot))
    (ap (λ (x : Option ObjectId). slot_of x motion) e)))

-- the grid at rest
pub rest_grid : (table : List ℕ) (width height layers : ℕ) (words rested : List (List Bool)) → 0 < height →
    length words ≡ motions_from table layers * height →
    rested ≡ cleared_from (length table * height) words →
    grid_shown table width height layers rested ≡ at_rest (grid_shown table width height layers words)
rest_grid table width height layers words rested some whole so =
    rw so (ap (λ (cells : List (List Slot)). let g : Grid =
    record { width = width; height = height; layers = layers; cells = cells } in g)
    (cells_rested table layers height (width * height) words some whole))

-- the grid without objects
pub new_grid : (table : List ℕ) (width height layers count : ℕ) (words : List (List Bool)) →
    words ≡ replicate count no_columns →
    grid_shown table width height layers words ≡ empty_grid width height layers
new_grid table width height layers count words so =
    rw so (ap (λ (cells : List (List Slot)). let g : Grid =
    record { width = width; height = height; layers = layers; cells = cells } in g)
    (empty_cells table layers height (width * height) count))

-- what is shown has room
room_shown : (table : List ℕ) (layer : ℕ) (shown : Option ℕ) →
    ((o : ℕ) → shown ≡ Some o → is_number (slice_get table o) layer ≡ true) →
    IfSome (option_map numbered shown) (λ object. HasRoom (Some table) object layer)
room_shown table layer None room = tt
room_shown table layer (Some o) room = room o refl

pub shown_room : (table : List ℕ) (height : ℕ) (words : List (List Bool)) (cell layer : ℕ) (object : Option ObjectId) →
    object ≡ option_map numbered (object_shown table height words cell layer) →
    IfSome object (λ it. HasRoom (Some table) it layer)
shown_room table height words cell layer object e =
    let P : Option ObjectId → Type 0 = λ x. IfSome x (λ it. HasRoom (Some table) it layer) in
    subst P (sym e) (room_shown table layer (object_shown table height words cell layer)
    (object_room table height words cell layer))

-- each object of a game has room on its layer
pub have_room : (table : List ℕ) (own : List LayerId) → table ≡ map (λ layer. layer.0) own → HaveRoom (Some table) own
have_room table own e = λ object layer h.
    let P : List ℕ → Type 0 = λ t. is_number (slice_get t object.0) layer.0 ≡ true in
    let number : LayerId → ℕ = λ l. l.0 in
    let here : slice_get (map number own) object.0 ≡ Some layer.0 = slice_get-map number own object.0
    ∙ ap (option_map number) h in
    subst P (sym e) (is_number-own (slice_get (map number own) object.0) layer.0 here)

-- a board to which another one is copied shows what it shows, and is whole as it is
module _ (table table' : List ℕ) (width width' height height' layers layers' : ℕ) (words words' : List (List Bool))
    (same : table' ≡ table) (wide : width' ≡ width) (high : height' ≡ height) (deep : layers' ≡ layers)
    (are : words' ≡ words) where
  pub copied_whole : (long long' : ℕ) → long' ≡ length words' → length words ≡ long →
      long ≡ motions_from table layers * height → long' ≡ motions_from table' layers' * height'
  copied_whole long long' here there whole = rw (same, high, deep) (here ∙ ap length are ∙ there ∙ whole)

  pub copied_objects : AreObjectsShown table height words (width * height) →
      AreObjectsShown table' height' words' (width' * height')
  copied_objects told = rw (same, wide, high, are) told

  pub copied_motions : AreMotionsShown table layers height words (width * height) →
      AreMotionsShown table' layers' height' words' (width' * height')
  copied_motions told = rw (same, wide, high, deep, are) told

  pub copied_rest : AreEmptyFrom (length table * height) words → AreEmptyFrom (length table' * height') words'
  copied_rest told = rw (same, high, are) told

  pub copied_grid : grid_shown table' width' height' layers' words' ≡ grid_shown table width height layers words
  copied_grid = rw (same, wide, high, deep, are) refl

-- a new board has all its planes
pub new_whole : (table : List ℕ) (layers height height' count long : ℕ) (words : List (List Bool)) →
    long ≡ length words → words ≡ replicate (count * height) no_columns → count ≡ motions_from table layers →
    height' ≡ height → long ≡ motions_from table layers * height'
new_whole table layers height height' count long words here are all high =
    rw high
    (here ∙ ap length are ∙ length-replicate (count * height) no_columns ∙ ap (λ (n : ℕ). n * height) all)
