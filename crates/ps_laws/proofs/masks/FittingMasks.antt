-- A mask fits the cells that have what is asked: both look for an object on its own layer.
use Rattle.std.proofs.Common.{◌≡◌, ℕ, Bool, true, false, ◌&&◌, ◌||◌, not, nat_eq, Option, Some, None, List, [], ◌∷◌}
use Rattle.std.proofs.Common.{◌++◌, refl, sym, ◌∙◌, ap, ap₂, slice_index_or, flat_map, filter_map, map}
use Rattle.std.specs.Prelude.{All}
use Rattle.std.specs.List.{list_all, list_any}
use Rattle.std.proofs.lemmas.Bool.{eqb-true, and_parts}
use Rattle.std.proofs.lemmas.List.{map-append}
use Rattle.std.proofs.lemmas.List.Elements.{All-head, All-tail, filter_map-append}
use Rattle.std.proofs.lemmas.List.Folds.{list_all-append, list_any-append}
use Rattle.std.proofs.Math.Bool.{and-true, and_assoc, and-or_distrib_right}
use Rattle.ps_model.specs.declared.pieces.LayerId.{LayerId}
use Rattle.ps_model.specs.declared.pieces.ObjectId.{ObjectId}
use Rattle.ps_model.specs.declared.pieces.Motion.{Motion}
use Rattle.ps_model.specs.declared.pieces.Slot.{Slot}
use Rattle.ps_model.specs.declared.pieces.Slot.TheVariants.{Bare, Holds}
use Rattle.ps_model.specs.declared.compiled.Claim.{Claim}
use Rattle.ps_model.specs.board.Grid.{motion_in}
use Rattle.ps_model.specs.names.Names.{Names, layer_of, same_object}
use Rattle.ps_model.specs.meaning.Wanted.{Wanted, Each, Any, Without, denied}
use Rattle.ps_model.specs.meaning.Fitting.{same_motion, holds_so, stands, has}
use Rattle.ps_model.specs.meaning.Rewriting.{own_layer, claims_of}
use Rattle.ps_model.specs.meaning.Compiled.{slot_holds, is_held_in, moves_as_asked, mask_fits}
use Rattle.ps_model.specs.meaning.CompiledCells.{needed_by, one_of_by, motion_test, layered, mask_of}
use Rattle.ps_laws.specs.CompilingCells.{IsOnOneLayer}

-- tests ---------------------------------------------------------------------------------------------------------------

-- one of two, and another
-- two pairs, paired the other way
and-paired : (a b c d : Bool) → ((a && b) && (c && d)) ≡ ((a && c) && (b && d))
and-paired true true c d = refl
and-paired true false true d = refl
and-paired true false false d = refl
and-paired false b c d = refl

-- neither of two
not-or : (a b : Bool) → not (a || b) ≡ (not a && not b)
not-or true b = refl
not-or false b = refl

-- the four parts of a mask
abbrev together : Bool → Bool → Bool → Bool → Bool
together needed barred one_of motions = needed && (not barred && (one_of && motions))

-- those of two masks
both_together : (a b c d e f g h : Bool) → together (a && e) (b || f) (c && g) (d && h) ≡
    (together a b c d && together e f g h)
both_together a b c d e f g h =
    ap₂ (λ (x y : Bool). (a && e) && (x && y)) (not-or b f) (and-paired c g d h)
    ∙ ap (λ x. (a && e) && x) (and-paired (not b) (not f) (c && d) (g && h))
    ∙ and-paired a e (not b && (c && d)) (not f && (g && h))

-- tests of what is made of two lists
all_made : {A B : Type 0} (test : B → Bool) (made : A → B) (xs ys : List A) →
    list_all test (map made (xs ++ ys)) ≡ (list_all test (map made xs) && list_all test (map made ys))
all_made test made xs ys = ap (list_all test) (map-append made xs ys) ∙ list_all-append test (map made xs) (map made ys)

any_made : {A B : Type 0} (test : B → Bool) (made : A → B) (xs ys : List A) →
    list_any test (map made (xs ++ ys)) ≡ (list_any test (map made xs) || list_any test (map made ys))
any_made test made xs ys = ap (list_any test) (map-append made xs ys) ∙ list_any-append test (map made xs) (map made ys)

all_kept : {A B : Type 0} (test : B → Bool) (kept : A → Option B) (xs ys : List A) →
    list_all test (filter_map kept (xs ++ ys)) ≡
    (list_all test (filter_map kept xs) && list_all test (filter_map kept ys))
all_kept test kept xs ys = ap (list_all test) (filter_map-append kept xs ys)
    ∙ list_all-append test (filter_map kept xs) (filter_map kept ys)

-- where an object stands ----------------------------------------------------------------------------------------------

holds_somehow : (object : ObjectId) (slot : Slot) → slot_holds object slot ≡ holds_so object None slot
holds_somehow object Bare = refl
holds_somehow object (Holds held motion) = sym (and-true (same_object object held))

holds_moving : (object : ObjectId) (motion : Motion) (slot : Slot) →
    (slot_holds object slot && same_motion motion (motion_in slot)) ≡ holds_so object (Some motion) slot
holds_moving object motion Bare = refl
holds_moving object motion (Holds held moves) = refl

-- what a cell has -----------------------------------------------------------------------------------------------------

module _ (names : Names) (cell : List Slot) where
  -- the object stands on its layer of the cell
  abbrev here : ObjectId → Bool
  here object = is_held_in cell (layered names object)

  -- all of them do, one of them does
  abbrev all_here : List ObjectId → Bool
  all_here objects = list_all (is_held_in cell) (map (layered names) objects)

  abbrev any_here : List ObjectId → Bool
  any_here objects = list_any (is_held_in cell) (map (layered names) objects)

  -- the layers that are claimed with a word have its motion
  abbrev all_move : List Claim → Bool
  all_move claims = list_all (moves_as_asked cell) (filter_map motion_test claims)

  -- the layer of an object has that motion
  abbrev moves_on : LayerId → Motion → Bool
  moves_on layer motion = moves_as_asked cell (record { layer = layer; motion = motion })

  stands_somehow : (object : ObjectId) → here object ≡ stands names cell None object
  stands_somehow object = holds_somehow object (slice_index_or cell (layer_of names object) Bare)

  stands_moving : (motion : Motion) (object : ObjectId) →
      (here object && moves_on (own_layer names object) motion) ≡ stands names cell (Some motion) object
  stands_moving motion object = holds_moving object motion (slice_index_or cell (layer_of names object) Bare)

  -- each of some objects, with the motions that their layers are asked for
  all_standing : (asked : Option Motion) (objects : List ObjectId) →
      (all_here objects && all_move (claims_of names (Each objects asked))) ≡ list_all (stands names cell asked) objects
  all_standing None [] = refl
  all_standing (Some motion) [] = refl
  all_standing None (object ∷ objects) =
      and_assoc (here object) (all_here objects) (all_move (claims_of names (Each objects None)))
      ∙ ap₂ (λ (a b : Bool). a && b) (stands_somehow object) (all_standing None objects)
  all_standing (Some motion) (object ∷ objects) =
      and-paired (here object) (all_here objects) (moves_on (own_layer names object) motion)
      (all_move (claims_of names (Each objects (Some motion))))
      ∙ ap₂ (λ (a b : Bool). a && b) (stands_moving motion object) (all_standing (Some motion) objects)

  -- one of some objects, however they move
  any_somehow : (objects : List ObjectId) → any_here objects ≡ list_any (stands names cell None) objects
  any_somehow [] = refl
  any_somehow (object ∷ objects) = ap₂ (λ (a b : Bool). a || b) (stands_somehow object) (any_somehow objects)

  -- one of some objects on a layer, with the motion that the layer is asked for
  any_moving : (layer : ℕ) (motion : Motion) (objects : List ObjectId) →
      list_all (λ object. nat_eq (layer_of names object) layer) objects ≡ true →
      (any_here objects && moves_on (record { 0 = layer }) motion) ≡ list_any (stands names cell (Some motion)) objects
  any_moving layer motion [] on = refl
  any_moving layer motion (object ∷ objects) on =
      let here_too = and_parts (nat_eq (layer_of names object) layer)
      (list_all (λ other. nat_eq (layer_of names other) layer) objects) on in
      and-or_distrib_right (here object) (any_here objects) (moves_on (record { 0 = layer }) motion)
      ∙ ap₂ (λ (a b : Bool). a || b)
      (ap (λ (l : ℕ). here object && moves_on (record { 0 = l }) motion)
      (sym (eqb-true (layer_of names object) layer here_too.0)) ∙ stands_moving motion object)
      (any_moving layer motion objects here_too.1)

  any_standing : (asked : Option Motion) (objects : List ObjectId) → IsOnOneLayer names (Any objects asked) →
      (any_here objects && all_move (claims_of names (Any objects asked))) ≡ list_any (stands names cell asked) objects
  any_standing asked [] on = refl
  any_standing None (first ∷ others) on = and-true (any_here (first ∷ others)) ∙ any_somehow (first ∷ others)
  any_standing (Some motion) (first ∷ others) on =
      let moves : Bool = moves_on (own_layer names first) motion in
      ap (λ a. any_here (first ∷ others) && a) (and-true moves)
      ∙ and-or_distrib_right (here first) (any_here others) moves
      ∙ ap₂ (λ (a b : Bool). a || b) (stands_moving motion first) (any_moving (layer_of names first) motion others on)

  -- one of each of some lists
  abbrev any_of_each : List (List ObjectId) → Bool
  any_of_each lists = list_all (λ objects. list_any (is_held_in cell) objects) (map (map (layered names)) lists)

  -- what one item asks
  one_fits : (wanted : Wanted) → IsOnOneLayer names wanted →
      together (all_here (needed_by wanted)) (any_here (denied wanted)) (any_of_each (one_of_by wanted))
      (all_move (claims_of names wanted)) ≡ has names cell wanted
  one_fits (Each objects asked) on = all_standing asked objects
  one_fits (Any objects asked) on = ap (λ a. a && all_move (claims_of names (Any objects asked)))
      (and-true (any_here objects)) ∙ any_standing asked objects on
  one_fits (Without objects) on = and-true (not (any_here objects)) ∙ ap (λ a. not a) (any_somehow objects)

  -- what all items ask
  all_fit : (left : List Wanted) → All (IsOnOneLayer names) left →
      mask_fits (mask_of names left) cell ≡ list_all (has names cell) left
  all_fit [] on = refl
  all_fit (wanted ∷ left) on =
      let needed : List ObjectId = flat_map needed_by left in
      let barred : List ObjectId = flat_map denied left in
      let one_of : List (List ObjectId) = flat_map one_of_by left in
      let claims : List Claim = flat_map (claims_of names) left in
      ap₂ (λ (a b : Bool). together a b (any_of_each (one_of_by wanted ++ one_of))
      (all_move (claims_of names wanted ++ claims)))
      (all_made (is_held_in cell) (layered names) (needed_by wanted) needed)
      (any_made (is_held_in cell) (layered names) (denied wanted) barred)
      ∙ ap₂ (λ (c d : Bool). together (all_here (needed_by wanted) && all_here needed)
      (any_here (denied wanted) || any_here barred) c d)
      (all_made (λ objects. list_any (is_held_in cell) objects) (map (layered names)) (one_of_by wanted) one_of)
      (all_kept (moves_as_asked cell) motion_test (claims_of names wanted) claims)
      ∙ both_together (all_here (needed_by wanted)) (any_here (denied wanted)) (any_of_each (one_of_by wanted))
      (all_move (claims_of names wanted))
      (all_here needed) (any_here barred) (any_of_each one_of) (all_move claims)
      ∙ ap₂ (λ (a b : Bool). a && b) (one_fits wanted (All-head (IsOnOneLayer names) wanted left on))
      (all_fit left (All-tail (IsOnOneLayer names) wanted left on))

-- the mask of what the left asks
pub masks-fit : (names : Names) (left : List Wanted) → All (IsOnOneLayer names) left → (cell : List Slot) →
    mask_fits (mask_of names left) cell ≡ list_all (has names cell) left
masks-fit names left on cell = all_fit names cell left on
