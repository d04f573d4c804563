-- A motion given to one object after the other.
use Rattle.std.proofs.Common.{◌≡◌, ◌∙◌, ℕ, ◌+◌, ◌*◌, ◌<◌, ◌≤◌, ◌||◌, Bool, true, false, cond, List, [], ◌∷◌, length}
use Rattle.std.proofs.Common.{take, map, get_or, refl, sym, subst, ap, ap₂, arith}
use Rattle.std.specs.Prelude.{IsSome}
use Rattle.std.proofs.Math.Nat.{mul-le-mul}
use Rattle.std.proofs.lemmas.List.{get_or_past}
use Rattle.std.proofs.lemmas.List.Folds.{list_any_more}
use Rattle.ps_model.specs.declared.pieces.ObjectId.{ObjectId}
use Rattle.ps_model.specs.declared.pieces.Motion.{Motion}
use Rattle.ps_model.specs.declared.pieces.Slot.{Slot}
use Rattle.ps_model.specs.declared.pieces.Slot.TheVariants.{Bare, Holds}
use Rattle.ps_model.specs.board.Grid.{Grid, IsGrid, cell_at, object_in, slot_at, slot_of}
use Rattle.ps_model.specs.meaning.Compiled.{slot_holds}
use Rattle.ps_model.specs.names.Names.{is_among, same_object}
use Rattle.ps_board.specs.RowsOfGrids.{row_holders}
use Rattle.ps_board.proofs.ColumnLaws.{column_at-where}
use Rattle.ps_board.proofs.PassedColumns.{cell_below}
use Rattle.ps_board.proofs.Taken.{AreBelow}
use Rattle.ps_turn.specs.Sweeps.{AreChanged, IsLayerChanged, grid_set_moving, grid_with_cells, slot_set_moving}
use Rattle.ps_turn.proofs.SlotsChanged.{slots_agree}
use Rattle.ps_turn.proofs.WhereObjectsStand.{same_by, slot_kept}

-- the slot of an object -----------------------------------------------------------------------------------------------

-- a motion leaves it where it is
pub holds_set : (object : ObjectId) (moved : List ObjectId) (motion : Motion) (slot : Slot) →
    slot_holds object (slot_set_moving moved motion slot) ≡ slot_holds object slot
holds_set object moved motion Bare = refl
holds_set object moved motion (Holds held was) = refl

pub one_stands : (object : ObjectId) (slot : Slot) → slot_holds object slot ≡ true → IsSome (object_in slot)
one_stands object Bare here = absurd (cc)
one_stands object (Holds held was) here = refl

-- what it gets
given_here : (same : Bool) (object : ObjectId) (motion was : Motion) → same ≡ true →
    Holds object motion ≡ Holds object (cond (same || false) motion was)
given_here true object motion was here = refl
given_here false object motion was here = absurd (cc)

pub one_given : (object : ObjectId) (motion : Motion) (slot : Slot) → slot_holds object slot ≡ true →
    slot_of (object_in slot) motion ≡ slot_set_moving (object ∷ []) motion slot
one_given object motion Bare here = absurd (cc)
one_given object motion (Holds held was) here =
    given_here (same_object held object) held motion was (same_by object.0 held.0 true here)

-- and what a slot without it keeps
pub one_kept : (object : ObjectId) (motion : Motion) (slot : Slot) → slot_holds object slot ≡ false →
    slot_set_moving (object ∷ []) motion slot ≡ slot
one_kept object motion slot none = slot_kept (object ∷ []) motion slot (ap (λ (b : Bool). b || false) none)

-- a layer of a row without it
pub none_layer : (object : ObjectId) (motion : Motion) (start now : Grid) (layer row : ℕ) →
    now.width ≡ start.width → now.height ≡ start.height →
    ((x : ℕ) → x < now.width → slot_holds object (slot_at now (x * now.height + row) layer) ≡ false) →
    IsLayerChanged (slot_set_moving (object ∷ []) motion) start now layer row
none_layer object motion start now layer row wide tall none x across =
    one_kept object motion (slot_at now (x * start.height + row) layer)
    (subst (λ (h : ℕ). slot_holds object (slot_at now (x * h + row) layer) ≡ false) tall (none x (rw wide across)))

-- it stands in no column beyond the last one
pub holders_below : (g : Grid) (object : ObjectId) (layer row : ℕ) → IsGrid g →
    AreBelow g.width (row_holders g object layer row)
holders_below g object layer row shape = record {
  at = λ x low far.
      let cells : g.width * g.height ≤ x * g.height =
      mul-le-mul far (let le : g.height ≤ g.height = omega arith in le) in
      let past : length g.cells ≤ x * g.height + row = omega (arith, shape.cells, cells) in
      let bare : slot_at g (x * g.height + row) layer ≡ Bare =
      rw (get_or_past g.cells (x * g.height + row) [] past) refl in
      column_at-where (λ y. slot_holds object (slot_at g (y * g.height + row) layer)) x low
      ∙ ap (slot_holds object) bare;
}

-- and where it stood it stands when some slots have got the motion
pub still_stands : (object : ObjectId) (moved : List ObjectId) (motion : Motion) (start now : Grid)
    (layer row column : ℕ) → IsGrid start → row < start.height → layer < start.layers → column < start.width →
    AreChanged (map (slot_set_moving moved motion)) start now →
    slot_holds object (slot_at start (column * start.height + row) layer) ≡ true →
    slot_holds object (slot_at now (column * start.height + row) layer) ≡ true
still_stands object moved motion start now layer row column shape down deep across are here =
    let change : Slot → Slot = slot_set_moving moved motion in
    let cell : ℕ = column * start.height + row in
    let within : cell < length start.cells =
    rw shape.cells (cell_below start.width start.height column row across down) in
    let low : layer < length (cell_at start cell) = rw (shape.slots cell _ within) deep in
    sym (holds_set object moved motion (slot_at now cell layer))
    ∙ ap (slot_holds object) (slots_agree change start now are cell layer within low)
    ∙ holds_set object moved motion (slot_at start cell layer) ∙ here

-- the objects of a list -----------------------------------------------------------------------------------------------

none_set : (motion : Motion) (slot : Slot) → slot_set_moving [] motion slot ≡ slot
none_set motion Bare = refl
none_set motion (Holds object was) = refl

twice_set : (a b : Bool) (motion was : Motion) → cond (b || false) motion (cond a motion was) ≡ cond (a || b) motion was
twice_set true true motion was = refl
twice_set true false motion was = refl
twice_set false true motion was = refl
twice_set false false motion was = refl

one_more : (moved : List ObjectId) (count : ℕ) (object : ObjectId) (motion : Motion) → count < length moved →
    object ≡ get_or moved count object → (slot : Slot) →
    slot_set_moving (object ∷ []) motion (slot_set_moving (take count moved) motion slot) ≡
    slot_set_moving (take (count + 1) moved) motion slot
one_more moved count object motion within is Bare = refl
one_more moved count object motion within is (Holds held was) =
    ap (Holds held)
    (twice_set (is_among (take count moved) held) (same_object held object) motion was
    ∙ ap (λ (b : Bool). cond b motion was)
    (ap (λ (o : ObjectId). is_among (take count moved) held || same_object held o) is
    ∙ sym (list_any_more (same_object held) moved count object within)))

-- what holds of each slot holds of all cells
slots_twice : (f e h : Slot → Slot) → ((slot : Slot) → f (e slot) ≡ h slot) → (slots : List Slot) →
    map f (map e slots) ≡ map h slots
slots_twice f e h same [] = refl
slots_twice f e h same (slot ∷ slots) =
    ap₂ (λ (s : Slot) (t : List Slot). s ∷ t) (same slot) (slots_twice f e h same slots)

cells_twice : (f e h : Slot → Slot) → ((slot : Slot) → f (e slot) ≡ h slot) → (cells : List (List Slot)) →
    map (map f) (map (map e) cells) ≡ map (map h) cells
cells_twice f e h same [] = refl
cells_twice f e h same (cell ∷ cells) =
    ap₂ (λ (s : List Slot) (t : List (List Slot)). s ∷ t) (slots_twice f e h same cell) (cells_twice f e h same cells)

slots_kept : (f : Slot → Slot) → ((slot : Slot) → f slot ≡ slot) → (slots : List Slot) → map f slots ≡ slots
slots_kept f same [] = refl
slots_kept f same (slot ∷ slots) = ap₂ (λ (s : Slot) (t : List Slot). s ∷ t) (same slot) (slots_kept f same slots)

cells_kept : (f : Slot → Slot) → ((slot : Slot) → f slot ≡ slot) → (cells : List (List Slot)) →
    map (map f) cells ≡ cells
cells_kept f same [] = refl
cells_kept f same (cell ∷ cells) =
    ap₂ (λ (s : List Slot) (t : List (List Slot)). s ∷ t) (slots_kept f same cell) (cells_kept f same cells)

-- none has got the motion yet, and one more has
pub set_none : (motion : Motion) (g : Grid) → grid_set_moving [] motion g ≡ g
set_none motion g = ap (grid_with_cells g) (cells_kept (slot_set_moving [] motion) (none_set motion) g.cells)

pub set_more : (moved : List ObjectId) (count : ℕ) (object : ObjectId) (motion : Motion) (g : Grid) →
    count < length moved → object ≡ get_or moved count object →
    grid_set_moving (object ∷ []) motion (grid_set_moving (take count moved) motion g) ≡
    grid_set_moving (take (count + 1) moved) motion g
set_more moved count object motion g within is =
    ap (grid_with_cells g)
    (cells_twice (slot_set_moving (object ∷ []) motion) (slot_set_moving (take count moved) motion)
    (slot_set_moving (take (count + 1) moved) motion) (one_more moved count object motion within is) g.cells)
