-- The parts of a movement: a chain of objects, one part after another, and the rest at the end.
use Rattle.std.proofs.Common.{◌≡◌, ℕ, ◌+◌, ◌*◌, ◌/◌, ◌%◌, ◌<◌, ◌≤◌, inl, inr, true, false, Some, None}
use Rattle.std.proofs.Common.{List, length, get_or, refl, sym, ◌∙◌, ap, subst, arith}
use Rattle.std.specs.Prelude.{count_by}
use Rattle.std.proofs.Math.Nat.{mod-lt, mul-le-mul}
use Rattle.std.proofs.lemmas.List.Sums.{sum_by-le, count_by-le-length}
use Rattle.std.proofs.lemmas.Nat.{div-add-mod', div_below}
use Rattle.std.proofs.lemmas.Option.{same_Some}
use Rattle.ps_model.specs.declared.pieces.ObjectId.{ObjectId}
use Rattle.ps_model.specs.declared.pieces.Direction.{Direction}
use Rattle.ps_model.specs.declared.pieces.Direction.TheVariants.{Up, Down, Left, Right}
use Rattle.ps_model.specs.declared.pieces.Motion.{Motion}
use Rattle.ps_model.specs.declared.pieces.Motion.TheVariants.{Still, Going}
use Rattle.ps_model.specs.declared.pieces.Slot.{Slot}
use Rattle.ps_model.specs.declared.pieces.Slot.TheVariants.{Bare, Holds}
use Rattle.ps_model.specs.declared.limits.TheConstants.{SIDE_LIMIT, LAYER_LIMIT}
use Rattle.ps_model.specs.board.Grid.{Grid, IsGrid, object_in, slot_at, slot_at_rest, slot_of, at_rest, with_slot}
use Rattle.ps_model.specs.board.Movement.{target, is_bare_slot}
use Rattle.ps_model.specs.board.WeakMovement.{IsWeaklySlid, landing}
use Rattle.ps_laws.proofs.common.Slots.{slot_at-at_rest, IsGrid-with_slot}
use Rattle.ps_laws.proofs.common.Counts.{count_of-at_rest}
use Rattle.ps_laws.proofs.common.Neighbours.{neighbour-within}
use Rattle.ps_board.specs.RowsOfGrids.{is_moving}
use Rattle.ps_move.specs.Visits.{way, is_going, going_count}
use Rattle.ps_move.specs.Midway.{IsMidway}
use Rattle.ps_move.specs.Entering.{IsFirst, IsNext, IsWantedByNone}
use Rattle.ps_move.specs.Order.{IsInOrder}
use Rattle.ps_move.specs.Parts.{ArePasses, IsChain, IsPart, IsStuck, IsStuckRow}
use Rattle.ps_move.proofs.Steps.{Goes, stepped, half_shape, step_fewer}
use Rattle.ps_move.proofs.Order.{aim_some, first_wins, next_wins, step_order, taken, way_here, way_some}
use Rattle.ps_move.proofs.Ends.{goes_within, next_layer}

-- nothing at all
pub part_none : (g : Grid) (layer : ℕ) → IsPart 0 g g layer
part_none g layer = record {
  shape = λ shape. shape;
  width = refl;
  height = refl;
  layers = refl;
  order = λ before o. o;
  ways = λ from to goes. goes;
  fewer = omega arith;
  same = λ e. refl;
}

-- one part after another, and the passes of the one that has more
pub part_then : (first second both : ℕ) (old now new : Grid) (layer : ℕ) → first ≤ both → second ≤ both →
    both ≤ first + second → IsPart first old now layer → IsPart second now new layer → IsPart both old new layer
part_then first second both old now new layer one other few p q = record {
  shape = λ shape. q.shape (p.shape shape);
  width = q.width ∙ p.width;
  height = q.height ∙ p.height;
  layers = q.layers ∙ p.layers;
  order = λ before o. q.order before (p.order before o);
  ways = λ from to goes. p.ways from to (q.ways from to goes);
  fewer =
      let were : going_count now + first ≤ going_count old = p.fewer in
      let less : going_count new + second ≤ going_count now = q.fewer in
      omega arith;
  same = λ none. q.same (omega (arith, none, other)) ∙ p.same (omega (arith, none, one));
}

-- where an object can go
pub goes_from : (g : Grid) (layer from to : ℕ) → IsGrid g → layer < g.layers → from < g.width * g.height →
    target g layer from ≡ Some to → slot_at g to layer ≡ Bare →
    (object : ObjectId) × (direction : Direction) × Goes g layer from object direction to
goes_from g layer from to shape low place aims bare =
    let found = aim_some g from (slot_at g from layer) to aims in
    let near = neighbour-within g found.1 from to shape.some_row place found.3 in (
      found.0,
      found.1,
      record {
        shape = shape;
        here = (place, low);
        there = (near.0, low);
        apart = near.1;
        stands = found.2;
        bare = bare;
        aims =
            found.3;
      },
    )

-- what a board shows after a shift
pub shifted : (g : Grid) (layer from to : ℕ) (object : ObjectId) (direction : Direction) →
    slot_at g from layer ≡ Holds object (Going direction) →
    with_slot (with_slot g to layer (slot_of (object_in (slot_at g from layer)) Still)) from layer Bare
    ≡ stepped g layer from object to
shifted g layer from to object direction stands =
    ap (λ (s : Slot). with_slot (with_slot g to layer (slot_of (object_in s) Still)) from layer Bare) stands

step_shape : (g : Grid) (layer cell : ℕ) (object : ObjectId) (direction : Direction) (to : ℕ) →
    Goes g layer cell object direction to → IsGrid (stepped g layer cell object to)
step_shape g layer cell object direction to h =
    IsGrid-with_slot (with_slot g to layer (Holds object Still)) cell layer Bare
    (half_shape g layer cell object direction to h) h.here

-- a cell that was just left
pub chain_none : (g : Grid) (layer left : ℕ) → IsChain 0 g g layer left (Some left)
chain_none g layer left = record {
  shape = λ shape. shape;
  width = refl;
  height = refl;
  layers = refl;
  order = λ before o. o;
  ways = λ from to goes apart. (goes, λ e. apart (ap Some (sym e)));
  fewer = omega arith;
}

-- the next one enters it
pub chain_more : (passes more : ℕ) (old now : Grid) (layer left hole from : ℕ) (object : ObjectId)
    (direction : Direction) → more ≤ passes + 1 → IsChain passes old now layer left (Some hole) →
    Goes now layer from object direction hole → IsNext now layer hole from →
    IsChain more old (stepped now layer from object hole) layer left (Some from)
chain_more passes more old now layer left hole from object direction few p h next = record {
  shape = λ shape. step_shape now layer from object direction hole h;
  width = p.width;
  height = p.height;
  layers = p.layers;
  order = λ before o.
      let were = p.order before o in
      step_order before now layer from object direction hole (Some hole) were h
      (next_wins before now layer hole from were h.shape h.bare (λ e. h.apart (sym e)) next)
      (λ other e. sym (same_Some hole other e));
  ways = λ one to goes apart. elim (way_here now layer from object direction hole h one to goes) [
    | inl w ↦ p.ways one to w.0 (λ e. taken now layer from object direction hole h one to goes
        (sym (same_Some hole to e)))
    | inr w ↦ absurd (apart (ap Some (sym w.0)))
  ];
  fewer =
      let were : going_count now + passes ≤ going_count old = p.fewer in
      let less = step_fewer now layer from object direction hole h in
      omega (arith, few);
}

none_enters : (now : Grid) (layer hole : ℕ) → IsWantedByNone now layer hole → (from to : ℕ) →
    way now layer from ≡ Some to → to ≡ hole → ⊥
none_enters now layer hole none from to goes e =
    none from (subst (λ (c : ℕ). target now layer from ≡ Some c) e
    (way_some now layer (target now layer from) to goes).0)

-- none does
pub chain_end : (passes : ℕ) (old now : Grid) (layer left hole : ℕ) → IsChain passes old now layer left (Some hole) →
    IsWantedByNone now layer hole → IsChain passes old now layer left None
chain_end passes old now layer left hole p none = record {
  shape = p.shape;
  width = p.width;
  height = p.height;
  layers = p.layers;
  order = λ before o.
      let were = p.order before o in
      record {
        midway = were.midway;
        won = were.won;
        ways = λ from to goes. elim (were.ways from to goes) [
          | inl bare ↦ inl bare
          | inr e ↦ absurd (none_enters now layer hole none from to goes (sym (same_Some hole to e)))
        ];
        left = λ cell e. absurd (cc);
        below = were.below;
        above = were.above;
      };
  ways = λ from to goes e. p.ways from to goes (λ f. none_enters now layer hole none from to goes
      (sym (same_Some hole to f)));
  fewer = p.fewer;
}

-- an object went to a cell that was bare from the start, and after it others
pub part_goes : (passes : ℕ) (old new : Grid) (layer first : ℕ) (object : ObjectId) (direction : Direction) (to : ℕ) →
    Goes old layer first object direction to → IsFirst old layer to first →
    IsChain passes (stepped old layer first object to) new layer first None → IsPart (1 + passes) old new layer
part_goes passes old new layer first object direction to h least p = record {
  shape = λ shape. p.shape (step_shape old layer first object direction to h);
  width = p.width;
  height = p.height;
  layers = p.layers;
  order = λ before o. p.order before (step_order before old layer first object direction to None o h
      (first_wins before old layer to first o h.shape h.bare least) (λ other e. absurd (cc)));
  ways = λ from at goes.
      let before = p.ways from at goes (λ e. (cc)) in
      elim (way_here old layer first object direction to h from at before.0) [
        | inl w ↦ w.0
        | inr w ↦ absurd (before.1 w.0)
      ];
  fewer =
      let were : going_count new + passes ≤ going_count (stepped old layer first object to) = p.fewer in
      let less = step_fewer old layer first object direction to h in
      omega arith;
  same = λ none. absurd (omega (arith, none));
}

-- after that nothing can go any more to the cell that was entered
pub stuck_behind : (passes : ℕ) (old new : Grid) (layer first : ℕ) (object : ObjectId) (direction : Direction)
    (to : ℕ) → Goes old layer first object direction to →
    IsChain passes (stepped old layer first object to) new layer first None →
    (cell : ℕ) → way old layer cell ≡ Some to → IsStuck new layer cell
stuck_behind passes old new layer first object direction to h p cell could = λ at goes.
    let before = p.ways cell at goes (λ e. (cc)) in
    elim (way_here old layer first object direction to h cell at before.0) [
      | inl w ↦ taken old layer first object direction to h cell at before.0
          (same_Some at to (sym w.0 ∙ could))
      | inr w ↦ absurd (before.1 w.0)
    ]

going_moves : (object : ObjectId) (direction : Direction) → is_moving (Holds object (Going direction)) ≡ true
going_moves object Up = refl
going_moves object Down = refl
going_moves object Left = refl
going_moves object Right = refl

-- what stays wants to go nowhere, and can't
pub still_aims_nowhere : (g : Grid) (layer cell to : ℕ) → is_moving (slot_at g cell layer) ≡ false →
    target g layer cell ≡ Some to → ⊥
still_aims_nowhere g layer cell to still aims =
    let found = aim_some g cell (slot_at g cell layer) to aims in
    let moves : is_moving (slot_at g cell layer) ≡ true = ap is_moving found.2 ∙ going_moves found.0 found.1 in
    let clash : true ≡ false = sym moves ∙ still in
    absurd (cc)

pub still_stuck : (g : Grid) (layer cell : ℕ) → is_moving (slot_at g cell layer) ≡ false → IsStuck g layer cell
still_stuck g layer cell still = λ to goes.
    still_aims_nowhere g layer cell to still (way_some g layer (target g layer cell) to goes).0

-- what couldn't go before can't after a part
pub stuck_still : (passes : ℕ) (old new : Grid) (layer cell : ℕ) → IsPart passes old new layer →
    IsStuck old layer cell → IsStuck new layer cell
stuck_still passes old new layer cell p stuck = λ to goes. stuck to (p.ways cell to goes)

pub stuck_row_still : (passes : ℕ) (old new : Grid) (layer row : ℕ) → IsPart passes old new layer →
    IsStuckRow old layer row → IsStuckRow new layer row
stuck_row_still passes old new layer row p stuck = λ column across.
    let across' : column < old.width = rw (← p.width) across in
    subst (λ (height : ℕ). IsStuck new layer (column * height + row)) (sym p.height)
    (stuck_still passes old new layer (column * old.height + row) p (stuck column across'))

-- where no row has an object that can go, none can
pub all_stuck : (g : Grid) (layer : ℕ) → IsGrid g → ((row : ℕ) → row < g.height → IsStuckRow g layer row) →
    (from to : ℕ) → way g layer from ≡ Some to → ⊥
all_stuck g layer shape rows from to goes =
    let within = goes_within g layer from to shape goes in
    let column : ℕ = from / g.height in
    let row : ℕ = from % g.height in
    let across : column < g.width = div_below from g.height g.width shape.some_row within in
    let down : row < g.height = mod-lt from shape.some_row in
    let same : column * g.height + row ≡ from = div-add-mod' from g.height in
    rows row down column across to (subst (λ (cell : ℕ). way g layer cell ≡ Some to) (sym same) goes)

-- the passes of a layer
pub passes_of_part : (passes : ℕ) (old new : Grid) (layer : ℕ) → IsGrid old → IsPart passes old new layer →
    ((row : ℕ) → row < new.height → IsStuckRow new layer row) → ArePasses passes old new layer (layer + 1)
passes_of_part passes old new layer shape p rows = record {
  shape = p.shape;
  width = p.width;
  height = p.height;
  layers = p.layers;
  order = λ before o. next_layer before new layer (all_stuck new layer (p.shape shape) rows) (p.order before o);
  fewer = p.fewer;
  same = p.same;
}

-- how many objects there can be
pub going_count-bound : (g : Grid) → IsGrid g → going_count g ≤ SIDE_LIMIT * SIDE_LIMIT * LAYER_LIMIT
going_count-bound g shape =
    let each : (k : ℕ) (d : List Slot) → k < length g.cells → count_by is_going (get_or g.cells k d) ≤ g.layers =
    λ (k : ℕ) (d : List Slot) (h : k < length g.cells). let n = count_by-le-length is_going (get_or g.cells k d) in
    let l = shape.slots k d h in omega arith in
    let all : going_count g ≤ length g.cells * g.layers = sum_by-le (count_by is_going) g.layers g.cells each in
    let cells : g.width * g.height ≤ SIDE_LIMIT * SIDE_LIMIT = mul-le-mul shape.columns shape.rows in
    let slots : g.width * g.height * g.layers ≤ SIDE_LIMIT * SIDE_LIMIT * LAYER_LIMIT =
    mul-le-mul cells shape.few_layers in
    let all' : going_count g ≤ g.width * g.height * g.layers = rw (← shape.cells) all in
    omega arith

-- before anything went
midway_none : (g : Grid) → IsMidway g g
midway_none g = record {
  width = refl;
  height = refl;
  layers = refl;
  goes = λ layer cell. false;
  lands = λ layer cell object motion stood. stood;
  apart = λ layer first second one other motion motion' stood stood' meets. meets;
  comes = λ layer cell object motion stands. (cell, motion, stands, refl);
  as_often = λ layer object. refl;
}

-- at the start
pub order_none : (g : Grid) → IsInOrder g g 0 None
unfolding midway_none
order_none g = record {
  midway = midway_none g;
  won = λ layer from e. absurd (cc);
  ways = λ from to goes. inl (ap is_bare_slot (way_some g 0 (target g 0 from) to goes).1);
  left = λ cell e. absurd (cc);
  below = λ l from to low goes. absurd (omega (arith, low));
  above = λ l cell high. refl;
}

held_at_rest : (slot : Slot) (object : ObjectId) (motion : Motion) → slot_at_rest slot ≡ Holds object motion →
    (was : Motion) × (slot ≡ Holds object was)
held_at_rest Bare object motion e = absurd (cc)
held_at_rest (Holds held was) object motion e = (was, (cc))

-- all at rest, the movement is over
pub rest_slides : (before now : Grid) → IsMidway before now → IsWeaklySlid before (at_rest now)
rest_slides before now m = record {
  width = m.width;
  height = m.height;
  layers = m.layers;
  goes = m.goes;
  lands = λ layer cell object motion stood.
      slot_at-at_rest now (landing before m.goes layer cell) layer
      ∙ ap slot_at_rest (m.lands layer cell object motion stood);
  apart = m.apart;
  comes = λ layer cell object motion stands.
      let held = held_at_rest (slot_at now cell layer) object motion (sym (slot_at-at_rest now cell layer) ∙ stands) in
      m.comes layer cell object held.0 held.1;
  as_often = λ layer object. count_of-at_rest now layer object ∙ m.as_often layer object;
}
