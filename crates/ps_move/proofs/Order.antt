-- A movement goes on: the object that goes is its target's winner.
use Rattle.std.proofs.Common.{◌≡◌, ◌≢◌, ℕ, suc, ◌<◌, ◌≤◌, ◌⊎◌, inl, inr, Bool, true, false, Option, Some, None}
use Rattle.std.proofs.Common.{List, length, refl, sym, ◌∙◌, ap, subst, arith}
use Rattle.std.specs.Prelude.{nat_eq, slice_index_or}
use Rattle.std.proofs.lemmas.Bool.Decides.{eqb_tells}
use Rattle.std.proofs.lemmas.List.{length-set}
use Rattle.std.proofs.lemmas.Option.{same_Some}
use Rattle.std.proofs.lemmas.List.Sums.{count_by-le-length}
use Rattle.ps_model.specs.declared.pieces.ObjectId.{ObjectId}
use Rattle.ps_model.specs.declared.pieces.Direction.{Direction}
use Rattle.ps_model.specs.declared.pieces.Motion.{Motion}
use Rattle.ps_model.specs.declared.pieces.Motion.TheVariants.{Still, Going, Acting}
use Rattle.ps_model.specs.declared.pieces.Slot.{Slot}
use Rattle.ps_model.specs.declared.pieces.Slot.TheVariants.{Bare, Holds}
use Rattle.ps_model.specs.board.Grid.{Grid, IsGrid, cell_count, slot_at, neighbour}
use Rattle.ps_model.specs.board.Movement.{target, aim_of, is_bare, is_bare_slot, winner}
use Rattle.ps_model.specs.board.WeakMovement.{landing}
use Rattle.ps_laws.proofs.common.Winners.{slides_by, winner-of_bare, winner-of_left}
use Rattle.ps_move.specs.Visits.{way, if_bare, is_going}
use Rattle.ps_move.specs.Midway.{IsMidway, motion_left}
use Rattle.ps_move.specs.Entering.{IsFirst, IsNext}
use Rattle.ps_move.specs.Order.{going_on, HasWon, IsInOrder}
use Rattle.ps_move.proofs.Steps.{Goes, waits, stepped, entered, left_bare, beside, on_another_layer, step_midway}
use Rattle.ps_move.proofs.Steps.{step_goes, step_going_on, step_going_on_other, neighbour-same, bare_holds, landed_at}

-- what it means that an object aims somewhere
pub aim_some : (g : Grid) (cell : ℕ) (slot : Slot) (to : ℕ) → aim_of g cell slot ≡ Some to →
    (object : ObjectId) × (direction : Direction) × (slot ≡ Holds object (Going direction))
    × (neighbour g direction cell ≡ Some to)
aim_some g cell Bare to e = absurd (cc)
aim_some g cell (Holds object Still) to e = absurd (cc)
aim_some g cell (Holds object (Going direction)) to e = (object, direction, refl, e)
aim_some g cell (Holds object Acting) to e = absurd (cc)

pub aims_from : (g : Grid) (layer cell to : ℕ) (object : ObjectId) (direction : Direction) →
    slot_at g cell layer ≡ Holds object (Going direction) → neighbour g direction cell ≡ Some to →
    target g layer cell ≡ Some to
aims_from g layer cell to object direction stands near = ap (aim_of g cell) stands ∙ near

-- that it can go
bare_way : (g : Grid) (layer n to : ℕ) (slot : Slot) → slot_at g n layer ≡ slot → if_bare g layer (Some n) ≡ Some to →
    (n ≡ to) × (slot_at g to layer ≡ Bare)
bare_way g layer n to Bare e w =
    let P : Slot → Type 0 = λ s. elim (is_bare_slot s) [ true ↦ Some n | false ↦ None ] ≡ Some to in
    let w' : Some n ≡ Some to = subst P e w in
    let same : n ≡ to = cc in
    (same, rw (← same) e)
bare_way g layer n to (Holds object motion) e w =
    let P : Slot → Type 0 = λ s. elim (is_bare_slot s) [ true ↦ Some n | false ↦ None ] ≡ Some to in
    let w' : None ≡ Some to = subst P e w in
    absurd (cc)

pub way_some : (g : Grid) (layer : ℕ) (aim : Option ℕ) (to : ℕ) → if_bare g layer aim ≡ Some to →
    (aim ≡ Some to) × (slot_at g to layer ≡ Bare)
way_some g layer None to w = absurd (cc)
way_some g layer (Some n) to w = let found = bare_way g layer n to (slot_at g n layer) refl w in
    (ap Some found.0, found.1)

pub way_is : (g : Grid) (layer cell to : ℕ) → target g layer cell ≡ Some to → slot_at g to layer ≡ Bare →
    way g layer cell ≡ Some to
way_is g layer cell to aims bare =
    let free : is_bare g layer to ≡ true = ap is_bare_slot bare in
    ap (if_bare g layer) aims ∙ ap (λ (b : Bool). elim b [ true ↦ Some to | false ↦ None ]) free

-- whoever aimed at a cell that is bare by now can go there
pub still_aims : (before now : Grid) (m : IsMidway before now) (layer from to : ℕ) →
    target before layer from ≡ Some to → slot_at now to layer ≡ Bare → way now layer from ≡ Some to
still_aims before now m layer from to aims bare = by_going (m.goes layer from) refl where
  found : (object : ObjectId) × (direction : Direction) × (slot_at before from layer ≡ Holds object (Going direction))
      × (neighbour before direction from ≡ Some to)
  found = aim_some before from (slot_at before from layer) to aims

  by_going : (b : Bool) → m.goes layer from ≡ b → way now layer from ≡ Some to
  by_going true e =
      let left : Motion = motion_left (m.goes layer from) (Going found.1) in
      let lands : landing before m.goes layer from ≡ to = rw (e, landing, aims) refl in
      absurd (bare_holds found.0 left
      (sym bare ∙ landed_at now layer (landing before m.goes layer from) to found.0 left lands
      (m.lands layer from found.0 (Going found.1) found.2)))
  by_going false e =
      let left : Motion = motion_left (m.goes layer from) (Going found.1) in
      let stays : landing before m.goes layer from ≡ from = rw (e, landing) refl in
      let kept : left ≡ Going found.1 = ap (λ (b : Bool). motion_left b (Going found.1)) e in
      let here : slot_at now from layer ≡ Holds found.0 left =
      landed_at now layer (landing before m.goes layer from) from found.0 left stays
      (m.lands layer from found.0 (Going found.1) found.2) in
      way_is now layer from to
      (aims_from now layer from to found.0 found.1 (here ∙ ap (Holds found.0) kept)
      (neighbour-same now before found.1 from m.width m.height ∙ found.3)) bare

-- and whoever aims somewhere by now did so at the start
pub did_aim : (before now : Grid) (m : IsMidway before now) (layer from to : ℕ) → target now layer from ≡ Some to →
    target before layer from ≡ Some to
did_aim before now m layer from to aims =
    let found = aim_some now from (slot_at now from layer) to aims in
    let w = waits before now layer from found.0 found.1 m found.2 in
    aims_from before layer from to found.0 found.1 w.stood
    (sym (neighbour-same now before found.1 from m.width m.height) ∙ found.3)

-- what can go after an object went
aims_by : (g : Grid) (layer cell to : ℕ) (slot : Slot) → slot_at g cell layer ≡ slot → target g layer cell ≡ Some to →
    aim_of g cell slot ≡ Some to
aims_by g layer cell to slot e aims = ap (aim_of g cell) (sym e) ∙ aims

aims_same : (a b : Grid) (cell : ℕ) (slot : Slot) → a.width ≡ b.width → a.height ≡ b.height →
    aim_of a cell slot ≡ aim_of b cell slot
aims_same a b cell Bare w h = refl
aims_same a b cell (Holds object Still) w h = refl
aims_same a b cell (Holds object (Going direction)) w h = neighbour-same a b direction cell w h
aims_same a b cell (Holds object Acting) w h = refl

way_after_here : (now : Grid) (layer cell : ℕ) (object : ObjectId) (direction : Direction) (to : ℕ) →
    Goes now layer cell object direction to →
    (from t : ℕ) → target (stepped now layer cell object to) layer from ≡ Some t →
    slot_at (stepped now layer cell object to) t layer ≡ Bare →
    ((way now layer from ≡ Some t) × (from ≢ cell)) ⊎ ((t ≡ cell) × (from ≢ cell))
way_after_here now layer cell object direction to h from t aims bare = elim (eqb_tells from cell) [
  | inl e ↦ let gone : aim_of (stepped now layer cell object to) from Bare ≡ Some t =
      aims_by (stepped now layer cell object to) layer from t Bare
      (rw e.1 (left_bare now layer cell object direction to h)) aims in
      absurd (cc)
  | inr e ↦ elim (eqb_tells from to) [
    | inl f ↦ let rests : aim_of (stepped now layer cell object to) from (Holds object Still) ≡ Some t =
        aims_by (stepped now layer cell object to) layer from t (Holds object Still)
        (rw f.1 (entered now layer cell object direction to h)) aims in
        absurd (cc)
    | inr f ↦ elim (eqb_tells t cell) [
      | inl u ↦ inr (u.1, e.1)
      | inr u ↦ elim (eqb_tells t to) [
        | inl v ↦ absurd (bare_holds object Still (sym bare ∙ rw v.1 (entered now layer cell object direction to h)))
        | inr v ↦ let aimed : target now layer from ≡ Some t =
            aims_same now (stepped now layer cell object to) from (slot_at now from layer) refl refl
            ∙ ap (aim_of (stepped now layer cell object to) from)
            (sym (beside now layer cell object direction to h from layer e.1 f.1)) ∙ aims in
            inl (
              way_is now layer from t aimed (sym (beside now layer cell object direction to h t layer u.1 v.1)
                  ∙ bare),
              e.1,
            )
      ]
    ]
  ]
]

-- after an object went, what can go could before, or its target is the cell that was left
way_after : (now : Grid) (layer cell : ℕ) (object : ObjectId) (direction : Direction) (to : ℕ) →
    Goes now layer cell object direction to →
    (l from t : ℕ) → way (stepped now layer cell object to) l from ≡ Some t →
    ((way now l from ≡ Some t) × (l ≡ layer → from ≢ cell)) ⊎ ((l ≡ layer) × (t ≡ cell) × (from ≢ cell))
way_after now layer cell object direction to h l from t goes = by_layer (eqb_tells l layer) where
  after : Grid
  after = stepped now layer cell object to

  found : (target after l from ≡ Some t) × (slot_at after t l ≡ Bare)
  found = way_some after l (target after l from) t goes

  by_layer : ((nat_eq l layer ≡ true) × (l ≡ layer)) ⊎ ((nat_eq l layer ≡ false) × (l ≢ layer)) →
      ((way now l from ≡ Some t) × (l ≡ layer → from ≢ cell)) ⊎ ((l ≡ layer) × (t ≡ cell) × (from ≢ cell))
  by_layer (inl e) =
      let aims : target after layer from ≡ Some t = subst (λ (k : ℕ). target after k from ≡ Some t) e.1 found.0 in
      let bare : slot_at after t layer ≡ Bare = subst (λ (k : ℕ). slot_at after t k ≡ Bare) e.1 found.1 in
      elim (way_after_here now layer cell object direction to h from t aims bare) [
        | inl w ↦ inl (subst (λ (k : ℕ). way now k from ≡ Some t) (sym e.1) w.0, λ (f : l ≡ layer). w.1)
        | inr w ↦ inr (e.1, w.0, w.1)
      ]
  by_layer (inr e) =
      let aimed : target now l from ≡ Some t = aims_same now after from (slot_at now from l) refl refl
      ∙ ap (aim_of after from) (sym (on_another_layer now layer cell object direction to h from l e.1)) ∙ found.0 in
      inl (
        way_is now l from t aimed (sym (on_another_layer now layer cell object direction to h t l e.1) ∙ found.1),
        λ (f : l ≡ layer). absurd (e.1 f),
      )

-- what can go after an object of the layer went
pub way_here : (now : Grid) (layer cell : ℕ) (object : ObjectId) (direction : Direction) (to : ℕ) →
    Goes now layer cell object direction to →
    (from t : ℕ) → way (stepped now layer cell object to) layer from ≡ Some t →
    ((way now layer from ≡ Some t) × (from ≢ cell)) ⊎ ((t ≡ cell) × (from ≢ cell))
way_here now layer cell object direction to h from t goes =
    elim (way_after now layer cell object direction to h layer from t goes) [
      | inl w ↦ inl (w.0, w.1 refl)
      | inr w ↦ inr (w.1, w.2)
    ]

-- the target is no longer bare
pub taken : (now : Grid) (layer cell : ℕ) (object : ObjectId) (direction : Direction) (to : ℕ) →
    Goes now layer cell object direction to →
    (from t : ℕ) → way (stepped now layer cell object to) layer from ≡ Some t → t ≡ to → ⊥
taken now layer cell object direction to h from t goes e =
    let after : Grid = stepped now layer cell object to in
    let bare : slot_at after t layer ≡ Bare = (way_some after layer (target after layer from) t goes).1 in
    bare_holds object Still (sym (subst (λ (c : ℕ). slot_at after c layer ≡ Bare) e bare)
    ∙ entered now layer cell object direction to h)

-- what left its cell went
left_gone : (before now : Grid) (m : IsMidway before now) (layer cell : ℕ) → is_bare before layer cell ≡ false →
    slot_at now cell layer ≡ Bare → m.goes layer cell ≡ true
left_gone before now m layer cell stood bare = by_slot (slot_at before cell layer) refl stood where
  by_going : (object : ObjectId) (motion : Motion) (b : Bool) → slot_at before cell layer ≡ Holds object motion →
      m.goes layer cell ≡ b → b ≡ true
  by_going object motion true e f = refl
  by_going object motion false e f =
      let stays : landing before m.goes layer cell ≡ cell = rw (f, landing) refl in
      absurd (bare_holds object (motion_left (m.goes layer cell) motion)
      (sym bare
      ∙ landed_at now layer (landing before m.goes layer cell) cell object (motion_left (m.goes layer cell) motion)
      stays (m.lands layer cell object motion e)))

  by_slot : (slot : Slot) → slot_at before cell layer ≡ slot → is_bare_slot slot ≡ false → m.goes layer cell ≡ true
  by_slot Bare e f = absurd (cc)
  by_slot (Holds object motion) e f = by_going object motion (m.goes layer cell) e refl

-- the first that wants to enter a cell that was bare from the start wins it
pub first_wins : (before now : Grid) (layer to from : ℕ) → IsInOrder before now layer None → IsGrid now →
    slot_at now to layer ≡ Bare → IsFirst now layer to from → winner before layer to ≡ Some from
first_wins before now layer to from o shape bare first =
    let wide = o.midway.width in
    let high = o.midway.height in
    let within : from < cell_count before = rw (← wide, ← high) first.place in
    let free : is_bare before layer to ≡ true =
    elim (o.ways from to (way_is now layer from to first.aims bare)) [ inl b ↦ b | inr e ↦ absurd (cc) ] in
    winner-of_bare before layer to from free within (did_aim before now o.midway layer from to first.aims)
    (λ s a. first.least s
    (way_some now layer (target now layer s) to (still_aims before now o.midway layer s to a bare)).0)

-- the next that wants to enter a cell that was left wins it
pub next_wins : (before now : Grid) (layer to from : ℕ) → IsInOrder before now layer (Some to) → IsGrid now →
    slot_at now to layer ≡ Bare → from ≢ to → IsNext now layer to from → winner before layer to ≡ Some from
next_wins before now layer to from o shape bare apart next =
    let wide = o.midway.width in
    let high = o.midway.height in
    let within : from < cell_count before = rw (← wide, ← high) next.place in
    let aims_now : (s : ℕ) → target before layer s ≡ Some to → target now layer s ≡ Some to =
    λ (s : ℕ) (a : target before layer s ≡ Some to).
    (way_some now layer (target now layer s) to (still_aims before now o.midway layer s to a bare)).0 in
    winner-of_left before layer to from (o.left to refl) within (did_aim before now o.midway layer from to next.aims)
    apart (λ s a. next.behind s (aims_now s a)) (λ s a. next.over s (aims_now s a)) (λ s a. next.ahead s (aims_now s a))

as_many_cells : (now : Grid) (layer cell : ℕ) (object : ObjectId) (to : ℕ) →
    length (stepped now layer cell object to).cells ≡ length now.cells
as_many_cells now layer cell object to = simp length-set

step_chain : (before now : Grid) (layer cell : ℕ) (object : ObjectId) (direction : Direction) (to : ℕ) →
    (m : IsMidway before now) → ((from : ℕ) → m.goes layer from ≡ true → HasWon before now layer from) →
    Goes now layer cell object direction to → target before layer cell ≡ Some to →
    winner before layer to ≡ Some cell → HasWon before (stepped now layer cell object to) layer cell
step_chain before now layer cell object direction to m won h aims wins = by_bare (is_bare before layer to) refl where
  by_bare : (b : Bool) → is_bare before layer to ≡ b → HasWon before (stepped now layer cell object to) layer cell
  by_bare true e =
      let all = count_by-le-length (λ (c : List Slot). is_going (slice_index_or c layer Bare)) now.cells in
      let less = step_going_on now layer cell object direction to h in
      let cells = as_many_cells now layer cell object to in
      record {
        to = to;
        wins = wins;
        links = 1;
        few = omega arith;
        chain =
            slides_by before layer 0 cell (record { to = to; aims = aims; wins = wins; leads = inl e });
      }
  by_bare false e =
      let further = won to (left_gone before now m layer to e h.bare) in
      let less = step_going_on now layer cell object direction to h in
      let cells = as_many_cells now layer cell object to in
      record {
        to = to;
        wins = wins;
        links = suc further.links;
        few = omega arith;
        chain = slides_by before layer further.links cell
            (record { to = to; aims = aims; wins = wins; leads = inr (e, further.chain) });
      }

-- what had won still has
won_still : (before now : Grid) (layer cell : ℕ) (object : ObjectId) (direction : Direction) (to : ℕ) →
    Goes now layer cell object direction to →
    (l from : ℕ) → HasWon before now l from → HasWon before (stepped now layer cell object to) l from
won_still before now layer cell object direction to h l from w =
    let cells = as_many_cells now layer cell object to in
    let less : going_on (stepped now layer cell object to) l ≤ going_on now l = elim (eqb_tells l layer) [
      | inl e ↦ let one = step_going_on now layer cell object direction to h in rw e.1 (omega arith)
      | inr e ↦ let none = step_going_on_other now layer cell object direction to h l e.1 in omega arith
    ] in
    record { to = w.to; wins = w.wins; links = w.links; few = omega arith; chain = w.chain }

-- what could not go on another layer still can't
none_below : (now : Grid) (layer cell : ℕ) (object : ObjectId) (direction : Direction) (to : ℕ) →
    Goes now layer cell object direction to → ((l from t : ℕ) → l < layer → way now l from ≡ Some t → ⊥) →
    (l from t : ℕ) → l < layer → way (stepped now layer cell object to) l from ≡ Some t → ⊥
none_below now layer cell object direction to h none l from t low goes =
    elim (way_after now layer cell object direction to h l from t goes) [
      | inl w ↦ none l from t low w.0
      | inr w ↦ let same : l ≡ layer = w.0 in omega arith
    ]

-- one object goes to its target, which it has won: its own cell is left. No other cell was
pub step_order : (before now : Grid) (layer cell : ℕ) (object : ObjectId) (direction : Direction) (to : ℕ)
    (hole : Option ℕ) → IsInOrder before now layer hole → Goes now layer cell object direction to →
    winner before layer to ≡ Some cell → ((other : ℕ) → hole ≡ Some other → other ≡ to) →
    IsInOrder before (stepped now layer cell object to) layer (Some cell)
step_order before now layer cell object direction to hole o h wins filled =
    let w = waits before now layer cell object direction o.midway h.stands in
    let aims : target before layer cell ≡ Some to =
    did_aim before now o.midway layer cell to (aims_from now layer cell to object direction h.stands h.aims) in
    let own : HasWon before (stepped now layer cell object to) layer cell =
    step_chain before now layer cell object direction to o.midway (o.won layer) h aims wins in
    let after : Grid = stepped now layer cell object to in
    record {
      midway = step_midway before now layer cell object direction to o.midway h;
      won = λ l from e. elim (step_goes before now layer cell object direction to o.midway h l from e) [
        | inl p ↦ rw (p.0, p.1) own
        | inr g ↦ won_still before now layer cell object direction to h l from (o.won l from g)
      ];
      ways = λ from at goes. elim (way_here now layer cell object direction to h from at goes) [
        | inl v ↦ elim (o.ways from at v.0) [
          | inl bare ↦ inl bare
          | inr e ↦ absurd (taken now layer cell object direction to h from at goes (filled at e))
        ]
        | inr v ↦ inr (ap Some (sym v.0))
      ];
      left = λ c e.
          let same : c ≡ cell = sym (same_Some cell c e) in
          rw same (ap is_bare_slot w.stood);
      below = none_below now layer cell object direction to h o.below;
      above = λ l c high. on_another_layer now layer cell object direction to h c l (omega (arith, high))
          ∙ o.above l c high;
    }
