-- One object more goes to its target.
use Rattle.std.proofs.Common.{◌≡◌, ◌≢◌, ℕ, ◌+◌, ◌<◌, ◌&&◌, ◌⊎◌, inl, inr, Bool, true, false, Some, List, [], length}
use Rattle.std.proofs.Common.{refl, sym, ◌∙◌, ap, arith}
use Rattle.std.specs.Prelude.{nat_eq, slice_set, count_by}
use Rattle.std.proofs.lemmas.Bool.Decides.{nat_tests, eqb_tells}
use Rattle.std.proofs.lemmas.List.Sums.{sum_by-set}
use Rattle.ps_model.specs.declared.pieces.ObjectId.{ObjectId}
use Rattle.ps_model.specs.declared.pieces.Direction.{Direction}
use Rattle.ps_model.specs.declared.pieces.Direction.TheVariants.{Up, Down, Left, Right}
use Rattle.ps_model.specs.declared.pieces.Motion.{Motion}
use Rattle.ps_model.specs.declared.pieces.Motion.TheVariants.{Still, Going}
use Rattle.ps_model.specs.declared.pieces.Slot.{Slot}
use Rattle.ps_model.specs.declared.pieces.Slot.TheVariants.{Bare, Holds}
use Rattle.ps_model.specs.board.Grid.{Grid, IsGrid, IsPlace, cell_at, slot_at, with_slot, neighbour}
use Rattle.ps_model.specs.board.Movement.{target, aim_of}
use Rattle.ps_model.specs.board.WeakMovement.{count_of, landing, holds_object}
use Rattle.ps_laws.proofs.common.Slots.{cell_long, slot_at-with_same, slot_at-with_other_cell, slot_at-with_other_layer}
use Rattle.ps_laws.proofs.common.Slots.{IsGrid-with_slot}
use Rattle.ps_laws.proofs.common.Counts.{one_if, count_by-set, count_on-with_same, count_on-with_other}
use Rattle.ps_move.specs.Visits.{is_going, going_count}
use Rattle.ps_move.specs.Midway.{IsMidway, motion_left}
use Rattle.ps_move.specs.Order.{going_on}

-- an object goes: it stands on a layer of a cell with a direction for motion, and its target is bare
pub record Goes (g : Grid) (layer cell : ℕ) (object : ObjectId) (direction : Direction) (to : ℕ) : Type 0 where
  pub shape : IsGrid g
  pub here : IsPlace g cell layer
  pub there : IsPlace g to layer
  pub apart : to ≢ cell
  pub stands : slot_at g cell layer ≡ Holds object (Going direction)
  pub bare : slot_at g to layer ≡ Bare
  pub aims : neighbour g direction cell ≡ Some to

-- the grid after it went
abbrev pub stepped : Grid → ℕ → ℕ → ObjectId → ℕ → Grid
stepped g layer cell object to = with_slot (with_slot g to layer (Holds object Still)) cell layer Bare

pub half_shape : (g : Grid) (layer cell : ℕ) (object : ObjectId) (direction : Direction) (to : ℕ) →
    Goes g layer cell object direction to → IsGrid (with_slot g to layer (Holds object Still))
half_shape g layer cell object direction to h = IsGrid-with_slot g to layer (Holds object Still) h.shape h.there

pub left_bare : (g : Grid) (layer cell : ℕ) (object : ObjectId) (direction : Direction) (to : ℕ) →
    Goes g layer cell object direction to → slot_at (stepped g layer cell object to) cell layer ≡ Bare
left_bare g layer cell object direction to h =
    slot_at-with_same (with_slot g to layer (Holds object Still)) cell layer Bare
    (half_shape g layer cell object direction to h) h.here

pub entered : (g : Grid) (layer cell : ℕ) (object : ObjectId) (direction : Direction) (to : ℕ) →
    Goes g layer cell object direction to → slot_at (stepped g layer cell object to) to layer ≡ Holds object Still
entered g layer cell object direction to h =
    slot_at-with_other_cell (with_slot g to layer (Holds object Still)) cell layer to layer Bare h.apart
    ∙ slot_at-with_same g to layer (Holds object Still) h.shape h.there

-- a slot of another cell than these two
pub beside : (g : Grid) (layer cell : ℕ) (object : ObjectId) (direction : Direction) (to : ℕ) →
    Goes g layer cell object direction to →
    (c l : ℕ) → c ≢ cell → c ≢ to → slot_at (stepped g layer cell object to) c l ≡ slot_at g c l
beside g layer cell object direction to h c l p q =
    slot_at-with_other_cell (with_slot g to layer (Holds object Still)) cell layer c l Bare p
    ∙ slot_at-with_other_cell g to layer c l (Holds object Still) q

-- a slot of another layer
above : (g : Grid) (layer cell : ℕ) (slot : Slot) → IsGrid g → IsPlace g cell layer → (c l : ℕ) → l ≢ layer →
    ((nat_eq c cell ≡ true) × (c ≡ cell)) ⊎ ((nat_eq c cell ≡ false) × (c ≢ cell)) →
    slot_at (with_slot g cell layer slot) c l ≡ slot_at g c l
above g layer cell slot shape place c l n (inl e) = rw e.1 (slot_at-with_other_layer g cell layer l slot shape place n)
above g layer cell slot shape place c l n (inr e) = slot_at-with_other_cell g cell layer c l slot e.1

pub on_another_layer : (g : Grid) (layer cell : ℕ) (object : ObjectId) (direction : Direction) (to : ℕ) →
    Goes g layer cell object direction to →
    (c l : ℕ) → l ≢ layer → slot_at (stepped g layer cell object to) c l ≡ slot_at g c l
on_another_layer g layer cell object direction to h c l n =
    above (with_slot g to layer (Holds object Still)) layer cell Bare (half_shape g layer cell object direction to h)
    h.here c l n (eqb_tells c cell)
    ∙ above g layer to (Holds object Still) h.shape h.there c l n (eqb_tells c to)

-- the neighbour in a grid of the same size
pub neighbour-same : (a b : Grid) (direction : Direction) (cell : ℕ) → a.width ≡ b.width → a.height ≡ b.height →
    neighbour a direction cell ≡ neighbour b direction cell
neighbour-same a b Up cell w h = rw h refl
neighbour-same a b Down cell w h = rw h refl
neighbour-same a b Left cell w h = rw h refl
neighbour-same a b Right cell w h = rw (w, h) refl

-- it is the object of that place, or not
abbrev is_place : ℕ → ℕ → ℕ → ℕ → Bool
is_place layer cell l c = nat_eq l layer && nat_eq c cell

place_cases : (layer cell l c : ℕ) → ((l ≡ layer) × (c ≡ cell)) ⊎ (is_place layer cell l c ≡ false)
place_cases layer cell l c = elim (eqb_tells l layer) [
  | inl e ↦ elim (eqb_tells c cell) [
    | inl f ↦ inl (e.1, f.1)
    | inr f ↦ inr (rw (e.0, f.0) refl)
  ]
  | inr e ↦ inr (rw e.0 refl)
]

is_own_place : (layer cell : ℕ) → is_place layer cell layer cell ≡ true
is_own_place layer cell = grind (arith, nat_tests)

not_place : (layer cell l c : ℕ) → is_place layer cell l c ≡ false → l ≡ layer → c ≢ cell
not_place layer cell l c n e = grind (arith, nat_tests)

-- one more goes
abbrev goes_more : ℕ → ℕ → (ℕ → ℕ → Bool) → ℕ → ℕ → Bool
goes_more layer cell goes l c = elim (is_place layer cell l c) [ true ↦ true | false ↦ goes l c ]

lands_else : (before : Grid) (goes : ℕ → ℕ → Bool) (layer cell l c : ℕ) → is_place layer cell l c ≡ false →
    landing before (goes_more layer cell goes) l c ≡ landing before goes l c
lands_else before goes layer cell l c n = rw (n, landing, goes_more) refl

goes_else : (goes : ℕ → ℕ → Bool) (layer cell l c : ℕ) → is_place layer cell l c ≡ false →
    goes_more layer cell goes l c ≡ goes l c
goes_else goes layer cell l c n = rw (n, goes_more) refl

goes_own : (goes : ℕ → ℕ → Bool) (layer cell : ℕ) → goes_more layer cell goes layer cell ≡ true
goes_own goes layer cell = rw (is_own_place layer cell, goes_more) refl

lands_own : (before : Grid) (goes : ℕ → ℕ → Bool) (layer cell to : ℕ) → target before layer cell ≡ Some to →
    landing before (goes_more layer cell goes) layer cell ≡ to
lands_own before goes layer cell to aims = rw (goes_own goes layer cell, landing, aims) refl

-- an object with a direction for motion has not gone yet: its place and its motion before the movement
pub record Waits (before : Grid) (goes : ℕ → ℕ →
    Bool) (layer cell : ℕ) (object : ObjectId) (direction : Direction) : Type 0 where
  pub stood : slot_at before cell layer ≡ Holds object (Going direction)
  pub stays : landing before goes layer cell ≡ cell

waits_from : (before : Grid) (goes : ℕ → ℕ → Bool) (layer cell from : ℕ) (object : ObjectId) (was : Motion)
    (direction : Direction) (went : Bool) →
    goes layer from ≡ went → slot_at before from layer ≡ Holds object was → landing before goes layer from ≡ cell →
    Going direction ≡ motion_left went was →
    Waits before goes layer cell object direction
waits_from before goes layer cell from object was direction true e stood lands m = absurd (cc)
waits_from before goes layer cell from object was direction false e stood lands m =
    let stay : landing before goes layer from ≡ from = rw (e, landing) refl in
    let here : from ≡ cell = sym stay ∙ lands in
    let moved : slot_at before from layer ≡ Holds object (Going direction) = rw m stood in
    record { stood = rw (← here) moved; stays = rw (← here) stay }

holds_motion : (object other : ObjectId) (motion motion' : Motion) → Holds object motion ≡ Holds other motion' →
    motion ≡ motion'
holds_motion object other motion motion' e = cc

pub landed_at : (now : Grid) (layer at cell : ℕ) (object : ObjectId) (motion : Motion) → at ≡ cell →
    slot_at now at layer ≡ Holds object motion → slot_at now cell layer ≡ Holds object motion
landed_at now layer at cell object motion e h = rw (← e) h

layered_at : (now : Grid) (l layer cell : ℕ) (object : ObjectId) (motion : Motion) → l ≡ layer →
    slot_at now cell l ≡ Holds object motion → slot_at now cell layer ≡ Holds object motion
layered_at now l layer cell object motion e h = rw (← e) h

pub bare_holds : (object : ObjectId) (motion : Motion) → Bare ≡ Holds object motion → ⊥
bare_holds object motion e = cc

holds_object_same : (object other : ObjectId) (motion motion' : Motion) → Holds object motion ≡ Holds other motion' →
    object ≡ other
holds_object_same object other motion motion' e = cc

pub waits : (before now : Grid) (layer cell : ℕ) (object : ObjectId) (direction : Direction) →
    (m : IsMidway before now) → slot_at now cell layer ≡ Holds object (Going direction) →
    Waits before m.goes layer cell object direction
waits before now layer cell object direction m stands =
    let found = m.comes layer cell object (Going direction) stands in
    let left : Motion = motion_left (m.goes layer found.0) found.1 in
    let landed : slot_at now cell layer ≡ Holds object left =
    landed_at now layer (landing before m.goes layer found.0) cell object left found.3
    (m.lands layer found.0 object found.1 found.2) in
    waits_from before m.goes layer cell found.0 object found.1 direction (m.goes layer found.0) refl found.2 found.3
    (holds_motion object object (Going direction) left (sym stands ∙ landed))

-- what does not stand where the object goes to, or goes from, stays
kept : (g : Grid) (layer cell : ℕ) (object : ObjectId) (direction : Direction) (to : ℕ) →
    Goes g layer cell object direction to →
    (c l : ℕ) (o : ObjectId) (motion : Motion) → slot_at g c l ≡ Holds o motion → (l ≡ layer → c ≢ cell) →
    slot_at (stepped g layer cell object to) c l ≡ slot_at g c l
kept g layer cell object direction to h c l o motion stands n = elim (eqb_tells l layer) [
  | inl e ↦ let apart : c ≢ to = λ (f : c ≡ to). bare_holds o motion (sym h.bare ∙ rw (← f, ← e.1) stands) in
      rw e.1 (beside g layer cell object direction to h c layer (n e.1) apart)
  | inr e ↦ on_another_layer g layer cell object direction to h c l e.1
]

-- no other object landed where it lands
lands_apart : (before now : Grid) (layer cell : ℕ) (object : ObjectId) (direction : Direction) →
    (m : IsMidway before now) →
    Waits before m.goes layer cell object direction → (l c : ℕ) (o : ObjectId) (motion : Motion) →
    slot_at before c l ≡ Holds o motion → is_place layer cell l c ≡ false →
    l ≡ layer → landing before m.goes l c ≢ cell
lands_apart before now layer cell object direction m w l c o motion stood n e meets =
    let stood' : slot_at before c layer ≡ Holds o motion = rw (← e) stood in
    let meets' : landing before m.goes layer c ≡ cell = rw (← e) meets in
    not_place layer cell l c n e (m.apart layer c cell o object motion (Going direction) stood' w.stood (meets'
    ∙ sym w.stays))

-- nor in its target
lands_beside : (before now : Grid) (layer cell : ℕ) (object : ObjectId) (direction : Direction) (to : ℕ) →
    (m : IsMidway before now) → Goes now layer cell object direction to →
    (c : ℕ) (o : ObjectId) (motion : Motion) → slot_at before c layer ≡ Holds o motion →
    landing before m.goes layer c ≢ to
lands_beside before now layer cell object direction to m h c o motion stood meets =
    let left : Motion = motion_left (m.goes layer c) motion in
    bare_holds o left (sym h.bare ∙ landed_at now layer (landing before m.goes layer c) to o left meets
    (m.lands layer c o motion stood))

-- the objects land as before, but for the one that goes
step_lands : (before now : Grid) (layer cell : ℕ) (object : ObjectId) (direction : Direction) (to : ℕ) →
    (m : IsMidway before now) → Goes now layer cell object direction to →
    Waits before m.goes layer cell object direction → target before layer cell ≡ Some to →
    (l c : ℕ) (o : ObjectId) (motion : Motion) → slot_at before c l ≡ Holds o motion →
    ((l ≡ layer) × (c ≡ cell)) ⊎ (is_place layer cell l c ≡ false) →
    slot_at (stepped now layer cell object to) (landing before (goes_more layer cell m.goes) l c) l ≡ Holds o
    (motion_left (goes_more layer cell m.goes l c) motion)
step_lands before now layer cell object direction to m h w aims l c o motion stood (inl e) =
    let stood' : slot_at before cell layer ≡ Holds o motion = rw (← e.0, ← e.1) stood in
    let same : object ≡ o = holds_object_same object o (Going direction) motion (sym w.stood ∙ stood') in
    let after : Grid = stepped now layer cell object to in
    let at : slot_at after (landing before (goes_more layer cell m.goes) layer cell) layer ≡ Holds object Still =
    landed_at after layer to (landing before (goes_more layer cell m.goes) layer cell) object Still
    (sym (lands_own before m.goes layer cell to aims)) (entered now layer cell object direction to h) in
    rw (e.0, e.1) (at ∙ ap (λ (x : ObjectId). Holds x Still) same
    ∙ ap (λ (b : Bool). Holds o (motion_left b motion)) (sym (goes_own m.goes layer cell)))
step_lands before now layer cell object direction to m h w aims l c o motion stood (inr n) =
    let left : Motion = motion_left (m.goes l c) motion in
    let landed : slot_at now (landing before m.goes l c) l ≡ Holds o left = m.lands l c o motion stood in
    let after : Grid = stepped now layer cell object to in
    let at : slot_at after (landing before m.goes l c) l ≡ Holds o left =
    kept now layer cell object direction to h (landing before m.goes l c) l o left landed
    (lands_apart before now layer cell object direction m w l c o motion stood n) ∙ landed in
    landed_at after l (landing before m.goes l c) (landing before (goes_more layer cell m.goes) l c) o left
    (sym (lands_else before m.goes layer cell l c n)) at
    ∙ ap (λ (b : Bool). Holds o (motion_left b motion)) (sym (goes_else m.goes layer cell l c n))

-- none lands where another does
step_apart : (before now : Grid) (layer cell : ℕ) (object : ObjectId) (direction : Direction) (to : ℕ) →
    (m : IsMidway before now) → Goes now layer cell object direction to →
    target before layer cell ≡ Some to →
    (l first second : ℕ) (one other : ObjectId) (motion motion' : Motion) → slot_at before first l ≡ Holds one motion →
    slot_at before second l ≡ Holds other motion' →
    landing before (goes_more layer cell m.goes) l first ≡ landing before (goes_more layer cell m.goes) l second →
    ((l ≡ layer) × (first ≡ cell)) ⊎ (is_place layer cell l first ≡ false) →
    ((l ≡ layer) × (second ≡ cell)) ⊎ (is_place layer cell l second ≡ false) → first ≡ second
step_apart before now layer cell object direction to m h aims l first second one other motion motion' stood stood'
    meets (inl e) (inl f) = e.1 ∙ sym f.1
step_apart before now layer cell object direction to m h aims l first second one other motion motion' stood stood'
    meets (inl e) (inr n) =
    let mine : landing before (goes_more layer cell m.goes) l first ≡ to =
    rw (e.0, e.1) (lands_own before m.goes layer cell to aims) in
    let its : landing before m.goes l second ≡ to = sym (lands_else before m.goes layer cell l second n) ∙ sym meets
    ∙ mine in
    absurd (lands_beside before now layer cell object direction to m h second other motion' (rw (← e.0) stood')
    (rw (← e.0) its))
step_apart before now layer cell object direction to m h aims l first second one other motion motion' stood stood'
    meets (inr n) (inl f) =
    let mine : landing before (goes_more layer cell m.goes) l second ≡ to =
    rw (f.0, f.1) (lands_own before m.goes layer cell to aims) in
    let its : landing before m.goes l first ≡ to = sym (lands_else before m.goes layer cell l first n) ∙ meets ∙ mine in
    absurd (lands_beside before now layer cell object direction to m h first one motion (rw (← f.0) stood)
    (rw (← f.0) its))
step_apart before now layer cell object direction to m h aims l first second one other motion motion' stood stood'
    meets (inr n) (inr n') =
    m.apart l first second one other motion motion' stood stood' (sym (lands_else before m.goes layer cell l first n)
    ∙ meets ∙ lands_else before m.goes layer cell l second n')

-- where an object comes from
abbrev ComesFrom : Grid → (ℕ → ℕ → Bool) → ℕ → ℕ → ObjectId → Type 0
ComesFrom before goes layer cell object = (from : ℕ) × (was : Motion) × (slot_at before from layer ≡ Holds object was)
    × (landing before goes layer from ≡ cell)

comes_else : (before : Grid) (goes : ℕ → ℕ → Bool) (layer cell l c : ℕ) (o : ObjectId) →
    (found : ComesFrom before goes l c o) → is_place layer cell l found.0 ≡ false →
    ComesFrom before (goes_more layer cell goes) l c o
comes_else before goes layer cell l c o found n =
    (found.0, found.1, found.2, lands_else before goes layer cell l found.0 n ∙ found.3)

comes_beside : (before : Grid) (goes : ℕ → ℕ → Bool) (layer cell c : ℕ) (o : ObjectId) →
    landing before goes layer cell ≡ cell → c ≢ cell → (found : ComesFrom before goes layer c o) →
    ((layer ≡ layer) × (found.0 ≡ cell)) ⊎ (is_place layer cell layer found.0 ≡ false) →
    ComesFrom before (goes_more layer cell goes) layer c o
comes_beside before goes layer cell c o stays apart found (inl e) =
    let at : landing before goes layer found.0 ≡ cell = rw e.1 stays in
    absurd (apart (sym found.3 ∙ at))
comes_beside before goes layer cell c o stays apart found (inr n) = comes_else before goes layer cell layer c o found n

-- on its layer, whatever stands somewhere afterwards landed there
step_comes_here : (before now : Grid) (layer cell : ℕ) (object : ObjectId) (direction : Direction) (to : ℕ) →
    (m : IsMidway before now) → Goes now layer cell object direction to →
    Waits before m.goes layer cell object direction → target before layer cell ≡ Some to →
    (c : ℕ) (o : ObjectId) (motion : Motion) → slot_at (stepped now layer cell object to) c layer ≡ Holds o motion →
    ((nat_eq c cell ≡ true) × (c ≡ cell)) ⊎ ((nat_eq c cell ≡ false) × (c ≢ cell)) →
    ((nat_eq c to ≡ true) × (c ≡ to)) ⊎ ((nat_eq c to ≡ false) × (c ≢ to)) →
    ComesFrom before (goes_more layer cell m.goes) layer c o
step_comes_here before now layer cell object direction to m h w aims c o motion stands (inl e) t =
    let here : slot_at (stepped now layer cell object to) cell layer ≡ Holds o motion =
    landed_at (stepped now layer cell object to) layer c cell o motion e.1 stands in
    absurd (bare_holds o motion (sym (left_bare now layer cell object direction to h) ∙ here))
step_comes_here before now layer cell object direction to m h w aims c o motion stands (inr e) (inl f) =
    let there : slot_at (stepped now layer cell object to) to layer ≡ Holds o motion =
    landed_at (stepped now layer cell object to) layer c to o motion f.1 stands in
    let same : object ≡ o = holds_object_same object o Still motion (sym (entered now layer cell object direction to h)
    ∙ there) in
    let stood : slot_at before cell layer ≡ Holds o (Going direction) = rw (← same) w.stood in
    (cell, Going direction, stood, lands_own before m.goes layer cell to aims ∙ sym f.1)
step_comes_here before now layer cell object direction to m h w aims c o motion stands (inr e) (inr f) =
    let found = m.comes layer c o motion (sym (beside now layer cell object direction to h c layer e.1 f.1) ∙ stands) in
    comes_beside before m.goes layer cell c o w.stays e.1 found (place_cases layer cell layer found.0)

-- and on each layer
step_comes : (before now : Grid) (layer cell : ℕ) (object : ObjectId) (direction : Direction) (to : ℕ) →
    (m : IsMidway before now) → Goes now layer cell object direction to →
    Waits before m.goes layer cell object direction → target before layer cell ≡ Some to →
    (l c : ℕ) (o : ObjectId) (motion : Motion) → slot_at (stepped now layer cell object to) c l ≡ Holds o motion →
    ((nat_eq l layer ≡ true) × (l ≡ layer)) ⊎ ((nat_eq l layer ≡ false) × (l ≢ layer)) →
    ComesFrom before (goes_more layer cell m.goes) l c o
step_comes before now layer cell object direction to m h w aims l c o motion stands (inl e) =
    rw e.1 (step_comes_here before now layer cell object direction to m h w aims c o motion
    (layered_at (stepped now layer cell object to) l layer c o motion e.1 stands) (eqb_tells c cell)
    (eqb_tells c to))
step_comes before now layer cell object direction to m h w aims l c o motion stands (inr e) =
    let found = m.comes l c o motion (sym (on_another_layer now layer cell object direction to h c l e.1) ∙ stands) in
    comes_else before m.goes layer cell l c o found (rw e.0 refl)

-- each object stays as often on its layer
step_as_often : (g : Grid) (layer cell : ℕ) (object : ObjectId) (direction : Direction) (to : ℕ) →
    Goes g layer cell object direction to → (l : ℕ) (o : ObjectId) →
    ((nat_eq l layer ≡ true) × (l ≡ layer)) ⊎ ((nat_eq l layer ≡ false) × (l ≢ layer)) →
    count_of (stepped g layer cell object to) l o ≡ count_of g l o
step_as_often g layer cell object direction to h l o (inl e) =
    let half : Grid = with_slot g to layer (Holds object Still) in
    let first = count_on-with_same (holds_object o) g to layer (Holds object Still) h.shape h.there in
    let second = count_on-with_same (holds_object o) half cell layer Bare
    (half_shape g layer cell object direction to h) h.here in
    let bare : one_if (holds_object o (slot_at g to layer)) ≡ 0 = ap (λ (s : Slot). one_if (holds_object o s)) h.bare in
    let stands : slot_at half cell layer ≡ Holds object (Going direction) =
    slot_at-with_other_cell g to layer cell layer (Holds object Still) (λ (f : cell ≡ to). h.apart (sym f))
    ∙ h.stands in
    let held : one_if (holds_object o (slot_at half cell layer)) ≡ one_if (holds_object o (Holds object Still)) =
    ap (λ (s : Slot). one_if (holds_object o s)) stands in
    let equal : count_of (stepped g layer cell object to) layer o ≡ count_of g layer o = omega arith in
    rw e.1 equal
step_as_often g layer cell object direction to h l o (inr e) =
    count_on-with_other (holds_object o) (with_slot g to layer (Holds object Still)) cell layer l Bare
    (half_shape g layer cell object direction to h) h.here e.1
    ∙ count_on-with_other (holds_object o) g to layer l (Holds object Still) h.shape h.there e.1

-- a movement that has begun goes on
pub step_midway : (before now : Grid) (layer cell : ℕ) (object : ObjectId) (direction : Direction) (to : ℕ) →
    IsMidway before now → Goes now layer cell object direction to →
    IsMidway before (stepped now layer cell object to)
step_midway before now layer cell object direction to m h =
    let w = waits before now layer cell object direction m h.stands in
    let aims : target before layer cell ≡ Some to = ap (aim_of before cell) w.stood
    ∙ sym (neighbour-same now before direction cell m.width m.height) ∙ h.aims in
    record {
      width = m.width;
      height = m.height;
      layers = m.layers;
      goes = goes_more layer cell m.goes;
      lands = λ l c o motion stood. step_lands before now layer cell object direction to m h w aims l c o motion stood
          (place_cases layer cell l c);
      apart = λ l first second one other motion motion' stood stood' meets.
          step_apart before now layer cell object direction to m h aims l first second one other motion motion' stood
          stood' meets (place_cases layer cell l first) (place_cases layer cell l second);
      comes = λ l c o motion stands. step_comes before now layer cell object direction to m h w aims l c o motion
          stands (eqb_tells l layer);
      as_often = λ l o. step_as_often now layer cell object direction to h l o (eqb_tells l layer) ∙ m.as_often l o;
    }

-- one slot changed, and how many have a direction for motion
going_count-with : (g : Grid) (cell layer : ℕ) (slot : Slot) → IsGrid g → IsPlace g cell layer →
    going_count (with_slot g cell layer slot) + one_if (is_going (slot_at g cell layer)) ≡ going_count g + one_if
    (is_going slot)
going_count-with g cell layer slot shape place =
    let within : cell < length g.cells = rw shape.cells place.0 in
    let own : List Slot = cell_at g cell in
    let outer = sum_by-set (count_by is_going) g.cells cell (slice_set own layer slot) [] within in
    let inner = count_by-set is_going own layer slot Bare (cell_long g cell layer shape place) in
    omega arith

-- one fewer
pub step_fewer : (g : Grid) (layer cell : ℕ) (object : ObjectId) (direction : Direction) (to : ℕ) →
    Goes g layer cell object direction to →
    going_count (stepped g layer cell object to) + 1 ≡ going_count g
step_fewer g layer cell object direction to h =
    let half : Grid = with_slot g to layer (Holds object Still) in
    let first = going_count-with g to layer (Holds object Still) h.shape h.there in
    let second = going_count-with half cell layer Bare (half_shape g layer cell object direction to h) h.here in
    let bare : one_if (is_going (slot_at g to layer)) ≡ 0 = ap (λ (s : Slot). one_if (is_going s)) h.bare in
    let stands : slot_at half cell layer ≡ Holds object (Going direction) =
    slot_at-with_other_cell g to layer cell layer (Holds object Still) (λ (f : cell ≡ to). h.apart (sym f))
    ∙ h.stands in
    let held : one_if (is_going (slot_at half cell layer)) ≡ 1 = ap (λ (s : Slot). one_if (is_going s)) stands in
    omega arith

-- on its layer one fewer, and as many on each other layer
pub step_going_on : (g : Grid) (layer cell : ℕ) (object : ObjectId) (direction : Direction) (to : ℕ) →
    Goes g layer cell object direction to →
    going_on (stepped g layer cell object to) layer + 1 ≡ going_on g layer
step_going_on g layer cell object direction to h =
    let half : Grid = with_slot g to layer (Holds object Still) in
    let first = count_on-with_same is_going g to layer (Holds object Still) h.shape h.there in
    let second = count_on-with_same is_going half cell layer Bare (half_shape g layer cell object direction to h)
    h.here in
    let bare : one_if (is_going (slot_at g to layer)) ≡ 0 = ap (λ (s : Slot). one_if (is_going s)) h.bare in
    let stands : slot_at half cell layer ≡ Holds object (Going direction) =
    slot_at-with_other_cell g to layer cell layer (Holds object Still) (λ (f : cell ≡ to). h.apart (sym f))
    ∙ h.stands in
    let held : one_if (is_going (slot_at half cell layer)) ≡ 1 = ap (λ (s : Slot). one_if (is_going s)) stands in
    omega arith

pub step_going_on_other : (g : Grid) (layer cell : ℕ) (object : ObjectId) (direction : Direction) (to : ℕ) →
    Goes g layer cell object direction to →
    (l : ℕ) → l ≢ layer → going_on (stepped g layer cell object to) l ≡ going_on g l
step_going_on_other g layer cell object direction to h l n =
    count_on-with_other is_going (with_slot g to layer (Holds object Still)) cell layer l Bare
    (half_shape g layer cell object direction to h) h.here n
    ∙ count_on-with_other is_going g to layer l (Holds object Still) h.shape h.there n

-- which objects went after the step
pub step_goes : (before now : Grid) (layer cell : ℕ) (object : ObjectId) (direction : Direction) (to : ℕ) →
    (m : IsMidway before now) → (h : Goes now layer cell object direction to) →
    (l c : ℕ) → (step_midway before now layer cell object direction to m h).goes l c ≡ true →
    ((l ≡ layer) × (c ≡ cell)) ⊎ (m.goes l c ≡ true)
unfolding step_midway
step_goes before now layer cell object direction to m h l c e = elim (place_cases layer cell l c) [
  | inl p ↦ inl p
  | inr n ↦ inr (sym (goes_else m.goes layer cell l c n) ∙ e)
]
