-- The end of a layer, and the end of the movement: what slides is what went.
use Rattle.std.proofs.Common.{◌≡◌, ℕ, zero, suc, ◌+◌, ◌*◌, ◌<◌, ◌≤◌, ◌⊎◌, inl, inr, Bool, true, false, Option, Some}
use Rattle.std.proofs.Common.{None, List, [], length, map, get_or, refl, sym, ◌∙◌, ap, subst, arith}
use Rattle.std.specs.List.{range_with_len}
use Rattle.std.proofs.lemmas.Bool.{cases_lt}
use Rattle.std.proofs.lemmas.Bool.Decides.{leb_tells}
use Rattle.std.proofs.lemmas.Option.{same_Some}
use Rattle.std.proofs.lemmas.List.{get_or_past, get_or-map, same_lists, length-map}
use Rattle.std.proofs.lemmas.List.FromFn.{length-map-range_with_len, get_or-map-range_with_len}
use Rattle.ps_model.specs.declared.pieces.ObjectId.{ObjectId}
use Rattle.ps_model.specs.declared.pieces.Motion.{Motion}
use Rattle.ps_model.specs.declared.pieces.Motion.TheVariants.{Going}
use Rattle.ps_model.specs.declared.pieces.Slot.{Slot}
use Rattle.ps_model.specs.declared.pieces.Slot.TheVariants.{Bare, Holds}
use Rattle.ps_model.specs.board.Grid.{Grid, IsGrid, cell_count, cell_at, slot_at, slot_at_rest, at_rest}
use Rattle.ps_model.specs.board.Movement.{target, is_bare, is_bare_slot, winner, slides_within, slides, if_slides}
use Rattle.ps_model.specs.board.Movement.{entrant, slid_slot, slid}
use Rattle.ps_model.specs.board.WeakMovement.{landing}
use Rattle.ps_laws.proofs.common.Winners.{IsLink, link_of, winner-contends, slides_within-more}
use Rattle.ps_laws.proofs.common.Truths.{same_tests}
use Rattle.ps_move.specs.Visits.{way}
use Rattle.ps_move.specs.Midway.{IsMidway, motion_left}
use Rattle.ps_move.specs.Order.{IsInOrder}
use Rattle.ps_move.proofs.Steps.{bare_holds, landed_at}
use Rattle.ps_move.proofs.Order.{aim_some, way_some, still_aims}

-- what aims somewhere stands on the board
off_board : (g : Grid) (layer cell : ℕ) → length g.cells ≤ cell → slot_at g cell layer ≡ Bare
off_board g layer cell high = rw (get_or_past g.cells cell [] high) refl

pub aims_within : (g : Grid) (layer cell to : ℕ) → IsGrid g → target g layer cell ≡ Some to →
    cell < g.width * g.height
aims_within g layer cell to shape aims = elim (cell_or_past cell (length g.cells)) [
  | inl low ↦ omega (arith, shape.cells)
  | inr high ↦ let found = aim_some g cell (slot_at g cell layer) to aims in
      absurd (bare_holds found.0 (Going found.1) (sym (off_board g layer cell high) ∙ found.2))
] where
  cell_or_past : (a b : ℕ) → (a < b) ⊎ (b ≤ a)
  cell_or_past a b = elim (leb_tells b a) [ inl e ↦ inr e.1 | inr e ↦ inl (omega (arith, e.1)) ]

pub goes_within : (g : Grid) (layer cell to : ℕ) → IsGrid g → way g layer cell ≡ Some to → cell < g.width * g.height
goes_within g layer cell to shape goes =
    aims_within g layer cell to shape (way_some g layer (target g layer cell) to goes).0

-- where nothing of a layer can go the next layer begins, which is as it was
pub next_layer : (before now : Grid) (layer : ℕ) → ((from to : ℕ) → way now layer from ≡ Some to → ⊥) →
    IsInOrder before now layer None → IsInOrder before now (layer + 1) None
next_layer before now layer none o = record {
  midway = o.midway;
  won = o.won;
  ways = λ from to goes.
      let bare : slot_at now to (layer + 1) ≡ Bare =
      (way_some now (layer + 1) (target now (layer + 1) from) to goes).1 in
      inl (ap is_bare_slot (sym (o.above (layer + 1) to (omega arith)) ∙ bare));
  left = λ cell e. absurd (cc);
  below = λ l from to low goes. elim (cases_lt l layer) [
    | inl under ↦ o.below l from to under goes
    | inr over ↦ let same : l ≡ layer = omega (arith, low, over) in
        none from to (subst (λ (k : ℕ). way now k from ≡ Some to) same goes)
  ];
  above = λ l cell high. o.above l cell (omega (arith, high));
}

-- where an object lands
lands_gone : (before : Grid) (goes : ℕ → ℕ → Bool) (layer from to : ℕ) → goes layer from ≡ true →
    target before layer from ≡ Some to → landing before goes layer from ≡ to
lands_gone before goes layer from to e aims = rw (e, landing, aims) refl

lands_stays : (before : Grid) (goes : ℕ → ℕ → Bool) (layer from : ℕ) → goes layer from ≡ false →
    landing before goes layer from ≡ from
lands_stays before goes layer from e = rw (e, landing) refl

-- what stands in a cell by now was there, or is its winner, which went
stands_from : (before now : Grid) (l : ℕ) (hole : Option ℕ) → (o : IsInOrder before now l hole) →
    (layer cell : ℕ) (object : ObjectId) (motion : Motion) →
    slot_at now cell layer ≡ Holds object motion →
    ((o.midway.goes layer cell ≡ false) × (was : Motion) × (slot_at before cell layer ≡ Holds object was)) ⊎
    ((from : ℕ) × (winner before layer cell ≡ Some from) × (o.midway.goes layer from ≡ true))
stands_from before now l hole o layer cell object motion stands =
    by_going (o.midway.goes layer found.0) refl where
      found : (from : ℕ) × (was : Motion) × (slot_at before from layer ≡ Holds object was) ×
          (landing before o.midway.goes layer from ≡ cell)
      found = o.midway.comes layer cell object motion stands

      by_going : (b : Bool) → o.midway.goes layer found.0 ≡ b →
          ((o.midway.goes layer cell ≡ false) × (was : Motion) × (slot_at before cell layer ≡ Holds object was)) ⊎
          ((from : ℕ) × (winner before layer cell ≡ Some from) × (o.midway.goes layer from ≡ true))
      by_going true e =
          let won = o.won layer found.0 e in
          let there : won.to ≡ cell = sym (lands_gone before o.midway.goes layer found.0 won.to e
          (winner-contends before layer won.to found.0 won.wins).0) ∙ found.3 in
          inr (found.0, subst (λ (t : ℕ). winner before layer t ≡ Some found.0) there won.wins, e)
      by_going false e =
          let here : found.0 ≡ cell = sym (lands_stays before o.midway.goes layer found.0 e) ∙ found.3 in
          inl (
            subst (λ (c : ℕ). o.midway.goes layer c ≡ false) here e,
            found.1,
            subst (λ (c : ℕ). slot_at before c layer ≡ Holds object found.1) here found.2,
          )

-- what slides went, where nothing can go
slides_went : (before now : Grid) (l : ℕ) (hole : Option ℕ) → (o : IsInOrder before now l hole) →
    (layer : ℕ) →
    ((from to : ℕ) → way now layer from ≡ Some to → ⊥) →
    (links from : ℕ) → slides_within before layer links from ≡ true → o.midway.goes layer from ≡ true
slides_went before now l hole o layer none zero from e = absurd (cc)
slides_went before now l hole o layer none (suc links) from e =
    by_going (λ to f. slides_went before now l hole o layer none links to f) (o.midway.goes layer from) refl where
      link : IsLink before layer links from
      link = link_of before layer links from e

      free : ((to : ℕ) → slides_within before layer links to ≡ true → o.midway.goes layer to ≡ true) →
          o.midway.goes layer from ≡ false → (slot : Slot) → slot_at now link.to layer ≡ slot → slot ≡ Bare
      free again f Bare s = refl
      free again f (Holds object motion) s = elim (stands_from before now l hole o layer link.to object motion s) [
        | inl stays ↦ elim link.leads [
          | inl bare ↦ let taken : is_bare before layer link.to ≡ false = ap is_bare_slot stays.2 in absurd (cc)
          | inr further ↦ let left = again link.to further.1 in absurd (cc)
        ]
        | inr entered ↦ let same : entered.0 ≡ from = same_Some entered.0 from (sym entered.1 ∙ link.wins) in
            let left : o.midway.goes layer from ≡ true =
            subst (λ (c : ℕ). o.midway.goes layer c ≡ true) same entered.2 in
            absurd (cc)
      ]

      by_going : ((to : ℕ) → slides_within before layer links to ≡ true → o.midway.goes layer to ≡ true) → (b : Bool) →
          o.midway.goes layer from ≡ b → o.midway.goes layer from ≡ true
      by_going again true f = f
      by_going again false f = absurd (none from link.to
          (still_aims before now o.midway layer from link.to link.aims (free again f (slot_at now link.to layer) refl)))

-- and what went slides
went_slides : (before now : Grid) (l : ℕ) (hole : Option ℕ) → (o : IsInOrder before now l hole) →
    IsGrid now →
    (layer from : ℕ) → o.midway.goes layer from ≡ true → slides before layer from ≡ true
went_slides before now l hole o shape layer from e =
    let won = o.won layer from e in
    let all : cell_count before ≡ cell_count now = rw (o.midway.width, o.midway.height) refl in
    slides_within-more before layer won.links (cell_count before) from (omega (arith, shape.cells)) won.chain

-- at the end, on one layer: what went is what slides, and what stands in a cell was there, or is its winner, which went
record IsEnd (before now : Grid) (layer : ℕ) : Type 0 where
  midway : IsMidway before now
  went : (from : ℕ) → midway.goes layer from ≡ slides before layer from
  comes : (cell : ℕ) (object : ObjectId) (motion : Motion) → slot_at now cell layer ≡ Holds object motion →
      ((midway.goes layer cell ≡ false) × (was : Motion) × (slot_at before cell layer ≡ Holds object was)) ⊎
      ((from : ℕ) × (winner before layer cell ≡ Some from) × (midway.goes layer from ≡ true))

end_bare : (before now : Grid) (layer cell : ℕ) → (e : IsEnd before now layer) →
    ((from : ℕ) → winner before layer cell ≡ Some from → e.midway.goes layer from ≡ true → ⊥) →
    ((e.midway.goes layer cell ≡ true) ⊎ (slot_at before cell layer ≡ Bare)) → slot_at now cell layer ≡ Bare
end_bare before now layer cell e none left = by_slot (slot_at now cell layer) refl where
  by_slot : (slot : Slot) → slot_at now cell layer ≡ slot → slot ≡ Bare
  by_slot Bare s = refl
  by_slot (Holds object motion) s = elim (e.comes cell object motion s) [
    | inl stays ↦ elim left [
      | inl goes ↦ absurd (cc)
      | inr bare ↦ absurd (bare_holds object stays.1 (sym bare ∙ stays.2))
    ]
    | inr enters ↦ absurd (none enters.0 enters.1 enters.2)
  ]

end_stays : (before now : Grid) (layer cell : ℕ) → (e : IsEnd before now layer) →
    (object : ObjectId) (motion : Motion) → slot_at before cell layer ≡ Holds object motion →
    e.midway.goes layer cell ≡ false → slot_at now cell layer ≡ Holds object motion
end_stays before now layer cell e object motion stood f =
    landed_at now layer (landing before e.midway.goes layer cell) cell object
    (motion_left (e.midway.goes layer cell) motion) (lands_stays before e.midway.goes layer cell f)
    (e.midway.lands layer cell object motion stood)
    ∙ ap (λ (b : Bool). Holds object (motion_left b motion)) f

end_enters : (before now : Grid) (layer cell from : ℕ) → (e : IsEnd before now layer) →
    winner before layer cell ≡ Some from → e.midway.goes layer from ≡ true →
    slot_at_rest (slot_at now cell layer) ≡ slot_at_rest (slot_at before from layer)
end_enters before now layer cell from e wins f =
    let aims : target before layer from ≡ Some cell = (winner-contends before layer cell from wins).0 in
    let found = aim_some before from (slot_at before from layer) cell aims in
    let landed : slot_at now cell layer ≡ Holds found.0 (motion_left (e.midway.goes layer from) (Going found.1)) =
    landed_at now layer (landing before e.midway.goes layer from) cell found.0
    (motion_left (e.midway.goes layer from) (Going found.1))
    (lands_gone before e.midway.goes layer from cell f aims)
    (e.midway.lands layer from found.0 (Going found.1) found.2) in
    ap slot_at_rest (landed ∙ ap (λ (b : Bool). Holds found.0 (motion_left b (Going found.1))) f)
    ∙ sym (ap slot_at_rest found.2)

end_slot : (before now : Grid) (layer cell : ℕ) → IsEnd before now layer →
    slot_at_rest (slot_at now cell layer) ≡ slid_slot before layer cell
end_slot before now layer cell e = by_winner (winner before layer cell) refl where
  by_stood : (slot : Slot) → slot_at before cell layer ≡ slot →
      ((from : ℕ) → winner before layer cell ≡ Some from → e.midway.goes layer from ≡ true → ⊥) →
      e.midway.goes layer cell ≡ false →
      slot_at now cell layer ≡ slot
  by_stood Bare s none f = end_bare before now layer cell e none (inr s)
  by_stood (Holds object motion) s none f = end_stays before now layer cell e object motion s f

  by_own : (b : Bool) → slides before layer cell ≡ b → entrant before layer cell ≡ None →
      ((from : ℕ) → winner before layer cell ≡ Some from → e.midway.goes layer from ≡ true → ⊥) →
      slot_at_rest (slot_at now cell layer) ≡ slid_slot before layer cell
  by_own true g nobody none = rw (nobody, g, slid_slot)
      (ap slot_at_rest (end_bare before now layer cell e none (inl (e.went cell ∙ g))))
  by_own false g nobody none = rw (nobody, g, slid_slot)
      (ap slot_at_rest (by_stood (slot_at before cell layer) refl none (e.went cell ∙ g)))

  by_slides : (from : ℕ) (b : Bool) → winner before layer cell ≡ Some from → slides before layer from ≡ b →
      slot_at_rest (slot_at now cell layer) ≡ slid_slot before layer cell
  by_slides from true f g =
      let enters : entrant before layer cell ≡ Some from = ap (if_slides before layer) f
      ∙ ap (λ (b : Bool). elim b [ true ↦ Some from | false ↦ None ]) g in
      rw (enters, slid_slot) (end_enters before now layer cell from e f (e.went from ∙ g))
  by_slides from false f g =
      let nobody : entrant before layer cell ≡ None = ap (if_slides before layer) f
      ∙ ap (λ (b : Bool). elim b [ true ↦ Some from | false ↦ None ]) g in
      by_own (slides before layer cell) refl nobody
      (λ other h k. let same : other ≡ from = same_Some other from (sym h ∙ f) in
      let slid_too : slides before layer from ≡ true =
      subst (λ (c : ℕ). slides before layer c ≡ true) same (sym (e.went other) ∙ k) in
      cc)

  by_winner : (w : Option ℕ) → winner before layer cell ≡ w →
      slot_at_rest (slot_at now cell layer) ≡ slid_slot before layer cell
  by_winner None f = by_own (slides before layer cell) refl (ap (if_slides before layer) f) (λ other h k.
      let bad : Some other ≡ None = sym h ∙ f in cc)
  by_winner (Some from) f = by_slides from (slides before layer from) f refl

same_fields : (w w' h h' l l' : ℕ) (c c' : List (List Slot)) → w ≡ w' → h ≡ h' → l ≡ l' → c ≡ c' →
    let a : Grid = record { width = w; height = h; layers = l; cells = c } in let b : Grid =
    record { width = w'; height = h'; layers = l'; cells = c' } in a ≡ b
same_fields w w' h h' l l' c c' i j k m = rw (i, j, k, m) refl

same_grids : (a b : Grid) → a.width ≡ b.width → a.height ≡ b.height → a.layers ≡ b.layers → a.cells ≡ b.cells → a ≡ b
same_grids a b w h l c = same_fields a.width b.width a.height b.height a.layers b.layers a.cells b.cells w h l c

-- where no layer has an object that can go the movement is at its end, and it is the exact one
pub rest_exact : (before now : Grid) → IsGrid now → IsInOrder before now now.layers None → at_rest now ≡ slid before
rest_exact before now shape o = same_grids (at_rest now) (slid before) o.midway.width o.midway.height
    o.midway.layers
    (same_lists (map (map slot_at_rest) now.cells) (slid before).cells many (λ k d h. each k d h)) where
      ended : (layer : ℕ) → layer < now.layers → IsEnd before now layer
      ended layer within = record {
        midway = o.midway;
        went = λ from. same_tests (o.midway.goes layer from) (slides before layer from)
            (went_slides before now now.layers None o shape layer from)
            (slides_went before now now.layers None o layer (λ from to goes. o.below layer from to within goes)
            (cell_count before) from);
        comes = stands_from before now now.layers None o layer;
      }

      slot_after : ℕ → ℕ → Slot
      slot_after cell layer = slid_slot before layer cell

      cell_after : ℕ → List Slot
      cell_after cell = map (slot_after cell) (range_with_len 0 before.layers)

      whole : cell_count now ≡ cell_count before
      whole = rw (o.midway.width, o.midway.height) refl

      many : length (map (map slot_at_rest) now.cells) ≡ length (map cell_after (range_with_len 0 (cell_count before)))
      many = length-map now.cells (map slot_at_rest) ∙ shape.cells ∙ whole
          ∙ sym (length-map-range_with_len cell_after 0 (cell_count before))

      long : (k : ℕ) → k < length now.cells → length (map slot_at_rest (cell_at now k)) ≡ length (cell_after k)
      long k h = length-map (cell_at now k) slot_at_rest ∙ shape.slots k [] h ∙ o.midway.layers
          ∙ sym (length-map-range_with_len (slot_after k) 0 before.layers)

      slots : (k : ℕ) → k < length now.cells → (j : ℕ) (d : Slot) → j < length (map slot_at_rest (cell_at now k)) →
          get_or (map slot_at_rest (cell_at now k)) j d ≡ get_or (cell_after k) j d
      slots k h j d h' =
          let wide : length (map slot_at_rest (cell_at now k)) ≡ length (cell_at now k) =
          length-map (cell_at now k) slot_at_rest in
          let full : length (cell_at now k) ≡ now.layers = shape.slots k [] h in
          get_or-map slot_at_rest (cell_at now k) j Bare d (omega arith)
          ∙ end_slot before now j k (ended j (omega arith))
          ∙ sym (get_or-map-range_with_len (slot_after k) 0 before.layers j j d (omega (arith, o.midway.layers))
          (omega arith))

      each : (k : ℕ) (d : List Slot) → k < length (map (map slot_at_rest) now.cells) →
          get_or (map (map slot_at_rest) now.cells) k d ≡ get_or
          (map cell_after (range_with_len 0 (cell_count before))) k d
      each k d h =
          let same : length (map (map slot_at_rest) now.cells) ≡ length now.cells =
          length-map now.cells (map slot_at_rest) in
          let within : k < length now.cells = omega arith in
          let within' : k < cell_count before = omega (arith, shape.cells, whole) in
          get_or-map (map slot_at_rest) now.cells k [] d within
          ∙ same_lists (map slot_at_rest (cell_at now k)) (cell_after k) (long k within) (slots k within)
          ∙ sym (get_or-map-range_with_len cell_after 0 (cell_count before) k k d within' (omega arith))
