-- Slots of a grid that are changed one after the other, in whatever order.
use Rattle.std.proofs.Common.{◌≡◌, ◌∙◌, ℕ, ◌<◌, ◌≤◌, inl, inr, List, [], length, map, get_or}
use Rattle.std.proofs.Common.{refl, sym, ap, arith}
use Rattle.std.specs.Prelude.{slice_set}
use Rattle.std.proofs.lemmas.Bool.{cases_eq}
use Rattle.std.proofs.lemmas.List.{get_or-map, get_or-set_other, get_or-set_same, length-map, map-set, set-get_or}
use Rattle.ps_model.specs.declared.pieces.Slot.{Slot}
use Rattle.ps_model.specs.declared.pieces.Slot.TheVariants.{Bare}
use Rattle.ps_model.specs.board.Grid.{Grid, cell_at, slot_at, with_slot}
use Rattle.ps_turn.specs.Sweeps.{AreChanged, IsCellChanged, IsSlotChanged, StayChanged}
use Rattle.ps_turn.proofs.CellsChanged.{map_fixed}

-- a change leaves a list as long as it is
module _ (change : Slot → Slot) (before after : Grid) (are : AreChanged (map change) before after) where
  pub cells_long : length after.cells ≡ length before.cells
  cells_long =
      sym (length-map after.cells (map change)) ∙ ap length are.all ∙ length-map before.cells (map change)

  pub slots_long : (cell : ℕ) → cell < length before.cells →
      length (cell_at after cell) ≡ length (cell_at before cell)
  slots_long cell within =
      let there : cell < length after.cells = rw cells_long within in
      sym (length-map (cell_at after cell) change)
      ∙ ap length (sym (get_or-map (map change) after.cells cell [] [] there)
      ∙ ap (λ (cells : List (List Slot)). get_or cells cell []) are.all
      ∙ get_or-map (map change) before.cells cell [] [] within)
      ∙ length-map (cell_at before cell) change

  -- and whether a slot is changed or not yet, the change makes the same of it
  pub slots_agree : (cell layer : ℕ) → cell < length before.cells → layer < length (cell_at before cell) →
      change (slot_at after cell layer) ≡ change (slot_at before cell layer)
  slots_agree cell layer within low =
      let there : cell < length after.cells = rw cells_long within in
      let deep : layer < length (cell_at after cell) = rw (slots_long cell within) low in
      let cells : map change (cell_at after cell) ≡ map change (cell_at before cell) =
      sym (get_or-map (map change) after.cells cell [] [] there)
      ∙ ap (λ (cells : List (List Slot)). get_or cells cell []) are.all
      ∙ get_or-map (map change) before.cells cell [] [] within in
      sym (get_or-map change (cell_at after cell) layer Bare Bare deep)
      ∙ ap (λ (slots : List Slot). get_or slots layer Bare) cells
      ∙ get_or-map change (cell_at before cell) layer Bare Bare low

-- one slot is changed
module _ (change : Slot → Slot) (again : (slot : Slot) → change (change slot) ≡ change slot) (bare : change Bare ≡ Bare)
    (g : Grid) (cell layer : ℕ) (within : cell < length g.cells) (low : layer < length (cell_at g cell)) where
  abbrev pub slots : List Slot
  slots = cell_at g cell

  abbrev pub slot : Slot
  slot = slot_at g cell layer

  abbrev pub made : List Slot
  made = slice_set slots layer (change slot)

  abbrev pub next : Grid
  next = with_slot g cell layer (change slot)

  made_all : map change made ≡ map change slots
  made_all =
      map-set change slots layer (change slot)
      ∙ ap (slice_set (map change slots) layer) (again slot)
      ∙ sym (map-set change slots layer slot)
      ∙ ap (map change) (set-get_or slots layer Bare)

  there : cell_at next cell ≡ made
  there = get_or-set_same g.cells cell made [] within

  pub slot_changed : IsSlotChanged change next cell layer
  slot_changed =
      let here : slot_at next cell layer ≡ change slot =
      ap (λ (s : List Slot). get_or s layer Bare) there ∙ get_or-set_same slots layer (change slot) Bare low in
      ap change here ∙ again slot ∙ sym here

  pub slots_stay : StayChanged change g next
  slots_stay other above is = elim (cases_eq other cell) [
    | inl same ↦ elim (cases_eq above layer) [
      | inl level ↦ rw (same, level) slot_changed
      | inr apart ↦
          let here : slot_at next cell above ≡ slot_at g cell above =
          ap (λ (s : List Slot). get_or s above Bare) there
          ∙ get_or-set_other slots layer above (change slot) Bare apart in
          let kept : IsSlotChanged change g cell above = rw same at is in
          rw same (ap change here ∙ kept ∙ sym here)
    ]
    | inr apart ↦
        let here : cell_at next other ≡ cell_at g other = get_or-set_other g.cells cell other made [] apart in
        let one : slot_at next other above ≡ slot_at g other above = ap (λ (s : List Slot). get_or s above Bare) here in
        ap change one ∙ is ∙ sym one
  ]

  pub slot_changes : AreChanged (map change) g next
  slot_changes =
      record {
        sides = refl;
        all =
            map-set (map change) g.cells cell made
            ∙ ap (slice_set (map (map change) g.cells) cell) made_all
            ∙ sym (map-set (map change) g.cells cell slots)
            ∙ ap (map (map change)) (set-get_or g.cells cell []);
        kept = λ other is. elim (cases_eq other cell) [
          | inl same ↦
              let all : map change slots ≡ slots = rw same at is in
              let one : change slot ≡ slot =
              sym (get_or-map change slots layer Bare Bare low) ∙ ap (λ (s : List Slot). get_or s layer Bare) all in
              let so : made ≡ slots = ap (slice_set slots layer) one ∙ set-get_or slots layer Bare in
              let here : cell_at next cell ≡ slots = there ∙ so in
              rw same (ap (map change) here ∙ all ∙ sym here)
          | inr apart ↦
              let here : cell_at next other ≡ cell_at g other = get_or-set_other g.cells cell other made [] apart in
              ap (map change) here ∙ is ∙ sym here
        ];
      }

-- a cell is changed where each of its slots is
pub cell_of_slots : (change : Slot → Slot) (g : Grid) (cell layers : ℕ) → length (cell_at g cell) ≤ layers →
    ((layer : ℕ) → layer < layers → IsSlotChanged change g cell layer) → IsCellChanged (map change) g cell
cell_of_slots change g cell layers few each =
    map_fixed change Bare (cell_at g cell) (λ layer low. each layer (omega (arith, low, few)))
