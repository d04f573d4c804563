-- The movement keeps the grids of a game: each slot of the grid after it is one of the same layer of the grid before,
-- or bare.
use Rattle.std.proofs.Common.{◌≡◌, ℕ, zero, suc, ◌+◌, Bool, true, false, Option, Some, None, List, [], ◌∷◌, map, get_or}
use Rattle.std.proofs.Common.{sym, ◌∙◌, arith}
use mathlib.Core.Path.{subst}
use Rattle.std.specs.Prelude.{All}
use Rattle.std.specs.List.{range_with_len}
use Rattle.std.proofs.lemmas.List.FromFn.{length-map-range_with_len}
use Rattle.std.proofs.lemmas.List.Elements.{All-nil, All-cons, All-head, All-tail}
use Rattle.ps_model.specs.declared.pieces.Slot.{Slot}
use Rattle.ps_model.specs.declared.pieces.Slot.TheVariants.{Bare, Holds}
use Rattle.ps_model.specs.names.Names.{Names}
use Rattle.ps_model.specs.board.Grid.{Grid, cell_count, slot_at, slot_at_rest}
use Rattle.ps_model.specs.board.Movement.{entrant, slides, slid_slot, slid}
use Rattle.ps_model.specs.board.GameGrids.{IsSlotOf, IsCellFrom, IsCellOf, IsGridOf}

-- a slot of a cell, also where there is none
pub IsSlotOf-read : (names : Names) (layer step : ℕ) (cell : List Slot) → IsCellFrom names layer cell →
    IsSlotOf names (layer + step) (get_or cell step Bare)
IsSlotOf-read names layer step [] h = tt
IsSlotOf-read names layer zero (slot ∷ slots) h = let e : layer + 0 ≡ layer = omega arith in
    subst (λ (n : ℕ). IsSlotOf names n slot) (sym e) h.0
IsSlotOf-read names layer (suc step) (slot ∷ slots) h =
    let e : suc layer + step ≡ layer + suc step = omega arith in
    subst (λ (n : ℕ). IsSlotOf names n (get_or slots step Bare)) e (IsSlotOf-read names (suc layer) step slots h.1)

-- a slot of one of the cells of a game, also where there is none
pub IsSlotOf-of_cells : (names : Names) (cells : List (List Slot)) (cell layer : ℕ) → All (IsCellOf names) cells →
    IsSlotOf names layer (get_or (get_or cells cell []) layer Bare)
IsSlotOf-of_cells names [] cell layer all = tt
IsSlotOf-of_cells names (first ∷ others) zero layer all =
    let e : 0 + layer ≡ layer = omega arith in
    subst (λ (n : ℕ). IsSlotOf names n (get_or first layer Bare)) e
    (IsSlotOf-read names 0 layer first (All-head (IsCellOf names) first others all).1)
IsSlotOf-of_cells names (first ∷ others) (suc cell) layer all =
    IsSlotOf-of_cells names others cell layer (All-tail (IsCellOf names) first others all)

-- a slot of a grid of the game, also where there is none
pub IsSlotOf-slot_at : (names : Names) (g : Grid) (cell layer : ℕ) → IsGridOf names g →
    IsSlotOf names layer (slot_at g cell layer)
IsSlotOf-slot_at names g cell layer h = IsSlotOf-of_cells names g.cells cell layer h.cells

-- rest keeps a slot
pub IsSlotOf-at_rest : (names : Names) (layer : ℕ) (slot : Slot) → IsSlotOf names layer slot →
    IsSlotOf names layer (slot_at_rest slot)
IsSlotOf-at_rest names layer Bare h = tt
IsSlotOf-at_rest names layer (Holds object motion) h = h

slid_by : (names : Names) (g : Grid) (layer cell : ℕ) (came : Option ℕ) (gone : Bool) → IsGridOf names g →
    IsSlotOf names layer (elim came [
      | Some from ↦ slot_at_rest (slot_at g from layer)
      | None ↦ elim gone [ true ↦ Bare | false ↦ slot_at_rest (slot_at g cell layer) ]
    ])
slid_by names g layer cell (Some from) gone h =
    IsSlotOf-at_rest names layer (slot_at g from layer) (IsSlotOf-slot_at names g from layer h)
slid_by names g layer cell None true h = tt
slid_by names g layer cell None false h = IsSlotOf-at_rest names layer (slot_at g cell layer)
    (IsSlotOf-slot_at names g cell layer h)

-- a slot after the movement
pub IsSlotOf-slid_slot : (names : Names) (g : Grid) (layer cell : ℕ) → IsGridOf names g →
    IsSlotOf names layer (slid_slot g layer cell)
IsSlotOf-slid_slot names g layer cell h = slid_by names g layer cell (entrant g layer cell) (slides g layer cell) h

-- a cell that is made slot by slot
pub IsCellFrom-made : (names : Names) (slot : ℕ → Slot) (from count : ℕ) →
    ((layer : ℕ) → IsSlotOf names layer (slot layer)) → IsCellFrom names from (map slot (range_with_len from count))
IsCellFrom-made names slot from zero h = tt
IsCellFrom-made names slot from (suc count) h =
    let e : from + 1 ≡ suc from = omega arith in (
      h from,
      subst (λ (n : ℕ). IsCellFrom names n (map slot (range_with_len (from + 1) count))) e
          (IsCellFrom-made names slot (from + 1) count h),
    )

-- a list that is made element by element
pub All-made : {X : Type 0} (P : X → Type 0) (f : ℕ → X) (from count : ℕ) → ((i : ℕ) → P (f i)) →
    All P (map f (range_with_len from count))
All-made P f from zero h = All-nil P
All-made P f from (suc count) h = All-cons P (f from) (map f (range_with_len (from + 1) count)) (h from)
    (All-made P f (from + 1) count h)

pub slid-keeps : (names : Names) (g : Grid) → IsGridOf names g → IsGridOf names (slid g)
slid-keeps names g h = record {
  layers = h.layers;
  cells = All-made (IsCellOf names) (λ cell. map (λ layer. slid_slot g layer cell) (range_with_len 0 g.layers)) 0
      (cell_count g)
      (λ cell. (
        length-map-range_with_len (λ layer. slid_slot g layer cell) 0 g.layers
            ∙ h.layers,
        IsCellFrom-made names (λ layer. slid_slot g layer cell) 0 g.layers (λ layer.
            IsSlotOf-slid_slot names g layer cell h),
      ));
  shape = length-map-range_with_len (λ cell. map (λ layer. slid_slot g layer cell) (range_with_len 0 g.layers)) 0
      (cell_count g);
}
