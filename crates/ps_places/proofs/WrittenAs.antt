-- A grid of which each cell has become something, and whether one of them is another than it was: in several steps,
-- each of which rewrites cells that are as they were.
use Rattle.std.proofs.Common.{◌≡◌, ◌∙◌, ℕ, zero, suc, ◌+◌, ◌<◌, ◌≤◌, ◌||◌, inl, inr, Bool, true, false, not, Option}
use Rattle.std.proofs.Common.{Some, None}
use Rattle.std.proofs.Common.{List, [], length, map, refl, sym, ap, ap₂, arith}
use Rattle.std.specs.Prelude.{nat_eq, slice_get}
use Rattle.std.specs.List.{list_any, range_with_len}
use Rattle.std.proofs.lemmas.Bool.{cases_Bool, cases_lt}
use Rattle.std.proofs.lemmas.List.FromFn.{length-map-range_with_len, get_or-map-range_with_len}
use Rattle.std.proofs.lemmas.Option.{get_or_from_slice_get, slice_get-get_or, slice_get_past}
use Rattle.std.proofs.Math.Bool.{or-false}
use Rattle.ps_model.specs.declared.pieces.Slot.{Slot}
use Rattle.ps_model.specs.board.Grid.{Grid, cell_at}
use Rattle.ps_model.specs.board.Attempts.{Rewritten, rewritten_cell, same_cell}
use Rattle.ps_model.specs.meaning.RuleMeanings.{CellMeaning}
use Rattle.ps_laws.proofs.common.SameThings.{same_cell-own}
use Rattle.ps_laws.proofs.common.Truths.{or_across}
use Rattle.ps_match.specs.Together.{cell_where, changes_where, rewritten_where}
use Rattle.ps_places.specs.WrittenTogether.{then_where}
use Rattle.ps_match.proofs.Chosen.{any_agree, rewritten_of, where-none, where-one}
use Rattle.ps_match.proofs.RowWritten.{told}
use Rattle.ps_places.proofs.Ranges.{map-range-agree}

-- whether a cell has become another one
abbrev pub is_changed : Grid → (ℕ → List Slot) → ℕ → Bool
is_changed g becomes n = not (same_cell (cell_at g n) (becomes n))

-- the grid whose cells have become that
unfoldable pub written_as : Grid → (ℕ → List Slot) → Rewritten
written_as g becomes =
    rewritten_of g (map becomes (range_with_len 0 (length g.cells)))
    (list_any (is_changed g becomes) (range_with_len 0 (length g.cells)))

-- a cell that is chosen is as it was, and becomes what is made of it; any other becomes no more than it has
pub record IsStep (g : Grid) (first second : ℕ → List Slot) (made : List Slot → List Slot) (chosen : ℕ → Bool)
    (n : ℕ) : Type 0 where
  pub same : chosen n ≡ true → first n ≡ cell_at g n
  pub written : chosen n ≡ true → second n ≡ made (cell_at g n)
  pub left : chosen n ≡ false → second n ≡ first n

-- one of a kind, or of another
any_either : (p q r : ℕ → Bool) (a n : ℕ) → ((k : ℕ) → a ≤ k → k < a + n → r k ≡ (p k || q k)) →
    (list_any p (range_with_len a n) || list_any q (range_with_len a n)) ≡ list_any r (range_with_len a n)
any_either p q r a zero e = refl
any_either p q r a (suc n) e =
    sym (or_across (p a) (q a) (list_any p (range_with_len (a + 1) n)) (list_any q (range_with_len (a + 1) n)))
    ∙ ap₂ (λ (b others : Bool). b || others) (sym (e a (omega arith) (omega arith)))
    (any_either p q r (a + 1) n (λ k low high. e k (omega arith) (omega arith)))

-- one cell of a step
step_cell : (g h : Grid) (first second : ℕ → List Slot) (made : List Slot → List Slot) (chosen : ℕ → Bool) (n : ℕ) →
    cell_at h n ≡ first n → IsStep g first second made chosen n → cell_where h made chosen n ≡ second n
step_cell g h first second made chosen n at step = elim (cases_Bool (chosen n)) [
  | inl now ↦ rw now (ap made (at ∙ step.same now) ∙ sym (step.written now))
  | inr not_now ↦ rw not_now (at ∙ sym (step.left not_now))
]

step_change : (g h : Grid) (first second : ℕ → List Slot) (made : List Slot → List Slot) (chosen : ℕ → Bool) (n : ℕ) →
    cell_at h n ≡ first n → IsStep g first second made chosen n →
    is_changed g second n ≡ (is_changed g first n || changes_where h made chosen n)
step_change g h first second made chosen n at step = elim (cases_Bool (chosen n)) [
  | inl now ↦
      let here : cell_at h n ≡ cell_at g n = at ∙ step.same now in
      rw (now, step.written now, here, step.same now, same_cell-own (cell_at g n)) refl
  | inr not_now ↦ rw (not_now, step.left not_now) (sym (or-false (is_changed g first n)))
]

module _ (g : Grid) where
  pub cell_at-as : (becomes : ℕ → List Slot) (n : ℕ) → n < length g.cells →
      cell_at (written_as g becomes).grid n ≡ becomes n
  unfolding written_as
  cell_at-as becomes n low = get_or-map-range_with_len becomes 0 (length g.cells) n n [] low (omega arith)

  pub length-as : (becomes : ℕ → List Slot) → length (written_as g becomes).grid.cells ≡ length g.cells
  unfolding written_as
  length-as becomes = length-map-range_with_len becomes 0 (length g.cells)

  pub height-as : (becomes : ℕ → List Slot) → (written_as g becomes).grid.height ≡ g.height
  unfolding written_as
  height-as becomes = refl

  -- the cells become the same
  pub as-agree : (first second : ℕ → List Slot) → ((n : ℕ) → n < length g.cells → first n ≡ second n) →
      written_as g first ≡ written_as g second
  unfolding written_as
  as-agree first second same =
      ap₂ (rewritten_of g)
      (map-range-agree first second 0 (length g.cells) (λ n low high. same n (omega (arith, high))))
      (any_agree (is_changed g first) (is_changed g second) 0 (length g.cells)
      (λ n low high. rw (same n (omega (arith, high))) refl))

  -- a cell that is as it was
  pub as-same : (becomes : ℕ → List Slot) (n : ℕ) → (n < length g.cells → becomes n ≡ cell_at g n) →
      slice_get (written_as g becomes).grid.cells n ≡ slice_get g.cells n
  as-same becomes n same = elim (cases_lt n (length g.cells)) [
    | inl low ↦
        let inside : n < length (written_as g becomes).grid.cells = rw (length-as becomes) low in
        slice_get-get_or (written_as g becomes).grid.cells n [] inside
        ∙ ap Some (cell_at-as becomes n low ∙ same low)
        ∙ sym (slice_get-get_or g.cells n [] low)
    | inr high ↦
        let past : length (written_as g becomes).grid.cells ≤ n = rw (length-as becomes) high in
        slice_get_past (written_as g becomes).grid.cells n past ∙ sym (slice_get_past g.cells n high)
  ]

  step_cells : (h : Grid) (first second : ℕ → List Slot) (made : List Slot → List Slot) (chosen : ℕ → Bool) →
      length h.cells ≡ length g.cells → ((n : ℕ) → n < length g.cells → cell_at h n ≡ first n) →
      ((n : ℕ) → n < length g.cells → IsStep g first second made chosen n) →
      rewritten_of g (map (cell_where h made chosen) (range_with_len 0 (length h.cells)))
      (list_any (is_changed g first) (range_with_len 0 (length g.cells))
      || list_any (changes_where h made chosen) (range_with_len 0 (length h.cells)))
      ≡ written_as g second
  unfolding written_as
  step_cells h first second made chosen long at step =
      ap₂ (rewritten_of g)
      (ap (λ (count : ℕ). map (cell_where h made chosen) (range_with_len 0 count)) long
      ∙ map-range-agree (cell_where h made chosen) second 0 (length g.cells)
      (λ n low high. let below : n < length g.cells = omega (arith, high) in
      step_cell g h first second made chosen n (at n below) (step n below)))
      (ap (λ (count : ℕ). list_any (is_changed g first) (range_with_len 0 (length g.cells))
      || list_any (changes_where h made chosen) (range_with_len 0 count)) long
      ∙ any_either (is_changed g first) (changes_where h made chosen) (is_changed g second) 0 (length g.cells)
      (λ n low high. let below : n < length g.cells = omega (arith, high) in
      step_change g h first second made chosen n (at n below) (step n below)))

  -- cells of it rewritten together
  pub as_then : (first second : ℕ → List Slot) (made : List Slot → List Slot) (chosen : ℕ → Bool) →
      ((n : ℕ) → n < length g.cells → IsStep g first second made chosen n) →
      then_where (written_as g first) made chosen ≡ written_as g second
  unfolding written_as rewritten_where
  as_then first second made chosen step =
      step_cells (written_as g first).grid first second made chosen (length-as first) (cell_at-as first) step

  -- or one of them
  with_one : (r : Rewritten) (m : CellMeaning) (n : ℕ) (cell : Option (List Slot)) → slice_get (r.grid).cells n ≡ cell →
      n < length (r.grid).cells → rewritten_cell r m n cell ≡ then_where r m.rewritten (λ k. nat_eq k n)
  with_one r m n None is low = absurd (cc (slice_get-get_or (r.grid).cells n [] low, is))
  with_one r m n (Some cell) is low =
      let same : cell_at r.grid n ≡ cell = get_or_from_slice_get (r.grid).cells n cell [] is in
      ap (λ (c : List Slot). rewritten_cell r m n (Some c)) (sym same)
      ∙ sym (ap (λ (after : Rewritten). let both : Rewritten =
      record { grid = after.grid; changed = r.changed || after.changed } in both)
      (where-one r.grid m.rewritten n low))

  pub as-one : (first second : ℕ → List Slot) (m : CellMeaning) (n : ℕ) → n < length g.cells →
      ((k : ℕ) → k < length g.cells → IsStep g first second m.rewritten (λ i. nat_eq i n) k) →
      rewritten_cell (written_as g first) m n (slice_get (written_as g first).grid.cells n) ≡ written_as g second
  as-one first second m n low step =
      with_one (written_as g first) m n (slice_get (written_as g first).grid.cells n) refl (rw (length-as first) low)
      ∙ as_then first second m.rewritten (λ k. nat_eq k n) step

  -- nothing has become another
  pub as-still : told g false ≡ written_as g (cell_at g)
  unfolding written_as rewritten_where
  as-still =
      sym (where-none g (λ cell. cell) (λ n. false) (λ n low. refl))
      ∙ ap (rewritten_of g (map (cell_at g) (range_with_len 0 (length g.cells))))
      (any_agree (λ n. false) (is_changed g (cell_at g)) 0 (length g.cells)
      (λ n low high. sym (ap not (same_cell-own (cell_at g n)))))
