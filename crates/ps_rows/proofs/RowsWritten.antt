-- Layers of a row written one after the other come to its cells written.
use Rattle.std.proofs.Common.{◌≡◌, ◌∙◌, ℕ, zero, suc, ◌+◌, ◌*◌, ◌/◌, ◌%◌, ◌<◌, ◌≤◌, inl, inr, Bool, true, false, not}
use Rattle.std.proofs.Common.{◌&&◌, ◌||◌, Option, List, [], ◌∷◌, length, get_or, refl, sym, ap, ap₂, arith}
use Rattle.std.specs.Prelude.{nat_eq, nat_lt, if◌then◌else◌}
use Rattle.std.specs.List.{list_any, range_with_len}
use Rattle.std.proofs.lemmas.Bool.{and_parts, cases_Bool, cases_eq, eq-eqb, eqb-true, le-ltb, lt-ltb, ne_eqb, or_parts}
use Rattle.std.proofs.lemmas.Bool.{false≢true, not-false}
use Rattle.std.proofs.lemmas.List.{same_lists, get_or_default}
use Rattle.ps_model.specs.declared.pieces.Slot.{Slot}
use Rattle.ps_model.specs.declared.pieces.Slot.TheVariants.{Bare}
use Rattle.ps_model.specs.board.Attempts.{Rewritten, same_cell, same_slot}
use Rattle.ps_model.specs.board.Grid.{Grid, cell_at, slot_at}
use Rattle.ps_model.specs.meaning.Compiled.{CellWrite, cell_written, written_from}
use Rattle.ps_laws.proofs.common.SameThings.{same_slot-own}
use Rattle.ps_board.specs.ColumnSets.{both_columns, column_at, columns_below, set_columns}
use Rattle.ps_board.proofs.ColumnLaws.{none_in}
use Rattle.std.proofs.lemmas.Nat.{div_below}
use Rattle.std.proofs.Math.Bool.{and-true, and-false}
use Rattle.ps_match.specs.InRoom.{slot_after, write_in_room}
use Rattle.ps_match.specs.Together.{cell_where, changes_where, is_on_row, rewritten_where}
use Rattle.ps_match.specs.Touches.{touches}
use Rattle.ps_match.proofs.Cells.{get_or-written_from, length-written_from}
use Rattle.ps_match.proofs.Chosen.{any_none, cell_at-where, length-where, rewritten_of, where-agree, where-none}
use Rattle.ps_match.proofs.LeftAlone.{untouched}
use Rattle.ps_match.proofs.RowWritten.{lt_next}
use Rattle.ps_rows.specs.SlotsWritten.{AreSlotsLeft, AreSlotsWritten, in_columns}
use Rattle.ps_rows.proofs.Sets.{both_at, wide_of, wide_on}
use Rattle.ps_model.specs.declared.limits.TheConstants.{SIDE_LIMIT}

abbrev pub slot_when : Bool → Slot → Slot → Slot
slot_when b new old = if b then new else old

-- layers --------------------------------------------------------------------------------------------------------------

module _ (g : Grid) (chosen : ℕ → Bool) (after : ℕ → Slot → Slot) where
  -- other words for the same layers
  pub slots_as : (now : Grid) (on more : ℕ → Bool) → ((l : ℕ) → l < g.layers → more l ≡ on l) →
      AreSlotsWritten g now chosen on after → AreSlotsWritten g now chosen more after
  slots_as now on more same so = λ c l inside below.
      so c l inside below
      ∙ ap (λ (b : Bool). slot_when (chosen c && b) (after l (slot_at g c l)) (slot_at g c l)) (sym (same l below))

  pub left_as : (on more : ℕ → Bool) → ((l : ℕ) → l < g.layers → more l ≡ on l) →
      AreSlotsLeft g chosen on after → AreSlotsLeft g chosen more after
  left_as on more same so = λ c l inside below here also. so c l inside below here (sym (same l below) ∙ also)

  -- one layer more
  module _ (now : Grid) (on : ℕ → Bool) (so : AreSlotsWritten g now chosen on after) (count : ℕ)
      (off : on count ≡ false) where
    slot_still : (c l : ℕ) → c < g.width * g.height → l < g.layers → l ≡ count → slot_at now c l ≡ slot_at g c l
    slot_still c l inside below e =
        so c l inside below
        ∙ ap (λ (b : Bool). slot_when (chosen c && b) (after l (slot_at g c l)) (slot_at g c l)) (ap on e ∙ off)
        ∙ ap (λ (b : Bool). slot_when b (after l (slot_at g c l)) (slot_at g c l)) (and-false (chosen c))

    pub slots_next : (next : Grid) (more : ℕ → Bool) → ((l : ℕ) → l < g.layers → more l ≡ (nat_eq l count || on l)) →
        now.width ≡ g.width → now.height ≡ g.height → now.layers ≡ g.layers →
        AreSlotsWritten now next chosen (λ l. nat_eq l count) after → AreSlotsWritten g next chosen more after
    slots_next next more same wide high deep step = λ c l inside below.
        let inside_now : c < now.width * now.height = rw (wide, high) inside in
        let below_now : l < now.layers = rw deep below in
        step c l inside_now below_now ∙ elim (cases_eq l count) [
          | inl e ↦
              ap₂ (λ (b : Bool) (s : Slot). slot_when (chosen c && b) (after l s) s) (eq-eqb l count e)
              (slot_still c l inside below e)
              ∙ sym (ap (λ (b : Bool). slot_when (chosen c && b) (after l (slot_at g c l)) (slot_at g c l))
              (same l below ∙ ap (λ (b : Bool). b || on l) (eq-eqb l count e)))
          | inr n ↦
              ap (λ (b : Bool). slot_when (chosen c && b) (after l (slot_at now c l)) (slot_at now c l))
              (ne_eqb l count n)
              ∙ ap (λ (b : Bool). slot_when b (after l (slot_at now c l)) (slot_at now c l)) (and-false (chosen c))
              ∙ so c l inside below
              ∙ sym (ap (λ (b : Bool). slot_when (chosen c && b) (after l (slot_at g c l)) (slot_at g c l))
              (same l below ∙ ap (λ (b : Bool). b || on l) (ne_eqb l count n)))
        ]

    pub left_next : (more : ℕ → Bool) → ((l : ℕ) → l < g.layers → more l ≡ (nat_eq l count || on l)) →
        now.width ≡ g.width → now.height ≡ g.height → now.layers ≡ g.layers →
        AreSlotsLeft g chosen on after → AreSlotsLeft now chosen (λ l. nat_eq l count) after →
        AreSlotsLeft g chosen more after
    left_next more same wide high deep front step = λ c l inside below here also. elim (cases_eq l count) [
      | inl e ↦
          let inside_now : c < now.width * now.height = rw (wide, high) inside in
          let below_now : l < now.layers = rw deep below in
          ap (λ (s : Slot). same_slot s (after l s)) (sym (slot_still c l inside below e))
          ∙ step c l inside_now below_now here (eq-eqb l count e)
      | inr n ↦ front c l inside below here
          (sym (same l below ∙ ap (λ (b : Bool). b || on l) (ne_eqb l count n)) ∙ also)
    ]

    pub left_here : now.width ≡ g.width → now.height ≡ g.height → now.layers ≡ g.layers →
        AreSlotsLeft g chosen (λ l. true) after → AreSlotsLeft now chosen (λ l. nat_eq l count) after
    left_here wide high deep all = λ c l inside below here also.
        let inside_g : c < g.width * g.height = rw (← wide, ← high) inside in
        let below_g : l < g.layers = rw (← deep) below in
        let e : l ≡ count = elim (cases_eq l count)
        [ inl e ↦ e | inr n ↦ absurd (false≢true (sym (ne_eqb l count n) ∙ also)) ] in
        ap (λ (s : Slot). same_slot s (after l s)) (slot_still c l inside_g below_g e)
        ∙ all c l inside_g below_g here refl

-- the layers below the next one
pub next_below : (count l : ℕ) → nat_lt l (count + 1) ≡ (nat_eq l count || nat_lt l count)
next_below count l = elim (cases_eq l count) [
  | inl e ↦
      lt-ltb l (count + 1) (omega arith)
      ∙ sym (ap (λ (b : Bool). b || nat_lt l count) (eq-eqb l count e))
  | inr n ↦ lt_next l count n ∙ sym (ap (λ (b : Bool). b || nat_lt l count) (ne_eqb l count n))
]

-- a layer that the write doesn't touch, and layers
pub one_untouched : (write : CellWrite) (layer : ℕ) → touches write layer ≡ false → (l : ℕ) →
    nat_eq l layer ≡ true → touches write l ≡ false
one_untouched write layer none l same = ap (touches write) (eqb-true l layer same) ∙ none

module _ (table : Option (List ℕ)) (write : CellWrite) (g : Grid) (chosen on : ℕ → Bool)
    (none : (l : ℕ) → l < g.layers → on l ≡ true → touches write l ≡ false) where
  abbrev kept : ℕ → Slot → Slot
  kept = slot_after (write_in_room table write)

  pub slots_untouched : AreSlotsWritten g g chosen on kept
  slots_untouched = λ c l inside below. elim (cases_Bool (on l)) [
    | inl sure ↦
        let same : kept l (slot_at g c l) ≡ slot_at g c l =
        untouched table l write (slot_at g c l) (none l below sure) in
        sym (ap (λ (s : Slot). slot_when (chosen c && on l) s (slot_at g c l)) same
        ∙ either (chosen c && on l) (slot_at g c l))
    | inr never ↦
        sym (ap (λ (b : Bool). slot_when (chosen c && b) (kept l (slot_at g c l)) (slot_at g c l)) never
        ∙ ap (λ (b : Bool). slot_when b (kept l (slot_at g c l)) (slot_at g c l)) (and-false (chosen c)))
  ] where
    either : (b : Bool) (s : Slot) → slot_when b s s ≡ s
    either true s = refl
    either false s = refl

  pub left_untouched : AreSlotsLeft g chosen on kept
  left_untouched = λ c l inside below here sure.
      ap (same_slot (slot_at g c l)) (untouched table l write (slot_at g c l) (none l below sure))
      ∙ same_slot-own (slot_at g c l)

-- cells ---------------------------------------------------------------------------------------------------------------

-- cells are known by their slots
cells_by_slots : (xs ys : List (List Slot)) (n layers : ℕ) → length xs ≡ n → length ys ≡ n →
    ((c : ℕ) → c < n → length (get_or xs c []) ≡ layers) →
    ((c : ℕ) → c < n → length (get_or ys c []) ≡ layers) →
    ((c l : ℕ) → c < n → l < layers → get_or (get_or xs c []) l Bare ≡ get_or (get_or ys c []) l Bare) → xs ≡ ys
cells_by_slots xs ys n layers long many first second same =
    same_lists xs ys (long ∙ sym many)
    (λ k d h.
    let low : k < n = omega arith in
    let there : k < length ys = omega arith in
    get_or_default xs k d [] h
    ∙ same_lists (get_or xs k []) (get_or ys k []) (first k low ∙ sym (second k low))
    (λ i e j.
    let below : i < layers = rw (← first k low) j in
    let as_long : i < length (get_or ys k []) = rw (second k low) below in
    get_or_default (get_or xs k []) i e Bare j ∙ same k i low below
    ∙ sym (get_or_default (get_or ys k []) i e Bare as_long))
    ∙ sym (get_or_default ys k d [] there))

-- a cell that becomes what it was, slot by slot
cell_left : (write : CellWrite) (n : ℕ) (slots : List Slot) →
    ((i : ℕ) → i < length slots → same_slot (get_or slots i Bare) (slot_after write (n + i) (get_or slots i Bare)) ≡
    true) →
    same_cell slots (written_from write n slots) ≡ true
cell_left write n [] left = refl
cell_left write n (slot ∷ slots) left =
    let plain : n + 0 ≡ n = omega arith in
    ap₂ (λ (a b : Bool). a && b) (ap (λ (k : ℕ). same_slot slot (slot_after write k slot)) (sym plain)
    ∙ left 0 (omega arith))
    (cell_left write (suc n) slots
    (λ i below. let e : suc n + i ≡ n + suc i = omega arith in
    ap (λ (k : ℕ). same_slot (get_or slots i Bare) (slot_after write k (get_or slots i Bare))) e
    ∙ left (suc i) (omega arith)))

slot_left : (write : CellWrite) (n : ℕ) (slots : List Slot) (i : ℕ) → i < length slots →
    same_cell slots (written_from write n slots) ≡ true →
    same_slot (get_or slots i Bare) (slot_after write (n + i) (get_or slots i Bare)) ≡ true
slot_left write n [] i below same = absurd (omega arith)
slot_left write n (slot ∷ slots) zero below same =
    let plain : n + 0 ≡ n = omega arith in
    ap (λ (k : ℕ). same_slot slot (slot_after write k slot)) plain
    ∙ (and_parts (same_slot slot (slot_after write n slot)) (same_cell slots (written_from write (suc n) slots))
    same).0
slot_left write n (slot ∷ slots) (suc i) below same =
    let e : n + suc i ≡ suc n + i = omega arith in
    ap (λ (k : ℕ). same_slot (get_or slots i Bare) (slot_after write k (get_or slots i Bare))) e
    ∙ slot_left write (suc n) slots i (omega arith)
    (and_parts (same_slot slot (slot_after write n slot)) (same_cell slots (written_from write (suc n) slots))
    same).1

none_of : (p : ℕ → Bool) (a n k : ℕ) → a ≤ k → k < a + n → list_any p (range_with_len a n) ≡ false → p k ≡ false
none_of p a zero k low high none = absurd (omega arith)
none_of p a (suc n) k low high none =
    let parts = or_parts (p a) (list_any p (range_with_len (a + 1) n)) none in
    elim (cases_eq k a) [
      | inl e ↦ ap p e ∙ parts.0
      | inr other ↦ none_of p (a + 1) n k (omega arith) (omega arith)
          parts.1
    ]

module _ (table : Option (List ℕ)) (write : CellWrite) (g next : Grid) (chosen : ℕ →
    Bool) (long : length g.cells ≡ g.width * g.height)
    (slots : (c : ℕ) → c < g.width * g.height →
    length (cell_at g c) ≡ g.layers) (next_long : length next.cells ≡ g.width * g.height)
    (next_slots : (c : ℕ) → c < g.width * g.height → length (cell_at next c) ≡ g.layers) where
  abbrev after : ℕ → Slot → Slot
  after = slot_after (write_in_room table write)

  abbrev becomes : List Slot → List Slot
  becomes = cell_written (write_in_room table write)

  slot_becomes : (c l : ℕ) → c < g.width * g.height → l < g.layers →
      get_or (becomes (cell_at g c)) l Bare ≡ after l (slot_at g c l)
  slot_becomes c l low below =
      let deep : l < length (cell_at g c) = rw (slots c low) below in
      let plain : 0 + l ≡ l = omega arith in
      get_or-written_from (write_in_room table write) 0 (cell_at g c) l deep
      ∙ ap (λ (n : ℕ). after n (slot_at g c l)) plain

  wanted_at : (c : ℕ) → c < g.width * g.height →
      cell_at (rewritten_where g becomes chosen).grid c ≡ cell_where g becomes chosen c
  wanted_at c low = cell_at-where g becomes chosen c (rw long low)

  wanted_slots : (c : ℕ) → c < g.width * g.height →
      length (cell_at (rewritten_where g becomes chosen).grid c) ≡ g.layers
  wanted_slots c low = ap length (wanted_at c low) ∙ elim (cases_Bool (chosen c)) [
    | inl sure ↦ rw sure (length-written_from (write_in_room table write) 0 (cell_at g c) ∙ slots c low)
    | inr never ↦ rw never (slots c low)
  ]

  cells_written : AreSlotsWritten g next chosen (λ l. true) after →
      next.cells ≡ (rewritten_where g becomes chosen).grid.cells
  cells_written so =
      cells_by_slots next.cells (rewritten_where g becomes chosen).grid.cells (g.width * g.height) g.layers next_long
      (length-where g becomes chosen ∙ long) next_slots wanted_slots
      (λ c l low below. so c l low below ∙ elim (cases_Bool (chosen c)) [
        | inl sure ↦
            ap (λ (b : Bool). slot_when (b && true) (after l (slot_at g c l)) (slot_at g c l)) sure
            ∙ sym (slot_becomes c l low below)
            ∙ sym (ap (λ (cell : List Slot). get_or cell l Bare) (wanted_at c low ∙ rw sure refl))
        | inr never ↦
            ap (λ (b : Bool). slot_when (b && true) (after l (slot_at g c l)) (slot_at g c l)) never
            ∙ sym (ap (λ (cell : List Slot). get_or cell l Bare) (wanted_at c low ∙ rw never refl))
      ])

  change_none : AreSlotsLeft g chosen (λ l. true) after → (c : ℕ) → c < g.width * g.height →
      changes_where g becomes chosen c ≡ false
  change_none left c low = elim (cases_Bool (chosen c)) [
    | inl sure ↦
        rw sure (ap not (cell_left (write_in_room table write) 0 (cell_at g c)
        (λ i deep. let below : i < g.layers = rw (← slots c low) deep in
        let plain : 0 + i ≡ i = omega arith in
        ap (λ (n : ℕ). same_slot (slot_at g c i) (after n (slot_at g c i))) plain ∙ left c i low below sure refl)))
    | inr never ↦ rw never refl
  ]

  left_none_changes : list_any (changes_where g becomes chosen) (range_with_len 0 (length g.cells)) ≡ false →
      AreSlotsLeft g chosen (λ l. true) after
  left_none_changes none = λ c l low below sure on.
      let inside : c < 0 + length g.cells = omega (arith, long, low) in
      let stays : (chosen c && not (same_cell (cell_at g c) (becomes (cell_at g c)))) ≡ false =
      none_of (changes_where g becomes chosen) 0 (length g.cells) c (omega arith) inside none in
      let same : same_cell (cell_at g c) (becomes (cell_at g c)) ≡ true =
      not-false (same_cell (cell_at g c) (becomes (cell_at g c)))
      (ap (λ (b : Bool). b && not (same_cell (cell_at g c) (becomes (cell_at g c)))) (sym sure) ∙ stays) in
      let deep : l < length (cell_at g c) = rw (slots c low) below in
      let plain : 0 + l ≡ l = omega arith in
      ap (λ (n : ℕ). same_slot (slot_at g c l) (after n (slot_at g c l))) (sym plain)
      ∙ slot_left (write_in_room table write) 0 (cell_at g c) l deep same

  changed_exactly : (changed : Bool) → (changed ≡ false → AreSlotsLeft g chosen (λ l. true) after) →
      (AreSlotsLeft g chosen (λ l. true) after → changed ≡ false) →
      changed ≡ (rewritten_where g becomes chosen).changed
  unfolding rewritten_where
  changed_exactly changed quiet left = elim (cases_Bool changed) [
    | inl told ↦ elim (cases_Bool (list_any (changes_where g becomes chosen) (range_with_len 0 (length g.cells)))) [
      | inl some ↦ told ∙ sym some
      | inr none ↦ absurd (false≢true (sym (left (left_none_changes none)) ∙ told))
    ]
    | inr silent ↦ silent ∙ sym (any_none (changes_where g becomes chosen) 0 (length g.cells) (λ c low high.
        change_none (quiet silent) c (rw (← long) (omega arith))))
  ]

  pub row_rewritten : (changed : Bool) → next.width ≡ g.width → next.height ≡ g.height → next.layers ≡ g.layers →
      AreSlotsWritten g next chosen (λ l. true) after →
      (changed ≡ false → AreSlotsLeft g chosen (λ l. true) after) →
      (AreSlotsLeft g chosen (λ l. true) after → changed ≡ false) →
      record { grid = next; changed = changed } ≡ rewritten_where g becomes chosen
  unfolding rewritten_where
  row_rewritten changed wide high deep so quiet left =
      let sides : next ≡ record g { cells = next.cells } = rw (← wide, ← high, ← deep) refl in
      ap (λ (k : Grid). let r : Rewritten = record { grid = k; changed = changed } in r) sides
      ∙ ap₂ (rewritten_of g) (cells_written so) (changed_exactly changed quiet left)

-- sets of columns -----------------------------------------------------------------------------------------------------

module _ (width : ℕ) (all columns : List Bool) (narrow : width ≤ SIDE_LIMIT) (is : all ≡ columns_below width) where
  pub set_within : (x : ℕ) → width ≤ x → x < SIDE_LIMIT → column_at (both_columns columns all) x ≡ false
  set_within x far low =
      both_at columns all x low ∙ ap (λ (b : Bool). column_at columns x && b) (wide_of all width is x low
      ∙ le-ltb x width far) ∙ and-false (column_at columns x)

  set_column : (x : ℕ) → x < width → column_at (both_columns columns all) x ≡ column_at columns x
  set_column x near =
      both_at columns all x (omega (arith, near, narrow))
      ∙ ap (λ (b : Bool). column_at columns x && b) (wide_on all width narrow is x near)
      ∙ and-true (column_at columns x)

  pub set_rewritten : (g : Grid) (becomes : List Slot → List Slot) (row : ℕ) → g.width ≡ width → row < g.height →
      length g.cells ≡ g.width * g.height →
      rewritten_where g becomes (in_columns g.height row (both_columns columns all)) ≡ rewritten_where g becomes
      (is_on_row g.height row columns)
  set_rewritten g becomes row same under long =
      where-agree g becomes (in_columns g.height row (both_columns columns all)) (is_on_row g.height row columns)
      (λ n low.
      let some : 0 < g.height = omega (arith, under) in
      let inside : n < g.width * g.height = rw (← long) low in
      let near : n / g.height < width = rw (← same) (div_below n g.height g.width some inside) in
      ap (λ (b : Bool). nat_eq (n % g.height) row && b) (set_column (n / g.height) near))

  pub set_empty : (g : Grid) (becomes : List Slot → List Slot) (row : ℕ) → g.width ≡ width → row < g.height →
      length g.cells ≡ g.width * g.height →
      set_columns (both_columns columns all) ≡ [] →
      record { grid = g; changed = false } ≡ rewritten_where g becomes (is_on_row g.height row columns)
  set_empty g becomes row same under long none =
      sym (where-none g becomes (in_columns g.height row (both_columns columns all))
      (λ n low.
      let some : 0 < g.height = omega (arith, under) in
      let inside : n < g.width * g.height = rw (← long) low in
      let near : n / g.height < width = rw (← same) (div_below n g.height g.width some inside) in
      ap (λ (b : Bool). nat_eq (n % g.height) row && b)
      (none_in (both_columns columns all) (n / g.height) none (omega (arith, near, narrow)))
      ∙ and-false (nat_eq (n % g.height) row)))
      ∙ set_rewritten g becomes row same under long
