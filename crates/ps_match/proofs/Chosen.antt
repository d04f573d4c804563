-- Cells of a grid that are rewritten together, in several steps.
use Rattle.std.proofs.Common.{◌≡◌, ◌≢◌, ◌∙◌, ℕ, zero, suc, ◌+◌, ◌<◌, ◌≤◌, ◌||◌, ◌&&◌, inl, inr, Bool, true, false, not}
use Rattle.std.proofs.Common.{List, [], ◌∷◌, length, map, get_or, refl, sym, ap, ap₂, arith}
use Rattle.std.specs.Prelude.{nat_eq, slice_set}
use Rattle.std.specs.List.{list_any, range_with_len}
use Rattle.std.proofs.lemmas.Bool.{cases_Bool, cases_eq, eq-eqb, ne_eqb}
use Rattle.std.proofs.lemmas.List.{same_lists, get_or-set_same, get_or-set_other, length-set}
use Rattle.std.proofs.lemmas.List.FromFn.{length-map-range_with_len, get_or-map-range_with_len}
use Rattle.std.proofs.Math.Bool.{or-false}
use Rattle.ps_model.specs.declared.pieces.Slot.{Slot}
use Rattle.ps_model.specs.board.Grid.{Grid, cell_at}
use Rattle.ps_model.specs.board.Attempts.{Rewritten, same_cell}
use Rattle.ps_laws.proofs.common.Truths.{or_across}
use Rattle.ps_match.specs.Together.{cell_where, changes_where, rewritten_where}

-- tests over ranges ---------------------------------------------------------------------------------------------------

pub any_agree : (p q : ℕ → Bool) (a n : ℕ) → ((k : ℕ) → a ≤ k → k < a + n → p k ≡ q k) →
    list_any p (range_with_len a n) ≡ list_any q (range_with_len a n)
any_agree p q a zero same = refl
any_agree p q a (suc n) same =
    ap₂ (λ (b others : Bool). b || others) (same a (omega arith) (omega arith))
    (any_agree p q (a + 1) n (λ k low high. same k (omega arith) (omega arith)))

any_either : (p q r : ℕ → Bool) (a n : ℕ) → ((k : ℕ) → a ≤ k → k < a + n → r k ≡ (p k || q k)) →
    list_any r (range_with_len a n) ≡ (list_any p (range_with_len a n) || list_any q (range_with_len a n))
any_either p q r a zero e = refl
any_either p q r a (suc n) e =
    ap₂ (λ (b others : Bool). b || others) (e a (omega arith) (omega arith))
    (any_either p q r (a + 1) n (λ k low high. e k (omega arith) (omega arith)))
    ∙ or_across (p a) (q a) (list_any p (range_with_len (a + 1) n)) (list_any q (range_with_len (a + 1) n))

pub any_none : (p : ℕ → Bool) (a n : ℕ) → ((k : ℕ) → a ≤ k → k < a + n → p k ≡ false) →
    list_any p (range_with_len a n) ≡ false
any_none p a zero e = refl
any_none p a (suc n) e = ap₂ (λ (b others : Bool).
    b || others) (e a (omega arith) (omega arith))
    (any_none p (a + 1) n (λ k low high. e k (omega arith) (omega arith)))

pub any_one : (t : ℕ → Bool) (cell a n : ℕ) → a ≤ cell → cell < a + n →
    list_any (λ k. nat_eq k cell && t k) (range_with_len a n) ≡ t cell
any_one t cell a zero low high = absurd (omega arith)
any_one t cell a (suc n) low high = elim (cases_eq a cell) [
  | inl e ↦
      ap₂ (λ (b others : Bool). b || others) (ap (λ (b : Bool). b && t a) (eq-eqb a cell e))
      (any_none (λ k. nat_eq k cell && t k) (a + 1) n (λ k above below. let other : k ≢ cell = omega arith in
      ap (λ (b : Bool). b && t k) (ne_eqb k cell other)))
      ∙ or-false (t a) ∙ ap t e
  | inr other ↦
      ap (λ (b : Bool). (b && t a) || list_any (λ k. nat_eq k cell && t k) (range_with_len (a + 1) n))
      (ne_eqb a cell other)
      ∙ any_one t cell (a + 1) n (omega arith) (omega arith)
]

map_agree : {X : Type 0} (f h : ℕ → X) (a n : ℕ) → ((k : ℕ) → a ≤ k → k < a + n → f k ≡ h k) →
    map f (range_with_len a n) ≡ map h (range_with_len a n)
map_agree f h a zero same = refl
map_agree f h a (suc n) same =
    ap₂ (λ (x : _) (xs : List _). x ∷ xs) (same a (omega arith) (omega arith))
    (map_agree f h (a + 1) n (λ k low high. same k (omega arith) (omega arith)))

-- a list read from its first place on, and with one place changed
list_again : {X : Type 0} (xs : List X) (d : X) → map (λ n. get_or xs n d) (range_with_len 0 (length xs)) ≡ xs
list_again xs d =
    same_lists (map (λ n. get_or xs n d) (range_with_len 0 (length xs))) xs
    (length-map-range_with_len (λ n. get_or xs n d) 0 (length xs))
    (λ k e h.
    let low : k < length xs = rw (← length-map-range_with_len (λ n. get_or xs n d) 0 (length xs)) h in
    get_or-map-range_with_len (λ n. get_or xs n d) 0 (length xs) k k e low (omega arith)
    ∙ at_default xs k d e low) where
      at_default : {X : Type 0} (xs : List X) (k : ℕ) (d e : X) → k < length xs → get_or xs k d ≡ get_or xs k e
      at_default [] k d e low = absurd (omega arith)
      at_default (x ∷ xs) zero d e low = refl
      at_default (x ∷ xs) (suc k) d e low = at_default xs k d e (omega arith)

-- cells ---------------------------------------------------------------------------------------------------------------

abbrev pub rewritten_of : Grid → List (List Slot) → Bool → Rewritten
rewritten_of g cells changed = record { grid = record g { cells = cells }; changed = changed }

module _ (g : Grid) (becomes : List Slot → List Slot) where
  pub cell_at-where : (chosen : ℕ → Bool) (n : ℕ) → n < length g.cells →
      cell_at (rewritten_where g becomes chosen).grid n ≡ cell_where g becomes chosen n
  unfolding rewritten_where
  cell_at-where chosen n low = get_or-map-range_with_len (cell_where g becomes chosen) 0 (length g.cells) n n [] low
      (omega arith)

  pub length-where : (chosen : ℕ → Bool) → length (rewritten_where g becomes chosen).grid.cells ≡ length g.cells
  unfolding rewritten_where
  length-where chosen = length-map-range_with_len (cell_where g becomes chosen) 0 (length g.cells)

  -- the same cells are chosen
  pub where-agree : (first second : ℕ → Bool) → ((n : ℕ) → n < length g.cells → first n ≡ second n) →
      rewritten_where g becomes first ≡ rewritten_where g becomes second
  unfolding rewritten_where
  where-agree first second same =
      ap₂ (rewritten_of g)
      (map_agree (cell_where g becomes first) (cell_where g becomes second) 0 (length g.cells) (λ n low high.
      rw (same n (omega arith)) refl))
      (any_agree (changes_where g becomes first) (changes_where g becomes second) 0 (length g.cells) (λ n low high.
      rw (same n (omega arith)) refl))

  -- no cell is chosen
  pub where-none : (chosen : ℕ → Bool) → ((n : ℕ) → n < length g.cells → chosen n ≡ false) →
      rewritten_where g becomes chosen ≡ record { grid = g; changed = false }
  unfolding rewritten_where
  where-none chosen none =
      ap₂ (rewritten_of g)
      (map_agree (cell_where g becomes chosen) (cell_at g) 0 (length g.cells) (λ n low high.
      rw (none n (omega arith)) refl) ∙ list_again g.cells [])
      (any_none (changes_where g becomes chosen) 0 (length g.cells) (λ n low high. rw (none n (omega arith)) refl))

  -- one cell is chosen
  pub where-one : (cell : ℕ) → cell < length g.cells →
      rewritten_where g becomes (λ n. nat_eq n cell)
      ≡ rewritten_of g (slice_set g.cells cell (becomes (cell_at g cell)))
      (not (same_cell (cell_at g cell) (becomes (cell_at g cell))))
  unfolding rewritten_where
  where-one cell low =
      let made = cell_where g becomes (λ n. nat_eq n cell) in
      let wanted = slice_set g.cells cell (becomes (cell_at g cell)) in
      ap₂ (rewritten_of g)
      (same_lists (map made (range_with_len 0 (length g.cells))) wanted
      (length-map-range_with_len made 0 (length g.cells) ∙ sym (length-set g.cells cell (becomes (cell_at g cell))))
      (λ k d h.
      let below : k < length g.cells = rw (← length-map-range_with_len made 0 (length g.cells)) h in
      get_or-map-range_with_len made 0 (length g.cells) k k d below (omega arith) ∙ elim (cases_eq k cell) [
        | inl e ↦ rw (e, eq-eqb cell cell refl) (sym (get_or-set_same g.cells cell (becomes (cell_at g cell)) d low))
        | inr other ↦ rw (ne_eqb k cell other) (at_any g.cells k [] d below
            ∙ sym (get_or-set_other g.cells cell k (becomes (cell_at g cell)) d other))
      ]))
      (any_one (λ n. not (same_cell (cell_at g n) (becomes (cell_at g n)))) cell 0 (length g.cells) (omega arith)
      (omega arith)) where
        at_any : {X : Type 0} (xs : List X) (k : ℕ) (d e : X) → k < length xs → get_or xs k d ≡ get_or xs k e
        at_any [] k d e low = absurd (omega arith)
        at_any (x ∷ xs) zero d e low = refl
        at_any (x ∷ xs) (suc k) d e low = at_any xs k d e (omega arith)

-- more cells are chosen, each of which was left before
more_cell : (g h : Grid) (becomes : List Slot → List Slot) (first second both : ℕ → Bool) (n : ℕ) →
    cell_at h n ≡ cell_where g becomes first n → (second n ≡ true → first n ≡ false) →
    both n ≡ (first n || second n) → cell_where h becomes second n ≡ cell_where g becomes both n
more_cell g h becomes first second both n at apart e = elim (cases_Bool (second n)) [
  | inl now ↦
      let no : first n ≡ false = apart now in
      let all : both n ≡ true = e ∙ rw (no, now) refl in
      let here : cell_at h n ≡ cell_at g n = at ∙ rw no refl in
      rw (now, all, here) refl
  | inr not_now ↦
      let all : both n ≡ first n = e ∙ rw not_now (or-false (first n)) in
      rw (not_now, all) at
]

more_change : (g h : Grid) (becomes : List Slot → List Slot) (first second both : ℕ → Bool) (n : ℕ) →
    cell_at h n ≡ cell_where g becomes first n → (second n ≡ true → first n ≡ false) →
    both n ≡ (first n || second n) → changes_where g becomes both n ≡
    (changes_where g becomes first n || changes_where h becomes second n)
more_change g h becomes first second both n at apart e = elim (cases_Bool (second n)) [
  | inl now ↦
      let no : first n ≡ false = apart now in
      let all : both n ≡ true = e ∙ rw (no, now) refl in
      let here : cell_at h n ≡ cell_at g n = at ∙ rw no refl in
      rw (now, no, all, here) refl
  | inr not_now ↦
      let all : both n ≡ first n = e ∙ rw not_now (or-false (first n)) in
      rw (not_now, all) (sym (or-false (changes_where g becomes first n)))
]

more_cells : (g h : Grid) (becomes : List Slot → List Slot) (first second both : ℕ → Bool) →
    length h.cells ≡ length g.cells →
    ((n : ℕ) → n < length g.cells → cell_at h n ≡ cell_where g becomes first n) →
    ((n : ℕ) → n < length g.cells → second n ≡ true → first n ≡ false) →
    ((n : ℕ) → n < length g.cells → both n ≡ (first n || second n)) →
    rewritten_of g (map (cell_where h becomes second) (range_with_len 0 (length h.cells)))
    (list_any (changes_where g becomes first) (range_with_len 0 (length g.cells)) || list_any
    (changes_where h becomes second) (range_with_len 0 (length h.cells)))
    ≡ rewritten_where g becomes both
unfolding rewritten_where
more_cells g h becomes first second both long at apart e =
    ap₂ (rewritten_of g)
    (ap (λ (count : ℕ). map (cell_where h becomes second) (range_with_len 0 count)) long
    ∙ map_agree (cell_where h becomes second) (cell_where g becomes both) 0 (length g.cells)
    (λ n low high. more_cell g h becomes first second both n (at n (omega arith)) (apart n (omega arith))
    (e n (omega arith))))
    (ap (λ (count : ℕ). list_any (changes_where g becomes first) (range_with_len 0 (length g.cells)) || list_any
    (changes_where h becomes second) (range_with_len 0 count)) long
    ∙ sym (any_either (changes_where g becomes first) (changes_where h becomes second) (changes_where g becomes both) 0
    (length g.cells)
    (λ n low high. more_change g h becomes first second both n (at n (omega arith)) (apart n (omega arith))
    (e n (omega arith)))))

-- what is written in two steps
abbrev pub where_then : Grid → (List Slot → List Slot) → (ℕ → Bool) → (ℕ → Bool) → Rewritten
where_then g becomes first second =
    let before : Rewritten = rewritten_where g becomes first in
    let after : Rewritten = rewritten_where before.grid becomes second in
    record { grid = after.grid; changed = before.changed || after.changed }

pub where-more : (g : Grid) (becomes : List Slot → List Slot) (first second both : ℕ → Bool) →
    ((n : ℕ) → n < length g.cells → second n ≡ true → first n ≡ false) →
    ((n : ℕ) → n < length g.cells → both n ≡ (first n || second n)) →
    where_then g becomes first second ≡ rewritten_where g becomes both
unfolding rewritten_where
where-more g becomes first second both apart e =
    more_cells g (rewritten_where g becomes first).grid becomes first second both (length-where g becomes first)
    (cell_at-where g becomes first) apart e

-- one cell, if it is wanted
pub if-left : (g : Grid) (becomes : List Slot → List Slot) (wanted : Bool) (cell : ℕ) → wanted ≡ false →
    rewritten_where g becomes (λ n. wanted && nat_eq n cell) ≡ record { grid = g; changed = false }
if-left g becomes wanted cell off = where-none g becomes (λ n. wanted && nat_eq n cell) (λ n low. rw off refl)

pub if-written : (g : Grid) (becomes : List Slot → List Slot) (wanted : Bool) (cell : ℕ) → wanted ≡ true →
    cell < length g.cells →
    rewritten_where g becomes (λ n. wanted && nat_eq n cell)
    ≡ rewritten_of g (slice_set g.cells cell (becomes (cell_at g cell)))
    (not (same_cell (cell_at g cell) (becomes (cell_at g cell))))
if-written g becomes wanted cell on low =
    where-agree g becomes (λ n. wanted && nat_eq n cell) (λ n. nat_eq n cell) (λ n below. rw on refl)
    ∙ where-one g becomes cell low
