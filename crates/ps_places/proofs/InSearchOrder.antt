-- What is done from each cell of a grid, in the order in which cells are searched: if one more cell comes to one more
-- that is done, all cells come to all.
use Rattle.std.proofs.Common.{◌≡◌, ◌≢◌, ◌∙◌, ℕ, zero, suc, ◌+◌, ◌*◌, ◌/◌, ◌%◌, ◌<◌, ◌≤◌, ◌||◌, ◌&&◌, inl, inr, Bool}
use Rattle.std.proofs.Common.{true, false}
use Rattle.std.proofs.Common.{List, [], ◌∷◌, ◌++◌, length, map, fold, refl, sym, ap, arith}
use Rattle.std.specs.Prelude.{nat_eq, nat_lt}
use Rattle.std.specs.List.{flat_map, range_with_len}
use Rattle.std.proofs.Math.Bool.{and-false, or-false, and-true, or-true}
use Rattle.std.proofs.lemmas.Bool.{cases_eq, eq-eqb, ne_eqb, lt-ltb, le-ltb}
use Rattle.std.proofs.lemmas.Grind.{flat_map-append, fold-append}
use Rattle.std.proofs.lemmas.List.{map-append}
use Rattle.std.proofs.lemmas.Nat.{div-add-mod', div-mul-add, mod-mul-add, div_below, mod_below}
use Rattle.ps_model.specs.declared.pieces.Direction.{Direction}
use Rattle.ps_model.specs.declared.pieces.Direction.TheVariants.{Up, Down, Left, Right}
use Rattle.ps_model.specs.board.Grid.{Grid}
use Rattle.ps_model.specs.board.Places.{column_by_column, row_by_row, search_order}
use Rattle.ps_model.specs.board.Attempts.{Rewritten}
use Rattle.ps_board.proofs.PassedColumns.{cell_below}
use Rattle.ps_match.proofs.RowWritten.{cell_known, lt_next}

-- a combination of one place
abbrev pub alone : List ℕ → List (List ℕ)
alone place = place ∷ []

-- a cell more is done
abbrev pub IsOneMore : Grid → (ℕ → Bool) → (ℕ → Bool) → ℕ → Type 0
IsOneMore g done more n = (k : ℕ) → k < length g.cells → more k ≡ (done k || nat_eq k n)

module _ (g : Grid) (from : ℕ → List (List ℕ)) (act : Rewritten → List (List ℕ) → Rewritten) (after : (ℕ → Bool) →
    Rewritten)
    (agree : (first second : ℕ → Bool) → ((k : ℕ) → k < length g.cells → first k ≡ second k) →
    after first ≡ after second)
    (one : (done more : ℕ → Bool) (n : ℕ) → n < length g.cells → done n ≡ false → IsOneMore g done more n →
    fold act (after done) (map alone (from n)) ≡ after more)
    (some : 0 < g.height) (many : length g.cells ≡ g.width * g.height) where
  -- all combinations of the places from these cells
  abbrev walk : Rewritten → List ℕ → Rewritten
  walk r ns = fold act r (map alone (flat_map from ns))

  walk-append : (r : Rewritten) (ns others : List ℕ) → walk r (ns ++ others) ≡ walk (walk r ns) others
  walk-append r ns others =
      ap (λ (ps : List (List ℕ)). fold act r (map alone ps)) (flat_map-append from ns others)
      ∙ ap (fold act r) (map-append alone (flat_map from ns) (flat_map from others))
      ∙ fold-append act r (map alone (flat_map from ns)) (map alone (flat_map from others))

  one_step : (done more : ℕ → Bool) (n : ℕ) (others : List ℕ) → n < g.width * g.height → done n ≡ false →
      IsOneMore g done more n →
      walk (after done) (n ∷ others) ≡ walk (after more) others
  one_step done more n others low free e =
      walk-append (after done) (n ∷ []) others
      ∙ ap (λ (r : Rewritten). walk r others)
      (ap (λ (ps : List (List ℕ)). fold act (after done) (map alone ps)) (no_more (from n))
      ∙ one done more n (rw many low) free e) where
        no_more : (ps : List (List ℕ)) → ps ++ [] ≡ ps
        no_more [] = refl
        no_more (p ∷ ps) = ap (λ (rest : List (List ℕ)). p ∷ rest) (no_more ps)

  -- column by column
  below_next : (a k : ℕ) → nat_lt k (a + 1) ≡ (nat_lt k a || nat_eq k a)
  below_next a k = elim (cases_eq k a) [
    | inl e ↦
        let low : k < a + 1 = omega arith in
        let high : a ≤ k = omega arith in
        rw (lt-ltb k (a + 1) low, le-ltb k a high, eq-eqb k a e) refl
    | inr other ↦ lt_next k a other ∙ sym (ap (λ (b : Bool). nat_lt k a || b) (ne_eqb k a other)
        ∙ or-false (nat_lt k a))
  ]

  numbers_walked : (a n : ℕ) → a + n ≤ g.width * g.height → walk (after (λ k. nat_lt k a)) (range_with_len a n)
      ≡ after (λ k. nat_lt k (a + n))
  numbers_walked a zero within = let e : a + 0 ≡ a = omega arith in rw e refl
  numbers_walked a (suc n) within =
      let e : a + suc n ≡ a + 1 + n = omega arith in
      let high : a ≤ a = omega arith in
      one_step (λ k. nat_lt k a) (λ k. nat_lt k (a + 1)) a (range_with_len (a + 1) n) (omega arith) (le-ltb a a high)
      (λ k low. below_next a k)
      ∙ numbers_walked (a + 1) n (omega arith) ∙ ap (λ (count : ℕ). after (λ k. nat_lt k count)) (sym e)

  -- row by row: the rows above, and of this one the columns to the left
  abbrev above : ℕ → ℕ → ℕ → Bool
  above row x k = nat_lt (k % g.height) row || (nat_eq (k % g.height) row && nat_lt (k / g.height) x)

  above_next : (row x k : ℕ) → row < g.height → above row (x + 1) k ≡ (above row x k || nat_eq k (x * g.height + row))
  above_next row x k under =
      let cell : ℕ = x * g.height + row in
      let quotient : cell / g.height ≡ x = div-mul-add x g.height row under in
      let remainder : cell % g.height ≡ row = mod-mul-add x g.height row under in
      let low : x < x + 1 = omega arith in
      let high : row ≤ row = omega arith in
      elim (cases_eq k cell) [
        | inl e ↦ rw (
          e,
          quotient,
          remainder,
          le-ltb row row high,
          eq-eqb row row refl,
          lt-ltb x (x + 1) low,
          eq-eqb
              cell cell refl,
        ) (sym (or-true (nat_lt x x)))
        | inr other ↦ same_above row x k cell quotient remainder other
            ∙ sym (ap (λ (b : Bool). above row x k || b) (ne_eqb k cell other) ∙ or-false (above row x k))
      ] where
        same_above : (row x k cell : ℕ) → cell / g.height ≡ x → cell % g.height ≡ row → k ≢ cell →
            above row (x + 1) k ≡ above row x k
        same_above row x k cell quotient remainder other = elim (cases_eq (k / g.height) x) [
          | inl q ↦
              let apart : k % g.height ≢ row = λ r.
              other (cell_known g.height k cell (r ∙ sym remainder) (q ∙ sym quotient)) in
              rw (ne_eqb (k % g.height) row apart) refl
          | inr q ↦ ap (λ (b : Bool). nat_lt (k % g.height) row || (nat_eq (k % g.height) row && b))
              (lt_next (k / g.height) x q)
        ]

  row_walked : (row a n : ℕ) → row < g.height → a + n ≤ g.width →
      walk (after (above row a)) (map (λ x. x * g.height + row) (range_with_len a n)) ≡ after (above row (a + n))
  row_walked row a zero under within = let e : a + 0 ≡ a = omega arith in rw e refl
  row_walked row a (suc n) under within =
      let e : a + suc n ≡ a + 1 + n = omega arith in
      let cell : ℕ = a * g.height + row in
      let quotient : cell / g.height ≡ a = div-mul-add a g.height row under in
      let remainder : cell % g.height ≡ row = mod-mul-add a g.height row under in
      let free : above row a cell ≡ false =
      let here : row ≤ row = omega arith in
      let there : a ≤ a = omega arith in
      rw (quotient, remainder, le-ltb row row here, le-ltb a a there, eq-eqb row row refl) refl in
      one_step (above row a) (above row (a + 1)) cell (map (λ x. x * g.height + row) (range_with_len (a + 1) n))
      (cell_below g.width g.height a row (omega arith) under) free
      (λ k low. above_next row a k under)
      ∙ row_walked row (a + 1) n under (omega arith) ∙ ap (λ (count : ℕ). after (above row count)) (sym e)

  or_later : (a b : Bool) → ((a || b) || false) ≡ (a || b)
  or_later a b = or-false (a || b)

  next_row : (row : ℕ) → after (above row g.width) ≡ after (above (row + 1) 0)
  next_row row =
      agree (above row g.width) (above (row + 1) 0)
      (λ k low.
      let column : k / g.height < g.width = div_below k g.height g.width some (rw (← many) low) in
      let high : 0 ≤ k / g.height = omega arith in
      ap (λ (b : Bool). nat_lt (k % g.height) row || (nat_eq (k % g.height) row && b))
      (lt-ltb (k / g.height) g.width column)
      ∙ ap (λ (b : Bool). nat_lt (k % g.height) row || b) (and-true (nat_eq (k % g.height) row))
      ∙ sym (below_next row (k % g.height))
      ∙ sym (ap (λ (b : Bool). nat_lt (k % g.height) (row + 1) || (nat_eq (k % g.height) (row + 1) && b))
      (le-ltb (k / g.height) 0 high)
      ∙ ap (λ (b : Bool). nat_lt (k % g.height) (row + 1) || b) (and-false (nat_eq (k % g.height) (row + 1)))
      ∙ or-false (nat_lt (k % g.height) (row + 1))))

  abbrev cells_of_row : ℕ → List ℕ
  cells_of_row row = map (λ column. column * g.height + row) (range_with_len 0 g.width)

  rows_walked : (a n : ℕ) → a + n ≤ g.height → walk (after (above a 0)) (flat_map cells_of_row (range_with_len a n))
      ≡ after (above (a + n) 0)
  rows_walked a zero within = let e : a + 0 ≡ a = omega arith in rw e refl
  rows_walked a (suc n) within =
      let e : a + suc n ≡ a + 1 + n = omega arith in
      let wide : 0 + g.width ≡ g.width = omega arith in
      walk-append (after (above a 0)) (cells_of_row a) (flat_map cells_of_row (range_with_len (a + 1) n))
      ∙ ap (λ (r : Rewritten). walk r (flat_map cells_of_row (range_with_len (a + 1) n)))
      (row_walked a 0 g.width (omega arith) (omega arith) ∙ ap (λ (count : ℕ). after (above a count)) wide ∙ next_row a)
      ∙ rows_walked (a + 1) n (omega arith) ∙ ap (λ (count : ℕ). after (above count 0)) (sym e)

  -- all cells
  by_columns : walk (after (λ k. false)) (column_by_column g) ≡ after (λ k. true)
  by_columns =
      let none : 0 + g.width * g.height ≡ g.width * g.height = omega arith in
      ap (λ (r : Rewritten). walk r (column_by_column g))
      (agree (λ k. false) (λ k. nat_lt k 0) (λ k low. let high : 0 ≤ k = omega arith in sym (le-ltb k 0 high)))
      ∙ numbers_walked 0 (g.width * g.height) (omega arith)
      ∙ agree (λ k. nat_lt k (0 + g.width * g.height)) (λ k. true)
      (λ k low. let below : k < 0 + g.width * g.height = rw (none, ← many) low in
      lt-ltb k (0 + g.width * g.height) below)

  by_rows : walk (after (λ k. false)) (row_by_row g) ≡ after (λ k. true)
  by_rows =
      ap (λ (r : Rewritten). walk r (row_by_row g))
      (agree (λ k. false) (above 0 0) (λ k low.
      let top : 0 ≤ k % g.height = omega arith in
      let left : 0 ≤ k / g.height = omega arith in
      sym (rw (le-ltb (k % g.height) 0 top, le-ltb (k / g.height) 0 left) (and-false (nat_eq (k % g.height) 0)))))
      ∙ rows_walked 0 g.height (omega arith)
      ∙ agree (above (0 + g.height) 0) (λ k. true) (λ k low.
      let under : k % g.height < 0 + g.height = let row : k % g.height < g.height = mod_below k g.height some in
      omega arith in
      ap (λ (b : Bool). b || (nat_eq (k % g.height) (0 + g.height) && nat_lt (k / g.height) 0))
      (lt-ltb (k % g.height) (0 + g.height) under))

  -- all combinations of the places from all cells
  pub in_order : (d : Direction) → fold act (after (λ k. false)) (map alone (flat_map from (search_order g d)))
      ≡ after (λ k. true)
  in_order Up = by_columns
  in_order Down = by_columns
  in_order Left = by_rows
  in_order Right = by_rows

-- whether there is one ------------------------------------------------------------------------------------------------

-- a list of lists that are all empty
none_of_range : (f : ℕ → List (List ℕ)) (a n k : ℕ) → flat_map f (range_with_len a n) ≡ [] → a ≤ k → k < a + n →
    f k ≡ []
none_of_range f a zero k none low high = absurd (omega arith)
none_of_range f a (suc n) k none low high = elim (cases_eq k a) [
  | inl e ↦ ap f e ∙ front_empty (f a) (flat_map f (range_with_len (a + 1) n)) none
  | inr other ↦ none_of_range f (a + 1) n k (end_empty (f a) (flat_map f (range_with_len (a + 1) n)) none)
      (omega (arith, low, other)) (omega (arith, high))
] where
  front_empty : (xs ys : List (List ℕ)) → xs ++ ys ≡ [] → xs ≡ []
  front_empty [] ys e = refl
  front_empty (x ∷ xs) ys e = absurd (cc)

  end_empty : (xs ys : List (List ℕ)) → xs ++ ys ≡ [] → ys ≡ []
  end_empty [] ys e = e
  end_empty (x ∷ xs) ys e = absurd (cc)

over_twice : (f : ℕ → List (List ℕ)) (h : ℕ → List ℕ) (xs : List ℕ) → flat_map f (flat_map h xs)
    ≡ flat_map (λ x. flat_map f (h x)) xs
over_twice f h [] = refl
over_twice f h (x ∷ xs) = flat_map-append f (h x) (flat_map h xs) ∙ ap (λ (ys : List (List ℕ)). flat_map f (h x) ++ ys)
    (over_twice f h xs)

over_mapped : (f : ℕ → List (List ℕ)) (h : ℕ → ℕ) (xs : List ℕ) → flat_map f (map h xs) ≡ flat_map (λ x. f (h x)) xs
over_mapped f h [] = refl
over_mapped f h (x ∷ xs) = ap (λ (ys : List (List ℕ)). f (h x) ++ ys) (over_mapped f h xs)

searched_across : (g : Grid) (f : ℕ → List (List ℕ)) (n : ℕ) → 0 < g.height → n < g.width * g.height →
    flat_map f (row_by_row g) ≡ [] → f n ≡ []
searched_across g f n some low none =
    let row : ℕ = n % g.height in
    let column : ℕ = n / g.height in
    let under : row < g.height = mod_below n g.height some in
    let across : column < g.width = div_below n g.height g.width some low in
    let cells : ℕ → List ℕ = λ r. map (λ x. x * g.height + r) (range_with_len 0 g.width) in
    let rows : flat_map (λ r. flat_map f (cells r)) (range_with_len 0 g.height) ≡ [] =
    sym (over_twice f cells (range_with_len 0 g.height)) ∙ none in
    let own : flat_map f (cells row) ≡ [] = none_of_range (λ r. flat_map f (cells r)) 0 g.height row rows (omega arith)
    (omega (arith, under)) in
    let there : f (column * g.height + row) ≡ [] =
    none_of_range (λ x. f (x * g.height + row)) 0 g.width column
    (sym (over_mapped f (λ x. x * g.height + row) (range_with_len 0 g.width)) ∙ own) (omega arith)
    (omega (arith, across)) in
    let place : column * g.height + row ≡ n = div-add-mod' n g.height in
    ap f (sym place) ∙ there

-- each cell of the grid is searched
pub searched : (g : Grid) (direction : Direction) (f : ℕ → List (List ℕ)) (n : ℕ) → 0 < g.height →
    n < g.width * g.height → flat_map f (search_order g direction) ≡ [] → f n ≡ []
searched g Up f n some low none = none_of_range f 0 (g.width * g.height) n none (omega arith) (omega (arith, low))
searched g Down f n some low none = none_of_range f 0 (g.width * g.height) n none (omega arith) (omega (arith, low))
searched g Left f n some low none = searched_across g f n some low none
searched g Right f n some low none = searched_across g f n some low none
