-- The first of the cells that pass a test, of a row and of a board.
use Rattle.std.proofs.Common.{◌≡◌, ◌∙◌, ℕ, ◌+◌, ◌*◌, ◌/◌, ◌%◌, ◌<◌, ◌≤◌, ◌&&◌, suc, zero, inl, inr, Bool, true, false}
use Rattle.std.proofs.Common.{cond, List, ◌∷◌, Option, Some, None, mod-lt, refl, sym, ap, ap₂, subst, arith}
use Rattle.std.specs.Prelude.{find, min, nat_lt}
use Rattle.std.specs.List.{range_with_len}
use Rattle.std.proofs.lemmas.Bool.{and_parts, cases_eq, cases_lt, false≢true, ltb-true, lt-ltb}
use Rattle.std.proofs.lemmas.Nat.{div_below, div-add-mod'}
use Rattle.std.proofs.Math.Nat.{mul-le-mul_right}
use Rattle.ps_model.specs.declared.limits.TheConstants.{SIDE_LIMIT}
use Rattle.ps_model.specs.board.Grid.{Grid, cell_count}
use Rattle.ps_board.specs.ColumnSets.{column_at, set_columns}
use Rattle.ps_board.proofs.ColumnLaws.{column_at-where, first_in}
use Rattle.ps_board.proofs.PassedColumns.{cell_below}
use Rattle.ps_board.proofs.Taken.{first_least}
use Rattle.ps_turn.specs.FirstCells.{IsFirstOfRow, IsNoLater, PassesIfFound, earlier}
use Rattle.ps_turn.specs.RowsOfCells.{columns_within}

-- of a row ------------------------------------------------------------------------------------------------------------

-- a column of a set is within the width, and passes
of_set : (width x : ℕ) (f : ℕ → Bool) → x < SIDE_LIMIT → column_at (columns_within width f) x ≡ true →
    (x < width) × (f x ≡ true)
of_set width x f low has =
    let parts = and_parts (nat_lt x width) (f x) (sym (column_at-where (λ y. nat_lt y width && f y) x low) ∙ has) in
    (ltb-true x width parts.0, parts.1)

-- one that is within the width and passes is in the set
in_set : (width x : ℕ) (f : ℕ → Bool) → width ≤ SIDE_LIMIT → x < width → f x ≡ true →
    column_at (columns_within width f) x ≡ true
in_set width x f narrow across is =
    column_at-where (λ y. nat_lt y width && f y) x (omega (arith, narrow, across))
    ∙ ap₂ (λ (a b : Bool). a && b) (lt-ltb x width across) is

-- the leftmost column of a row whose cell passes: its cell passes
pub first_passes : (test : ℕ → Bool) (g : Grid) (row column : ℕ) (columns : List Bool) (rest : List ℕ) →
    row < g.height →
    columns ≡ columns_within g.width (λ x. test (x * g.height + row)) → set_columns columns ≡ column ∷ rest →
    PassesIfFound test g (Some (column * g.height + row))
first_passes test g row column columns rest down made list = λ cell is.
    let own = first_in columns column rest list in
    let at = of_set g.width column (λ x. test (x * g.height + row)) own.1
    (ap (λ (set : List Bool). column_at set column) (sym made) ∙ own.0) in
    let same : column * g.height + row ≡ cell = cc in
    rw (← same) (cell_below g.width g.height column row at.0 down, at.1)

-- and none before it does
pub first_of_row : (test : ℕ → Bool) (g : Grid) (row column : ℕ) (columns : List Bool) (rest : List ℕ) →
    g.width ≤ SIDE_LIMIT →
    columns ≡ columns_within g.width (λ x. test (x * g.height + row)) → set_columns columns ≡ column ∷ rest →
    IsFirstOfRow test g row (Some (column * g.height + row))
first_of_row test g row column columns rest narrow made list = λ x across is. elim (cases_lt x column) [
  | inl before ↦
      absurd (false≢true (sym (first_least columns column x rest list before)
      ∙ ap (λ (set : List Bool). column_at set x) made
      ∙ in_set g.width x (λ y. test (y * g.height + row)) narrow across is))
  | inr from ↦ let steps : column * g.height ≤ x * g.height = mul-le-mul_right g.height from in omega (arith, steps)
]

-- the first of two ----------------------------------------------------------------------------------------------------

pub passes_earlier : (test : ℕ → Bool) (g : Grid) (first second : Option ℕ) → PassesIfFound test g first →
    PassesIfFound test g second → PassesIfFound test g (earlier first second)
passes_earlier test g None second a b = b
passes_earlier test g (Some m) None a b = a
passes_earlier test g (Some m) (Some n) a b = λ cell is.
    let value : min m n ≡ cell = cc in
    elim (cases_lt m n) [
      | inl low ↦ let same : m ≡ cell = omega (arith, value, low) in rw (← same) (a m refl)
      | inr from ↦ let same : n ≡ cell = omega (arith, value, from) in rw (← same) (b n refl)
    ]

pub earlier_first : (first second : Option ℕ) (cell : ℕ) → IsNoLater first cell → IsNoLater (earlier first second) cell
earlier_first None second cell never = absurd never
earlier_first (Some m) None cell low = low
earlier_first (Some m) (Some n) cell low = omega (arith, low)

pub earlier_second : (first second : Option ℕ) (cell : ℕ) → IsNoLater second cell →
    IsNoLater (earlier first second) cell
earlier_second None second cell low = low
earlier_second (Some m) None cell never = absurd never
earlier_second (Some m) (Some n) cell low = omega (arith, low)

-- of a board ----------------------------------------------------------------------------------------------------------

found_from : (test : ℕ → Bool) (a n : ℕ) (found : Option ℕ) (here : Bool) → test a ≡ here →
    ((k : ℕ) → found ≡ Some k → (a ≤ k) × ((k < a + n) × (test k ≡ true))) →
    ((k : ℕ) → a ≤ k → k < a + n → test k ≡ true → IsNoLater found k) → find test (range_with_len a n) ≡ found
found_from test a zero None here e own first = refl
found_from test a zero (Some k) here e own first = let at = own k refl in absurd (omega (arith, at.0, at.1.0))
found_from test a (suc n) None true e own first = absurd (first a (omega arith) (omega arith) e)
found_from test a (suc n) (Some k) true e own first =
    let at = own k refl in
    let low : k ≤ a = first a (omega arith) (omega arith) e in
    let same : a ≡ k = omega (arith, at.0, low) in
    ap (λ (b : Bool). cond b (Some a) (find test (range_with_len (a + 1) n))) e ∙ ap Some same
found_from test a (suc n) found false e own first =
    ap (λ (b : Bool). cond b (Some a) (find test (range_with_len (a + 1) n))) e
    ∙ found_from test (a + 1) n found (test (a + 1)) refl
    (λ k is. let at = own k is in elim (cases_eq k a) [
      | inl same ↦ absurd (false≢true (sym e ∙ ap test (sym same) ∙ at.1.1))
      | inr other ↦ (omega (arith, at.0, other), (omega (arith, at.1.0), at.1.1))
    ])
    (λ k from below passes. first k (omega (arith, from)) (omega (arith, below)) passes)

no_later_than : (test : ℕ → Bool) (g : Grid) (found : Option ℕ) (cell : ℕ) → 0 < g.height →
    ((row : ℕ) → row < g.height → IsFirstOfRow test g row found) →
    cell < cell_count g → test cell ≡ true → IsNoLater found cell
no_later_than test g found cell some rows within is =
    subst (IsNoLater found) (div-add-mod' cell g.height)
    (rows (cell % g.height) (mod-lt cell some) (cell / g.height) (div_below cell g.height g.width some within)
    (ap test (div-add-mod' cell g.height) ∙ is))

-- what comes before the cells of each row that pass, and passes itself, is the first one
pub first_found : (test : ℕ → Bool) (g : Grid) (found : Option ℕ) → 0 < g.height → PassesIfFound test g found →
    ((row : ℕ) → row < g.height → IsFirstOfRow test g row found) →
    found ≡ find test (range_with_len 0 (cell_count g))
first_found test g found some passes rows =
    sym (found_from test 0 (cell_count g) found (test 0) refl
    (λ k is. let at = passes k is in (omega arith, (omega (arith, at.0), at.1)))
    (λ k from below is. no_later_than test g found k some rows (omega (arith, below)) is))
