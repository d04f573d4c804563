-- Sets of columns by what holds of each column.
use Rattle.std.proofs.Common.{◌≡◌, ◌≢◌, ◌∙◌, ℕ, ◌+◌, ◌<◌, ◌≤◌, suc, zero, Bool, true, false, cond, List, [], ◌∷◌, map}
use Rattle.std.proofs.Common.{refl, sym, ap, ap₂, arith}
use Rattle.std.specs.Prelude.{if◌then◌else◌, nat_eq, nat_lt, filter}
use Rattle.std.specs.List.{range_with_len}
use Rattle.std.proofs.lemmas.Bool.Decides.{nat_tests}
use Rattle.std.proofs.lemmas.List.{get_or_past}
use Rattle.std.proofs.lemmas.List.FromFn.{length-map-range_with_len, get_or-map-range_with_len}
use Rattle.ps_model.specs.declared.limits.TheConstants.{SIDE_LIMIT}
use Rattle.ps_board.specs.ColumnSets.{columns_below, columns_where, column_at, set_columns, no_columns, with_column}

-- a column below the last one, and one beyond
pub column_at-where : (holds : ℕ → Bool) (x : ℕ) → x < SIDE_LIMIT → column_at (columns_where holds) x ≡ holds x
unfolding columns_where
column_at-where holds x low = get_or-map-range_with_len holds 0 SIDE_LIMIT x x false low (omega arith)

-- the columns below a number
pub below_at : (count x : ℕ) → x < SIDE_LIMIT → column_at (columns_below count) x ≡ nat_lt x count
below_at count x low = column_at-where (λ y. nat_lt y count) x low

-- a set with a column put in or left out: that column, and each other one
pub with_here : (columns : List Bool) (column : ℕ) (on : Bool) → column < SIDE_LIMIT →
    column_at (with_column columns column on) column ≡ on
with_here columns column on low =
    let same : nat_eq column column ≡ true = grind (arith, nat_tests) in
    column_at-where (λ y. if nat_eq y column then on else column_at columns y) column low
    ∙ ap (λ (t : Bool). if t then on else column_at columns column) same

pub with_other : (columns : List Bool) (column other : ℕ) (on : Bool) → other < SIDE_LIMIT → other ≢ column →
    column_at (with_column columns column on) other ≡ column_at columns other
with_other columns column other on low apart =
    let differs : nat_eq other column ≡ false = grind (arith, nat_tests, apart) in
    column_at-where (λ y. if nat_eq y column then on else column_at columns y) other low
    ∙ ap (λ (t : Bool). if t then on else column_at columns other) differs

pub column_at-beyond : (holds : ℕ → Bool) (x : ℕ) → SIDE_LIMIT ≤ x → column_at (columns_where holds) x ≡ false
unfolding columns_where
column_at-beyond holds x high = get_or_past (map holds (range_with_len 0 SIDE_LIMIT)) x false
    (rw (length-map-range_with_len holds 0 SIDE_LIMIT) high)

by_side : (holds : ℕ → Bool) (x : ℕ) (low : Bool) → nat_lt x SIDE_LIMIT ≡ low → (SIDE_LIMIT ≤ x → holds x ≡ false) →
    column_at (columns_where holds) x ≡ holds x
by_side holds x true t none = column_at-where holds x (grind (arith, nat_tests))
by_side holds x false t none =
    let high : SIDE_LIMIT ≤ x = grind (arith, nat_tests) in column_at-beyond holds x high ∙ sym (none high)

-- what holds of no column beyond the last one
pub column_at-all : (holds : ℕ → Bool) (x : ℕ) → (SIDE_LIMIT ≤ x → holds x ≡ false) →
    column_at (columns_where holds) x ≡ holds x
column_at-all holds x none = by_side holds x (nat_lt x SIDE_LIMIT) refl none

-- what holds of the same columns
agree_on : (f h : ℕ → Bool) (a n : ℕ) → ((x : ℕ) → a ≤ x → x < a + n → f x ≡ h x) →
    map f (range_with_len a n) ≡ map h (range_with_len a n)
agree_on f h a zero e = refl
agree_on f h a (suc n) e = ap₂ (λ (b : Bool) (bs : List Bool).
    b ∷ bs) (e a (omega arith) (omega arith)) (agree_on f h (a + 1) n (λ x low high. e x (omega arith) (omega arith)))

pub columns-agree : (f h : ℕ → Bool) → ((x : ℕ) → x < SIDE_LIMIT → f x ≡ h x) → columns_where f ≡ columns_where h
unfolding columns_where
columns-agree f h e = agree_on f h 0 SIDE_LIMIT (λ x low high. e x (omega arith))

pub columns-again : (f : ℕ → Bool) → columns_where (column_at (columns_where f)) ≡ columns_where f
columns-again f = columns-agree (column_at (columns_where f)) f (λ x low. column_at-where f x low)

-- the numbers of columns
kept_on : (f h : ℕ → Bool) (a n : ℕ) → ((x : ℕ) → a ≤ x → x < a + n → f x ≡ h x) →
    filter f (range_with_len a n) ≡ filter h (range_with_len a n)
kept_on f h a zero e = refl
kept_on f h a (suc n) e =
    ap₂ (λ (b : Bool) (xs : List ℕ). cond b (a ∷ xs) xs) (e a (omega arith) (omega arith))
    (kept_on f h (a + 1) n (λ x low high. e x (omega arith) (omega arith)))

pub set_columns-where : (f : ℕ → Bool) → set_columns (columns_where f) ≡ filter f (range_with_len 0 SIDE_LIMIT)
unfolding set_columns
set_columns-where f = kept_on (column_at (columns_where f)) f 0 SIDE_LIMIT (λ x low high.
    column_at-where f x (omega arith))

-- numbers of which none passes
pub none_on : (f : ℕ → Bool) (a n : ℕ) → ((x : ℕ) → a ≤ x → x < a + n → f x ≡ false) →
    filter f (range_with_len a n) ≡ []
none_on f a zero e = refl
none_on f a (suc n) e =
    ap (λ (b : Bool). cond b (a ∷ filter f (range_with_len (a + 1) n)) (filter f (range_with_len (a + 1) n)))
    (e a (omega arith) (omega arith))
    ∙ none_on f (a + 1) n (λ x low high. e x (omega arith) (omega arith))

pub set_columns-none : set_columns no_columns ≡ []
set_columns-none = set_columns-where (λ x. false) ∙ none_on (λ x. false) 0 SIDE_LIMIT (λ x low high. refl)

-- the first column, and the others
first_by : (f h : ℕ → Bool) (a n k : ℕ) (same : Bool) → nat_eq a k ≡ same → a ≤ k → k < a + n → f k ≡ true →
    h k ≡ false →
    ((x : ℕ) → x < k → f x ≡ false) → ((x : ℕ) → x < k → h x ≡ false) → ((x : ℕ) → k < x → x < a + n → f x ≡ h x) →
    filter f (range_with_len a n) ≡ k ∷ filter h (range_with_len a n)
first_by f h a zero k same t low high here gone before after more = absurd (omega arith)
first_by f h a (suc n) k true t low high here gone before after more =
    let is : a ≡ k = grind (arith, nat_tests) in
    rw (is, here, gone) (ap (λ (xs : List ℕ). k ∷ xs)
    (kept_on f h (k + 1) n (λ x near far. more x (omega arith) (omega arith))))
first_by f h a (suc n) k false t low high here gone before after more =
    let other : a < k = grind (arith, nat_tests) in
    rw (before a other, after a other) (first_by f h (a + 1) n k (nat_eq (a + 1) k) refl (omega arith) (omega arith)
    here gone before after (λ x near far. more x near (omega arith)))

pub set_columns-first : (f h : ℕ → Bool) (k : ℕ) → k < SIDE_LIMIT → f k ≡ true → h k ≡ false →
    ((x : ℕ) → x < k → f x ≡ false) → ((x : ℕ) → x < SIDE_LIMIT → k < x → f x ≡ h x) → ((x : ℕ) → x < k → h x ≡ false) →
    set_columns (columns_where f) ≡ k ∷ set_columns (columns_where h)
set_columns-first f h k low here gone before more after =
    set_columns-where f
    ∙ first_by f h 0 SIDE_LIMIT k (nat_eq 0 k) refl (omega arith) (omega arith) here gone before after (λ x near far.
    more x (omega arith) near)
    ∙ ap (λ (xs : List ℕ). k ∷ xs) (sym (set_columns-where h))

-- a set without a column
in_none_by : (f : ℕ → Bool) (a n x : ℕ) (here same : Bool) → f a ≡ here → nat_eq a x ≡ same → a ≤ x → x < a + n →
    filter f (range_with_len a n) ≡ [] → f x ≡ false
in_none_by f a zero x here same e t low high none = absurd (omega arith)
in_none_by f a (suc n) x true same e t low high none =
    let some : a ∷ filter f (range_with_len (a + 1) n) ≡ [] =
    ap (λ (b : Bool). cond b (a ∷ filter f (range_with_len (a + 1) n)) (filter f (range_with_len (a + 1) n)))
    (sym e) ∙ none in absurd (cc)
in_none_by f a (suc n) x false true e t low high none = let is : a ≡ x = grind (arith, nat_tests) in ap f (sym is) ∙ e
in_none_by f a (suc n) x false false e t low high none =
    let other : a < x = grind (arith, nat_tests) in
    in_none_by f (a + 1) n x (f (a + 1)) (nat_eq (a + 1) x) refl refl (omega arith) (omega arith)
    (ap (λ (b : Bool). cond b (a ∷ filter f (range_with_len (a + 1) n)) (filter f (range_with_len (a + 1) n))) (sym e)
    ∙ none)

pub none_in : (columns : List Bool) (x : ℕ) → set_columns columns ≡ [] → x < SIDE_LIMIT → column_at columns x ≡ false
unfolding set_columns
none_in columns x none low = in_none_by (column_at columns) 0 SIDE_LIMIT x (column_at columns 0) (nat_eq 0 x) refl refl
    (omega arith) (omega (arith, low)) none

-- the first column of a set
first_in_by : (f : ℕ → Bool) (a n k : ℕ) (ks : List ℕ) (here : Bool) → f a ≡ here →
    filter f (range_with_len a n) ≡ k ∷ ks → (f k ≡ true) × (k < a + n)
first_in_by f a zero k ks here e is = absurd (cc)
first_in_by f a (suc n) k ks true e is =
    let same : a ∷ filter f (range_with_len (a + 1) n) ≡ k ∷ ks =
    ap (λ (b : Bool). cond b (a ∷ filter f (range_with_len (a + 1) n)) (filter f (range_with_len (a + 1) n)))
    (sym e) ∙ is in
    let first : a ≡ k = cc in
    (ap f (sym first) ∙ e, omega arith)
first_in_by f a (suc n) k ks false e is =
    let more = first_in_by f (a + 1) n k ks (f (a + 1)) refl
    (ap (λ (b : Bool). cond b (a ∷ filter f (range_with_len (a + 1) n)) (filter f (range_with_len (a + 1) n)))
    (sym e) ∙ is) in
    let low : k < a + 1 + n = more.1 in
    (more.0, omega arith)

pub first_in : (columns : List Bool) (k : ℕ) (ks : List ℕ) → set_columns columns ≡ k ∷ ks →
    (column_at columns k ≡ true) × (k < SIDE_LIMIT)
unfolding set_columns
first_in columns k ks is = let first = first_in_by (column_at columns) 0 SIDE_LIMIT k ks (column_at columns 0) refl is
    in (first.0, first.1)

-- the numbers of columns of which something holds
pub set_columns-are : (columns : List Bool) (f : ℕ → Bool) → ((x : ℕ) → x < SIDE_LIMIT → column_at columns x ≡ f x) →
    set_columns columns ≡ filter f (range_with_len 0 SIDE_LIMIT)
unfolding set_columns
set_columns-are columns f e = kept_on (column_at columns) f 0 SIDE_LIMIT (λ x low high. e x (omega arith))
