-- The positions of a set from one on: those from another on behind them, and the next ones behind the first.
use Rattle.std.proofs.Common.{◌≡◌, ◌∙◌, ℕ, ◌+◌, ◌-◌, ◌<◌, ◌≤◌, ◌&&◌, inl, inr, suc, zero, Bool, true, false, cond, List}
use Rattle.std.proofs.Common.{[], ◌∷◌, ◌++◌, refl, sym, ap, ap₂, arith}
use Rattle.std.specs.Prelude.{filter, nat_le, nat_lt, not}
use Rattle.std.specs.List.{range_with_len}
use Rattle.std.proofs.lemmas.Bool.{cases_Bool, cases_eq, cases_lt}
use Rattle.std.proofs.lemmas.Bool.Decides.{nat_tests}
use Rattle.std.proofs.lemmas.List.Elements.{filter-append}
use Rattle.std.proofs.lemmas.List.{append-nil}
use Rattle.std.proofs.Math.Bool.{and_comm}
use Rattle.ps_model.specs.declared.limits.TheConstants.{SIDE_LIMIT}
use Rattle.ps_board.specs.ColumnSets.{both_columns, column_at, columns_below, columns_without, no_columns, set_columns}
use Rattle.ps_board.proofs.ColumnLaws.{column_at-where, set_columns-are, set_columns-none}
use Rattle.ps_places.specs.Ways.{from_first, positions_from}
use Rattle.ps_places.proofs.FirstOf.{first-here, first-later, first-passes}
use Rattle.ps_places.proofs.Ranges.{all_from}

-- a list filtered -----------------------------------------------------------------------------------------------------

pub filter-kept : {X : Type 0} (test : X → Bool) (x : X) (xs : List X) → test x ≡ true →
    filter test (x ∷ xs) ≡ x ∷ filter test xs
filter-kept test x xs e = ap (λ (b : Bool). cond b (x ∷ filter test xs) (filter test xs)) e

pub filter-left : {X : Type 0} (test : X → Bool) (x : X) (xs : List X) → test x ≡ false →
    filter test (x ∷ xs) ≡ filter test xs
filter-left test x xs e = ap (λ (b : Bool). cond b (x ∷ filter test xs) (filter test xs)) e

pub filter-twice : {X : Type 0} (f h : X → Bool) (xs : List X) → filter h (filter f xs) ≡ filter (λ x. f x && h x) xs
filter-twice f h [] = refl
filter-twice f h (x ∷ xs) = elim (cases_Bool (f x)) [
  | inl is ↦
      ap (filter h) (filter-kept f x xs is)
      ∙ ap (λ (l : List _). cond (h x) (x ∷ l) l) (filter-twice f h xs)
      ∙ ap (λ (b : Bool). cond (b && h x) (x ∷ filter (λ y. f y && h y) xs) (filter (λ y. f y && h y) xs)) (sym is)
  | inr out ↦
      ap (filter h) (filter-left f x xs out)
      ∙ filter-twice f h xs
      ∙ ap (λ (b : Bool). cond (b && h x) (x ∷ filter (λ y. f y && h y) xs) (filter (λ y. f y && h y) xs)) (sym out)
]

-- a test that says more
pub filter-less : {X : Type 0} (f h : X → Bool) (xs : List X) → ((x : X) → h x ≡ true → f x ≡ true) →
    filter h (filter f xs) ≡ filter h xs
filter-less f h [] more = refl
filter-less f h (x ∷ xs) more = elim (cases_Bool (f x)) [
  | inl is ↦ ap (filter h) (filter-kept f x xs is) ∙ ap (λ (l : List _). cond (h x) (x ∷ l) l) (filter-less f h xs more)
  | inr out ↦ elim (cases_Bool (h x)) [
    | inl has ↦ let clash : true ≡ false = sym (more x has) ∙ out in absurd (cc)
    | inr lacks ↦ ap (filter h) (filter-left f x xs out) ∙ filter-less f h xs more ∙ sym (filter-left h x xs lacks)
  ]
]

-- numbers in rising order ---------------------------------------------------------------------------------------------

from_start : (f : ℕ → Bool) (a s n m : ℕ) → s ≤ a → m ≡ s + n - a →
    filter (λ x. nat_le a x) (filter f (range_with_len s n)) ≡ filter f (range_with_len a m)
from_start f a s zero m low e = let none : m ≡ 0 = omega arith in rw none refl
from_start f a s (suc n) m low e = elim (cases_eq s a) [
  | inl same ↦
      let long : m ≡ suc n = omega (arith, same, e) in
      rw (long, same) (all_from f a a (suc n) (omega arith))
  | inr other ↦
      let below : s < a = omega (arith, other, low) in
      let here : nat_le a s ≡ false = grind (arith, nat_tests, below) in
      let more = from_start f a (s + 1) n m (omega (arith, below)) (omega arith) in
      elim (cases_Bool (f s)) [
        | inl is ↦
            ap (filter (λ x. nat_le a x)) (filter-kept f s (range_with_len (s + 1) n) is)
            ∙ filter-left (λ x. nat_le a x) s (filter f (range_with_len (s + 1) n)) here
            ∙ more
        | inr out ↦ ap (filter (λ x. nat_le a x)) (filter-left f s (range_with_len (s + 1) n) out) ∙ more
      ]
]

-- as the numbers of a range that are in the set
pub positions-are : (set : List Bool) (a m : ℕ) → m ≡ SIDE_LIMIT - a →
    positions_from set a ≡ filter (column_at set) (range_with_len a m)
unfolding set_columns
positions-are set a m e = from_start (column_at set) a 0 SIDE_LIMIT m (omega arith) e

pub positions-all : (set : List Bool) → positions_from set 0 ≡ set_columns set
unfolding set_columns
positions-all set = all_from (column_at set) 0 0 SIDE_LIMIT (omega arith)

-- one position and those behind it ----------------------------------------------------------------------------------

next_by : (f : ℕ → Bool) (a n p : ℕ) (ps : List ℕ) → filter f (range_with_len a n) ≡ p ∷ ps →
    (f p ≡ true) × (a ≤ p) × (p < a + n) × ((m : ℕ) → m ≡ a + n - (p + 1) → ps ≡ filter f (range_with_len (p + 1) m))
next_by f a zero p ps e = absurd (cc)
next_by f a (suc n) p ps e = elim (cases_Bool (f a)) [
  | inl is ↦
      let same : a ∷ filter f (range_with_len (a + 1) n) ≡ p ∷ ps = sym (filter-kept f a (range_with_len (a + 1) n) is)
      ∙ e in
      let first : a ≡ p = cc in
      let rest : filter f (range_with_len (a + 1) n) ≡ ps = cc in (
        ap f (sym first) ∙ is,
        omega (arith, first),
        omega (arith, first),
        λ m long.
            let k : m ≡ n = omega (arith, first, long) in
            sym rest ∙ ap₂ (λ (s t : ℕ). filter f (range_with_len (s + 1) t)) first (sym k),
      )
  | inr out ↦
      let more = next_by f (a + 1) n p ps (sym (filter-left f a (range_with_len (a + 1) n) out) ∙ e) in
      let far : a + 1 ≤ p = more.1 in
      let low : p < a + 1 + n = more.2 in
      (more.0, omega (arith, far), omega (arith, low), λ m long. more.3 m (omega (arith, long)))
]

-- the first position of a set from one on
pub record IsFirst (set : List Bool) (from p : ℕ) (ps : List ℕ) : Type 0 where
  pub member : column_at set p ≡ true
  pub far : from ≤ p
  pub low : p < SIDE_LIMIT
  pub others : ps ≡ positions_from set (p + 1)

pub positions-first : (set : List Bool) (from p : ℕ) (ps : List ℕ) → positions_from set from ≡ p ∷ ps →
    IsFirst set from p ps
positions-first set from p ps e =
    let next = next_by (column_at set) from (SIDE_LIMIT - from) p ps
    (sym (positions-are set from (SIDE_LIMIT - from) refl) ∙ e) in
    let far : from ≤ p = next.1 in
    let low : p < from + (SIDE_LIMIT - from) = next.2 in
    record {
      member = next.0;
      far = far;
      low = omega (arith, far, low);
      others = next.3 (SIDE_LIMIT - (p + 1)) (omega (arith, far, low))
          ∙ sym (positions-are set (p + 1) (SIDE_LIMIT - (p + 1)) refl);
    }

-- the positions from one on end in those from a later one on
range-split : (a n m : ℕ) → range_with_len a (n + m) ≡ range_with_len a n ++ range_with_len (a + n) m
range-split a zero m = let e : a + 0 ≡ a = omega arith in let k : 0 + m ≡ m = omega arith in rw (e, k) refl
range-split a (suc n) m =
    let e : a + suc n ≡ a + 1 + n = omega arith in
    let k : suc n + m ≡ suc (n + m) = omega arith in
    rw (e, k) (ap (λ (l : List ℕ). a ∷ l) (range-split (a + 1) n m))

pub record EndsIn {X : Type 0} (xs ys : List X) : Type 0 where
  pub before : List X
  pub whole : xs ≡ before ++ ys

pub positions-end : (set : List Bool) (a b : ℕ) → a ≤ b → EndsIn (positions_from set a) (positions_from set b)
positions-end set a b low = elim (cases_lt b SIDE_LIMIT) [
  | inl within ↦
      let long : SIDE_LIMIT - a ≡ b - a + (SIDE_LIMIT - b) = omega arith in
      let behind : a + (b - a) ≡ b = omega arith in
      record {
        before = filter (column_at set) (range_with_len a (b - a));
        whole =
            positions-are set a (b - a + (SIDE_LIMIT - b)) (sym long)
            ∙ ap (filter (column_at set)) (range-split a (b - a) (SIDE_LIMIT - b))
            ∙ filter-append (column_at set) (range_with_len a (b - a)) (range_with_len (a + (b - a)) (SIDE_LIMIT - b))
            ∙ ap (λ (s : ℕ). filter (column_at set) (range_with_len a (b - a)) ++ filter (column_at set)
            (range_with_len s (SIDE_LIMIT - b))) behind
            ∙ ap (λ (l : List ℕ). filter (column_at set) (range_with_len a (b - a)) ++ l)
            (sym (positions-are set b (SIDE_LIMIT - b) refl));
      }
  | inr beyond ↦
      let none : positions_from set b ≡ [] = positions-are set b 0 (omega (arith, beyond)) in
      record {
        before = positions_from set a;
        whole = sym (ap (λ (l : List ℕ). positions_from set a ++ l) none
            ∙ append-nil (positions_from set a));
      }
]

-- what is left of a set when positions are taken out of it, the least first ----------------------------------------

pub record IsLeftOf (set left : List Bool) : Type 0 where
  pub at : (p : ℕ) (ps : List ℕ) → set_columns left ≡ p ∷ ps →
      (column_at set p ≡ true) × (ps ≡ positions_from set (p + 1))

pub left-from : (set left : List Bool) (from : ℕ) → set_columns left ≡ positions_from set from → IsLeftOf set left
left-from set left from e =
    record { at = λ p ps is. let first = positions-first set from p ps (sym e ∙ is) in (first.member, first.others) }

pub left-more : (set left more : List Bool) (p : ℕ) → set_columns left ≡ p ∷ set_columns more → IsLeftOf set left →
    IsLeftOf set more
left-more set left more p e all = left-from set more (p + 1) (all.at p (set_columns more) e).1

-- sets of positions ------------------------------------------------------------------------------------------------

pub behind-none : (set : List Bool) (from : ℕ) → SIDE_LIMIT ≤ from → positions_from set from ≡ set_columns no_columns
behind-none set from far = positions-are set from 0 (omega (arith, far)) ∙ sym set_columns-none

without_below : (set : List Bool) (from x : ℕ) → x < SIDE_LIMIT →
    column_at (columns_without set (columns_below from)) x ≡ (column_at set x && nat_le from x)
without_below set from x low = elim (cases_lt x from) [
  | inl before ↦
      let here : nat_lt x from ≡ true = grind (arith, nat_tests, before) in
      let there : nat_le from x ≡ false = grind (arith, nat_tests, before) in
      column_at-where (λ y. column_at set y && not (column_at (columns_below from) y)) x low
      ∙ ap (λ (b : Bool). column_at set x && not b) (column_at-where (λ y. nat_lt y from) x low ∙ here)
      ∙ ap (λ (b : Bool). column_at set x && b) (sym there)
  | inr far ↦
      let here : nat_lt x from ≡ false = grind (arith, nat_tests, far) in
      let there : nat_le from x ≡ true = grind (arith, nat_tests, far) in
      column_at-where (λ y. column_at set y && not (column_at (columns_below from) y)) x low
      ∙ ap (λ (b : Bool). column_at set x && not b) (column_at-where (λ y. nat_lt y from) x low ∙ here)
      ∙ ap (λ (b : Bool). column_at set x && b) (sym there)
]

pub behind-some : (set : List Bool) (from : ℕ) → set_columns (columns_without set (columns_below from))
    ≡ positions_from set from
unfolding set_columns
behind-some set from =
    set_columns-are (columns_without set (columns_below from)) (λ x. column_at set x && nat_le from x)
    (λ x low. without_below set from x low)
    ∙ sym (filter-twice (column_at set) (λ x. nat_le from x) (range_with_len 0 SIDE_LIMIT))

-- the positions from a later one on, of what is left of a set from one on
pub positions-again : (set left : List Bool) (from later : ℕ) → set_columns left ≡ positions_from set from →
    from ≤ later → positions_from left later ≡ positions_from set later
positions-again set left from later e low =
    ap (filter (λ x. nat_le later x)) e
    ∙ filter-less (λ x. nat_le from x) (λ x. nat_le later x) (set_columns set)
    (λ x far. grind (arith, nat_tests, far, low))

-- the first position of a kind ---------------------------------------------------------------------------------------

first_by : (kind f : ℕ → Bool) (a n p : ℕ) (ps : List ℕ) → filter kind (filter f (range_with_len a n)) ≡ p ∷ ps →
    (p < a + n) × (a ≤ p) × ((m : ℕ) → m ≡ a + n - (p + 1) → from_first kind (filter f (range_with_len a n)) ≡ p
    ∷ filter f (range_with_len (p + 1) m))
first_by kind f a zero p ps e = absurd (cc)
first_by kind f a (suc n) p ps e = elim (cases_Bool (f a)) [
  | inr out ↦
      let more = first_by kind f (a + 1) n p ps
      (sym (ap (filter kind) (filter-left f a (range_with_len (a + 1) n) out)) ∙ e) in
      let low : p < a + 1 + n = more.0 in
      let far : a + 1 ≤ p = more.1 in (
        omega (arith, low),
        omega (arith, far),
        λ m long.
            ap (from_first kind) (filter-left f a (range_with_len (a + 1) n) out) ∙ more.2 m (omega (arith, long)),
      )
  | inl is ↦ elim (cases_Bool (kind a)) [
    | inl has ↦
        let same : a ∷ filter kind (filter f (range_with_len (a + 1) n)) ≡ p ∷ ps =
        sym (ap (filter kind) (filter-kept f a (range_with_len (a + 1) n) is)
        ∙ filter-kept kind a (filter f (range_with_len (a + 1) n)) has) ∙ e in
        let first : a ≡ p = cc in (
          omega (arith, first),
          omega (arith, first),
          λ m long.
              let k : n ≡ m = omega (arith, first, long) in
              ap (from_first kind) (filter-kept f a (range_with_len (a + 1) n) is)
              ∙ first-here kind a (filter f (range_with_len (a + 1) n)) has
              ∙ ap₂ (λ (s t : ℕ). s ∷ filter f (range_with_len (s + 1) t)) first k,
        )
    | inr lacks ↦
        let more = first_by kind f (a + 1) n p ps
        (sym (ap (filter kind) (filter-kept f a (range_with_len (a + 1) n) is)
        ∙ filter-left kind a (filter f (range_with_len (a + 1) n)) lacks) ∙ e) in
        let low : p < a + 1 + n = more.0 in
        let far : a + 1 ≤ p = more.1 in (
          omega (arith, low),
          omega (arith, far),
          λ m long.
              ap (from_first kind) (filter-kept f a (range_with_len (a + 1) n) is)
              ∙ first-later kind a (filter f (range_with_len (a + 1) n)) lacks
              ∙ more.2 m (omega (arith, long)),
        )
  ]
]

pub first-of-kind : (set : List Bool) (kind : ℕ → Bool) (p : ℕ) (ps : List ℕ) →
    filter kind (set_columns set) ≡ p ∷ ps → from_first kind (set_columns set) ≡ p ∷ positions_from set (p + 1)
unfolding set_columns
first-of-kind set kind p ps e =
    let first = first_by kind (column_at set) 0 SIDE_LIMIT p ps e in
    first.2 (SIDE_LIMIT - (p + 1)) (omega arith)
    ∙ ap (λ (l : List ℕ). p ∷ l) (sym (positions-are set (p + 1) (SIDE_LIMIT - (p + 1)) refl))

-- the numbers in a set of which something holds
pub both-kept : (set where_ : List Bool) (kind : ℕ → Bool) → ((x : ℕ) → x < SIDE_LIMIT → column_at where_ x ≡ kind x) →
    set_columns (both_columns where_ set) ≡ filter kind (set_columns set)
unfolding set_columns
both-kept set where_ kind are =
    set_columns-are (both_columns where_ set) (λ x. column_at set x && kind x)
    (λ x low. column_at-where (λ y. column_at where_ y && column_at set y) x low
    ∙ ap (λ (b : Bool). b && column_at set x) (are x low) ∙ and_comm (kind x) (column_at set x))
    ∙ sym (filter-twice (column_at set) kind (range_with_len 0 SIDE_LIMIT))

-- the first one, looked for in what is left of a set from one on
pub least-again : (kind : ℕ → Bool) (set left : List Bool) (from p : ℕ) → set_columns left ≡ positions_from set from →
    from_first kind (set_columns left) ≡ p ∷ positions_from left (p + 1) →
    from_first kind (positions_from set from) ≡ p ∷ positions_from set (p + 1)
least-again kind set left from p e first =
    let found : from_first kind (positions_from set from)
    ≡ p ∷ positions_from left (p + 1) = ap (from_first kind) (sym e) ∙ first in
    let test : nat_le from p ≡ true = first-passes kind (λ x. nat_le from x) (set_columns set) p
    (positions_from left (p + 1)) found in
    let far : from ≤ p = grind (arith, nat_tests, test) in
    found ∙ ap (λ (ps : List ℕ). p ∷ ps) (positions-again set left from (p + 1) e (omega (arith, far)))
