-- Whether one of a list has something, of lists that are made of others.
use Rattle.std.proofs.Common.{◌≡◌, ◌∙◌, ℕ, zero, suc, ◌+◌, ◌<◌, ◌≤◌, ◌||◌, ◌&&◌, inl, inr, Bool, true, false, cond}
use Rattle.std.proofs.Common.{List, [], ◌∷◌, filter, refl, sym, ap, ap₂, arith}
use Rattle.std.specs.Prelude.{nat_le}
use Rattle.std.specs.List.{list_any, range_with_len}
use Rattle.std.proofs.lemmas.Bool.{cases_eq, or_right}
use Rattle.std.proofs.Math.Bool.{and-false, and-or_distrib_left}
use Rattle.ps_model.specs.declared.limits.TheConstants.{SIDE_LIMIT}
use Rattle.ps_laws.proofs.common.Truths.{or_across}
use Rattle.ps_board.specs.ColumnSets.{columns_where, set_columns}
use Rattle.ps_board.proofs.ColumnLaws.{set_columns-where}
use Rattle.ps_places.specs.Ways.{positions_from}

pub any-alike : {X : Type 0} (f h : X → Bool) (xs : List X) → ((x : X) → f x ≡ h x) → list_any f xs ≡ list_any h xs
any-alike f h [] same = refl
any-alike f h (x ∷ xs) same = ap₂ (λ (a b : Bool). a || b) (same x) (any-alike f h xs same)

kept_or : {X : Type 0} (f : X → Bool) (x : X) (xs : List X) (b : Bool) →
    list_any f (cond b (x ∷ xs) xs) ≡ ((b && f x) || list_any f xs)
kept_or f x xs true = refl
kept_or f x xs false = refl

pub any-filter : {X : Type 0} (f test : X → Bool) (xs : List X) →
    list_any f (filter test xs) ≡ list_any (λ x. test x && f x) xs
any-filter f test [] = refl
any-filter f test (x ∷ xs) = kept_or f x (filter test xs) (test x) ∙ ap (λ (b : Bool). (test x && f x) || b)
    (any-filter f test xs)

pub any-both : {X : Type 0} (b : Bool) (f : X → Bool) (xs : List X) → list_any (λ x. b && f x) xs ≡ (b && list_any f xs)
any-both b f [] = sym (and-false b)
any-both b f (x ∷ xs) = ap (λ (c : Bool). (b && f x) || c) (any-both b f xs)
    ∙ sym (and-or_distrib_left b (f x) (list_any f xs))

none_any : {X : Type 0} (xs : List X) → list_any (λ x. false) xs ≡ false
none_any [] = refl
none_any (x ∷ xs) = none_any xs

pub any-either : {X : Type 0} (f h : X → Bool) (xs : List X) →
    list_any (λ x. f x || h x) xs ≡ (list_any f xs || list_any h xs)
any-either f h [] = refl
any-either f h (x ∷ xs) = ap (λ (b : Bool). (f x || h x) || b) (any-either f h xs) ∙ or_across (f x) (h x)
    (list_any f xs) (list_any h xs)

-- of two lists, in either order
pub any-swap : {X Y : Type 0} (f : X → Y → Bool) (xs : List X) (ys : List Y) →
    list_any (λ x. list_any (λ y. f x y) ys) xs ≡ list_any (λ y. list_any (λ x. f x y) xs) ys
any-swap f [] ys = sym (none_any ys)
any-swap f (x ∷ xs) ys =
    ap (λ (b : Bool). list_any (λ y. f x y) ys || b) (any-swap f xs ys)
    ∙ sym (any-either (λ y. f x y) (λ y. list_any (λ x. f x y) xs) ys)

-- numbers of a range --------------------------------------------------------------------------------------------------

pub record IsFound (f : ℕ → Bool) (a n : ℕ) : Type 0 where
  pub number : ℕ
  pub near : a ≤ number
  pub far : number < a + n
  pub is : f number ≡ true

by_first : (f : ℕ → Bool) (a n : ℕ) (b : Bool) → f a ≡ b → (f a || list_any f (range_with_len (a + 1) n)) ≡ true →
    (list_any f (range_with_len (a + 1) n) ≡ true → IsFound f (a + 1) n) → IsFound f a (suc n)
by_first f a n true here e more = record { number = a; near = omega arith; far = omega arith; is = here }
by_first f a n false here e more =
    let rest : list_any f (range_with_len (a + 1) n) ≡ true = ap (λ (b : Bool). b || list_any f (range_with_len
    (a + 1) n)) (sym here) ∙ e in
    let found = more rest in
    let near : a + 1 ≤ found.number = found.near in
    let far : found.number < a + 1 + n = found.far in
    record { number = found.number; near = omega (arith, near); far = omega (arith, far); is = found.is }

pub any-found : (f : ℕ → Bool) (a n : ℕ) → list_any f (range_with_len a n) ≡ true → IsFound f a n
any-found f a zero e = absurd (cc)
any-found f a (suc n) e = by_first f a n (f a) refl e (any-found f (a + 1) n)

pub any-here : (f : ℕ → Bool) (a n k : ℕ) → a ≤ k → k < a + n → f k ≡ true → list_any f (range_with_len a n) ≡ true
any-here f a zero k low high is = absurd (omega arith)
any-here f a (suc n) k low high is = elim (cases_eq k a) [
  | inl same ↦ let here : f a ≡ true = ap f (sym same) ∙ is in ap (λ (b : Bool). b || list_any f (range_with_len
      (a + 1) n)) here
  | inr other ↦ or_right (f a) _ (any-here f (a + 1) n k (omega (arith, low, other)) (omega (arith, high)) is)
]

-- all positions there may be
abbrev pub all : List ℕ
all = range_with_len 0 SIDE_LIMIT

-- positions of a set from one on
pub any-positions : (f test : ℕ → Bool) (from : ℕ) →
    list_any f (positions_from (columns_where test) from) ≡ list_any (λ q. test q && (nat_le from q && f q))
    (range_with_len 0 SIDE_LIMIT)
any-positions f test from =
    any-filter f (λ q. nat_le from q) (set_columns (columns_where test))
    ∙ ap (list_any (λ q. nat_le from q && f q)) (set_columns-where test)
    ∙ any-filter (λ q. nat_le from q && f q) test (range_with_len 0 SIDE_LIMIT)
