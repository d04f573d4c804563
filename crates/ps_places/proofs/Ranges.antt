-- Lists made of a function of the index.
use Rattle.std.proofs.Common.{◌≡◌, ◌∙◌, ℕ, ◌+◌, ◌-◌, ◌<◌, ◌≤◌, suc, zero, Bool, true, false, cond, List, [], ◌∷◌, ◌++◌}
use Rattle.std.proofs.Common.{map, filter, drop, append_assoc, refl, sym, ap, ap₂, arith}
use Rattle.std.specs.Prelude.{nat_le}
use Rattle.std.specs.List.{range_with_len, flat_map}
use Rattle.std.proofs.lemmas.Bool.Decides.{nat_tests}
use Rattle.ps_board.proofs.ColumnLaws.{none_on}

module _ {X : Type 0} where
  -- functions that agree on the indices
  pub map-range-agree : (f h : ℕ → X) (a n : ℕ) → ((i : ℕ) → a ≤ i → i < a + n → f i ≡ h i) →
      map f (range_with_len a n) ≡ map h (range_with_len a n)
  map-range-agree f h a zero e = refl
  map-range-agree f h a (suc n) e = ap₂ (λ (x : X) (xs : List X). x ∷ xs) (e a (omega arith) (omega arith))
      (map-range-agree f h (a + 1) n (λ i low high. e i (omega arith) (omega arith)))

  -- two ranges, one behind the other
  pub map-range-append : (f : ℕ → X) (a n m : ℕ) →
      map f (range_with_len a (n + m)) ≡ map f (range_with_len a n) ++ map f (range_with_len (a + n) m)
  map-range-append f a zero m = let e : 0 + m ≡ m = omega arith in let d : a + 0 ≡ a = omega arith in rw (e, d) refl
  map-range-append f a (suc n) m =
      let e : suc n + m ≡ suc (n + m) = omega arith in
      let d : a + suc n ≡ (a + 1) + n = omega arith in
      rw (e, d) (ap (λ (xs : List X). f a ∷ xs) (map-range-append f (a + 1) n m))

  -- a range moved on
  pub map-range-shift : (f : ℕ → X) (a n d : ℕ) → map (λ i. f (i + d)) (range_with_len a n)
      ≡ map f (range_with_len (a + d) n)
  map-range-shift f a zero d = refl
  map-range-shift f a (suc n) d = let e : a + 1 + d ≡ a + d + 1 = omega arith in
      ap (λ (xs : List X). f (a + d) ∷ xs) (map-range-shift f (a + 1) n d
      ∙ ap (λ (k : ℕ). map f (range_with_len k n)) e)

  -- a range without its front
  pub drop-map-range : (f : ℕ → X) (a n k : ℕ) → drop k (map f (range_with_len a n))
      ≡ map f (range_with_len (a + k) (n - k))
  drop-map-range f a n zero = let e : a + 0 ≡ a = omega arith in let d : n - 0 ≡ n = omega arith in rw (e, d) refl
  drop-map-range f a zero (suc k) = let d : 0 - suc k ≡ 0 = omega arith in rw d refl
  drop-map-range f a (suc n) (suc k) =
      let e : a + suc k ≡ a + 1 + k = omega arith in
      let d : suc n - suc k ≡ n - k = omega arith in
      rw (e, d) (drop-map-range f (a + 1) n k)

  -- nothing for each index
  pub flat_map-none : {I : Type 0} (f : I → List X) (is : List I) → ((i : I) → f i ≡ []) → flat_map f is ≡ []
  flat_map-none f [] e = refl
  flat_map-none f (i ∷ is) e = ap (λ (xs : List X). xs ++ flat_map f is) (e i) ∙ flat_map-none f is e

  -- lists that are the same for each element
  pub flat_map-agree : {I : Type 0} (f h : I → List X) (is : List I) → ((i : I) → f i ≡ h i) →
      flat_map f is ≡ flat_map h is
  flat_map-agree f h [] e = refl
  flat_map-agree f h (i ∷ is) e = ap₂ (λ (xs ys : List X). xs ++ ys) (e i) (flat_map-agree f h is e)

-- two ranges, one behind the other
pub ranges_apart : {X : Type 0} (f : ℕ → List X) (a n m j : ℕ) → a + n ≡ j →
    flat_map f (range_with_len a (n + m)) ≡ flat_map f (range_with_len a n) ++ flat_map f (range_with_len j m)
ranges_apart f a zero m j e =
    let all : 0 + m ≡ m = omega arith in
    let start : a ≡ j = omega arith in
    ap (λ (k : ℕ). flat_map f (range_with_len a k)) all ∙ ap (λ (k : ℕ). flat_map f (range_with_len k m)) start
ranges_apart f a (suc n) m j e =
    let all : suc n + m ≡ suc (n + m) = omega arith in
    ap (λ (k : ℕ). flat_map f (range_with_len a k)) all
    ∙ ap (λ (xs : List _). f a ++ xs) (ranges_apart f (a + 1) n m j (omega arith))
    ∙ sym (append_assoc (f a) (flat_map f (range_with_len (a + 1) n)) (flat_map f (range_with_len j m)))

pub agree_from : {X : Type 0} (f h : ℕ → List X) (a b n : ℕ) → ((y : ℕ) → y < n → f (a + y) ≡ h (b + y)) →
    flat_map f (range_with_len a n) ≡ flat_map h (range_with_len b n)
agree_from f h a b zero e = refl
agree_from f h a b (suc n) e =
    let p : a + 0 ≡ a = omega arith in
    let q : b + 0 ≡ b = omega arith in
    let here : f a ≡ h b = ap f (sym p) ∙ e 0 (omega arith) ∙ ap h q in
    ap₂ (λ (xs ys : List _). xs ++ ys) here
    (agree_from f h (a + 1) (b + 1) n (λ y low. let s : a + 1 + y ≡ a + suc y = omega arith in let t : b + suc y
    ≡ b + 1 + y = omega arith in ap f s ∙ e (suc y) (omega arith) ∙ ap h t))

-- what passes a test
passing : {X : Type 0} (test : X → Bool) (x : X) (xs ys : List X) (b : Bool) →
    cond b (x ∷ (xs ++ ys)) (xs ++ ys) ≡ cond b (x ∷ xs) xs ++ ys
passing test x xs ys true = refl
passing test x xs ys false = refl

pub filter-join : {X : Type 0} (test : X → Bool) (xs ys : List X) →
    filter test (xs ++ ys) ≡ filter test xs ++ filter test ys
filter-join test [] ys = refl
filter-join test (x ∷ xs) ys =
    ap (λ (zs : List _). cond (test x) (x ∷ zs) zs) (filter-join test xs ys)
    ∙ passing test x (filter test xs) (filter test ys) (test x)

pub filter-flat_map : {A B : Type 0} (test : B → Bool) (h : A → List B) (xs : List A) →
    filter test (flat_map h xs) ≡ flat_map (λ x. filter test (h x)) xs
filter-flat_map test h [] = refl
filter-flat_map test h (x ∷ xs) = filter-join test (h x) (flat_map h xs)
    ∙ ap (λ (others : List _). filter test (h x) ++ others) (filter-flat_map test h xs)

one_passes : {X : Type 0} (f : ℕ → List X) (x : ℕ) (xs : List ℕ) (b : Bool) →
    cond b (f x) [] ++ flat_map f xs ≡ flat_map f (cond b (x ∷ xs) xs)
one_passes f x xs true = refl
one_passes f x xs false = refl

-- lists of the indices that pass a test
pub lists_passing : {X : Type 0} (f : ℕ → List X) (test : ℕ → Bool) (xs : List ℕ) →
    flat_map (λ x. cond (test x) (f x) []) xs ≡ flat_map f (filter test xs)
lists_passing f test [] = refl
lists_passing f test (x ∷ xs) = ap (λ (ys : List _). cond (test x) (f x) [] ++ ys) (lists_passing f test xs)
    ∙ one_passes f x (filter test xs) (test x)

-- lists that are the same for what passes a test
agree_by : {X : Type 0} (f h : ℕ → List X) (test : ℕ → Bool) (x : ℕ) (xs : List ℕ) (b : Bool) → test x ≡ b →
    ((y : ℕ) → test y ≡ true → f y ≡ h y) →
    flat_map f (filter test xs) ≡ flat_map h (filter test xs) →
    flat_map f (cond b (x ∷ filter test xs) (filter test xs))
    ≡ flat_map h (cond b (x ∷ filter test xs) (filter test xs))
agree_by f h test x xs true t e others = ap₂ (λ (ys zs : List _). ys ++ zs) (e x t) others
agree_by f h test x xs false t e others = others

pub passing-agree : {X : Type 0} (f h : ℕ → List X) (test : ℕ → Bool) (xs : List ℕ) →
    ((y : ℕ) → test y ≡ true → f y ≡ h y) → flat_map f (filter test xs) ≡ flat_map h (filter test xs)
passing-agree f h test [] e = refl
passing-agree f h test (x ∷ xs) e = agree_by f h test x xs (test x) refl e (passing-agree f h test xs e)

-- numbers that pass a test --------------------------------------------------------------------------------------------

front_only : (test : ℕ → Bool) (a n m : ℕ) → n ≤ m → ((x : ℕ) → a + n ≤ x → test x ≡ false) →
    filter test (range_with_len a m) ≡ filter test (range_with_len a n)
front_only test a zero m few e = none_on test a m (λ x low high. e x (omega arith))
front_only test a (suc n) zero few e = absurd (omega arith)
front_only test a (suc n) (suc m) few e =
    ap (λ (xs : List ℕ). cond (test a) (a ∷ xs) xs)
    (front_only test (a + 1) n m (omega arith) (λ x low. e x (omega arith)))

-- ranges that go as far as any number passes
pub both_ends : (test : ℕ → Bool) (a n m long : ℕ) → long ≤ a + n → long ≤ a + m →
    ((x : ℕ) → long ≤ x → test x ≡ false) → filter test (range_with_len a n) ≡ filter test (range_with_len a m)
both_ends test a n m long e d none =
    front_only test a (long - a) n (omega arith) (λ x far. none x (omega arith))
    ∙ sym (front_only test a (long - a) m (omega arith) (λ x far. none x (omega arith)))

kept_by : (test more : ℕ → Bool) (x : ℕ) (xs : List ℕ) (b : Bool) → more x ≡ true →
    filter more (cond b (x ∷ xs) xs) ≡ cond b (x ∷ filter more xs) (filter more xs)
kept_by test more x xs true e = ap (λ (b : Bool). cond b (x ∷ filter more xs) (filter more xs)) e
kept_by test more x xs false e = refl

dropped_by : (test more : ℕ → Bool) (x : ℕ) (xs : List ℕ) (b : Bool) → more x ≡ false →
    filter more (cond b (x ∷ xs) xs) ≡ filter more xs
dropped_by test more x xs true e = ap (λ (b : Bool). cond b (x ∷ filter more xs) (filter more xs)) e
dropped_by test more x xs false e = refl

-- numbers that are all far enough
pub all_from : (test : ℕ → Bool) (from a n : ℕ) → from ≤ a →
    filter (λ p. nat_le from p) (filter test (range_with_len a n)) ≡ filter test (range_with_len a n)
all_from test from a zero far = refl
all_from test from a (suc n) far =
    let passes : nat_le from a ≡ true = grind (arith, nat_tests, far) in
    kept_by test (λ p. nat_le from p) a (filter test (range_with_len (a + 1) n)) (test a) passes
    ∙ ap (λ (xs : List ℕ). cond (test a) (a ∷ xs) xs) (all_from test from (a + 1) n (omega arith))

-- those from a number on
pub passing_from : (test : ℕ → Bool) (from a d n : ℕ) → from ≡ a + d →
    filter (λ p. nat_le from p) (filter test (range_with_len a (d + n))) ≡ filter test (range_with_len from n)
passing_from test from a zero n e =
    let same : from ≡ a = omega arith in
    let all : 0 + n ≡ n = omega arith in
    ap (λ (k : ℕ). filter (λ p. nat_le from p) (filter test (range_with_len a k))) all
    ∙ all_from test from a n (omega arith) ∙ ap (λ (k : ℕ). filter test (range_with_len k n)) (sym same)
passing_from test from a (suc d) n e =
    let all : suc d + n ≡ suc (d + n) = omega arith in
    let not_yet : nat_le from a ≡ false = grind (arith, nat_tests, e) in
    ap (λ (k : ℕ). filter (λ p. nat_le from p) (filter test (range_with_len a k))) all
    ∙ dropped_by test (λ p. nat_le from p) a (filter test (range_with_len (a + 1) (d + n))) (test a) not_yet
    ∙ passing_from test from (a + 1) d n (omega arith)
