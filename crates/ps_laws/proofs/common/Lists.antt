-- Lists: parts of an empty one, tests of some element, what a filter leaves, a write beside, and lists for the numbers
-- of a range.
use Rattle.std.proofs.Common.{◌≡◌, ◌≢◌, ◌+◌, ◌<◌, ◌≤◌, ℕ, zero, suc, Bool, false, ◌||◌, List, [], ◌∷◌, ◌++◌, map}
use Rattle.std.proofs.Common.{filter}
use Rattle.std.proofs.Common.{flat_map, slice_get, slice_set, refl, ◌∙◌, ap, ap₂, arith}
use Rattle.std.specs.List.{list_any, range_with_len}
use Rattle.std.proofs.lemmas.List.Folds.{list_any-append}

-- a list that is empty has empty parts
pub none-before : {A : Type 0} (xs ys : List A) → xs ++ ys ≡ [] → xs ≡ []
none-before [] ys e = refl
none-before (x ∷ xs) ys e = cc

pub none-behind : {A : Type 0} (xs ys : List A) → xs ++ ys ≡ [] → ys ≡ []
none-behind [] ys e = e
none-behind (x ∷ xs) ys e = cc

-- a test of what elements are made to
pub any-map : {A B : Type 0} (test : B → Bool) (f : A → B) (xs : List A) →
    list_any test (map f xs) ≡ list_any (λ x. test (f x)) xs
any-map test f [] = refl
any-map test f (x ∷ xs) = ap (λ (b : Bool). test (f x) || b) (any-map test f xs)

-- a test of some element of some list
pub any-flat_map : {A B : Type 0} (test : B → Bool) (f : A → List B) (xs : List A) →
    list_any test (flat_map f xs) ≡ list_any (λ x. list_any test (f x)) xs
any-flat_map test f [] = refl
any-flat_map test f (x ∷ xs) = list_any-append test (f x) (flat_map f xs)
    ∙ ap (λ (b : Bool). list_any test (f x) || b) (any-flat_map test f xs)

-- a test that nothing passes
pub none-filtered : {X : Type 0} (test : X → Bool) (xs : List X) → ((x : X) → test x ≡ false) → filter test xs ≡ []
none-filtered test [] off = refl
none-filtered test (x ∷ xs) off = rw (off x) (none-filtered test xs off)

-- a write at one place leaves every other
pub read_other : {X : Type 0} (xs : List X) (i j : ℕ) (x : X) → i ≢ j → slice_get (slice_set xs i x) j ≡ slice_get xs j
read_other [] i j x n = refl
read_other (y ∷ ys) zero zero x n = absurd (n refl)
read_other (y ∷ ys) zero (suc j) x n = refl
read_other (y ∷ ys) (suc i) zero x n = refl
read_other (y ∷ ys) (suc i) (suc j) x n = read_other ys i j x (λ e. n (ap suc e))

-- lists that are the same for each number of a range
pub range_lists-agree : {X : Type 0} (f h : ℕ → List X) (a n : ℕ) → ((i : ℕ) → a ≤ i → i < a + n → f i ≡ h i) →
    flat_map f (range_with_len a n) ≡ flat_map h (range_with_len a n)
range_lists-agree f h a zero e = refl
range_lists-agree f h a (suc n) e =
    ap₂ (λ (xs ys : List _). xs ++ ys) (e a (omega arith) (omega arith))
    (range_lists-agree f h (a + 1) n (λ i low high. e i (omega arith) (omega arith)))
