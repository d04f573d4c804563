-- A test of what a list's elements are seen as.
use Rattle.std.proofs.Common.{◌≡◌, refl, ap, List, [], ◌∷◌, map, Bool, ◌||◌, ◌&&◌}
use Rattle.std.specs.List.{list_any, list_all}

pub any-mapped : {A B : Type 0} (test : B → Bool) (f : A → B) (xs : List A) →
    list_any (λ x. test (f x)) xs ≡ list_any test (map f xs)
any-mapped test f [] = refl
any-mapped test f (x ∷ xs) = ap (λ b. test (f x) || b) (any-mapped test f xs)

pub all-mapped : {A B : Type 0} (test : B → Bool) (f : A → B) (xs : List A) →
    list_all (λ x. test (f x)) xs ≡ list_all test (map f xs)
all-mapped test f [] = refl
all-mapped test f (x ∷ xs) = ap (λ b. test (f x) && b) (all-mapped test f xs)

pub any-mapped-twice : {A B C : Type 0} (test : C → Bool) (g : B → C) (f : A → B) (xs : List A) →
    list_any (λ x. test (g (f x))) xs ≡ list_any test (map g (map f xs))
any-mapped-twice test g f [] = refl
any-mapped-twice test g f (x ∷ xs) = ap (λ b. test (g (f x)) || b) (any-mapped-twice test g f xs)
