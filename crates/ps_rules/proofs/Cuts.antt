-- Lists that are cut, and seen by what their elements show.
use Rattle.std.proofs.Common.{◌≡◌, Bool, true, false, List, [], ◌∷◌, map, refl, ap, ◌∙◌}
use Rattle.std.specs.List.{slice_split, onto_first}
use Rattle.std.specs.Result.{IfOk}
use Rattle.std.specs.Prelude.{Result, Ok, Err}
use Rattle.std.specs.Borrow.{Bor}
use Rattle.std.proofs.lemmas.List.Splits.{slice_split-cons_yes, slice_split-cons_no}

-- what follows from what holds of a result
pub if_ok : {A E : Type 0} {P Q : A → Type 0} (r : Result A E) → ((a : A) → P a → Q a) → IfOk r P → IfOk r Q
if_ok (Ok a) f h = f a h
if_ok (Err e) f h = h

pub cut-yes : {A B : Type 0} (p : B → Bool) (f : A → B) (x : A) (xs : List A) → p (f x) ≡ true
    → map (map f) (slice_split (λ x. p (f x)) xs) ≡ slice_split p (map f xs) →
    map (map f) (slice_split (λ x. p (f x)) (x ∷ xs)) ≡ slice_split p (f x ∷ map f xs)
cut-yes p f x xs e h = rw (slice_split-cons_yes (λ x. p (f x)) x xs e, slice_split-cons_yes p (f x) (map f xs) e)
    (ap (λ parts. [] ∷ parts) h)

onto-map : {A B : Type 0} (f : A → B) (x : A) (parts : List (List A)) →
    map (map f) (onto_first x parts) ≡ onto_first (f x) (map (map f) parts)
onto-map f x [] = refl
onto-map f x (part ∷ parts) = refl

by_test : {A B : Type 0} (p : B → Bool) (f : A → B) (x : A) (xs : List A) (b : Bool) → p (f x) ≡ b
    → map (map f) (slice_split (λ x. p (f x)) xs) ≡ slice_split p (map f xs) →
    map (map f) (slice_split (λ x. p (f x)) (x ∷ xs)) ≡ slice_split p (f x ∷ map f xs)
by_test p f x xs true e h = cut-yes p f x xs e h
by_test p f x xs false e h =
    rw (slice_split-cons_no (λ x. p (f x)) x xs e, slice_split-cons_no p (f x) (map f xs) e)
    (onto-map f x (slice_split (λ x. p (f x)) xs) ∙ ap (onto_first (f x)) h)

-- the parts of a list that is cut by what its elements show
pub cut-shown : {A B : Type 0} (p : B → Bool) (f : A → B) (xs : List A) →
    map (map f) (slice_split (λ x. p (f x)) xs) ≡ slice_split p (map f xs)
cut-shown p f [] = refl
cut-shown p f (x ∷ xs) = by_test p f x xs (p (f x)) refl (cut-shown p f xs)

pub parts-now : {A B : Type 0} (f : A → B) (parts : List (Bor (List A))) →
    map (map f) (map (λ p. p.now) parts) ≡ map (λ p. map f p.now) parts
parts-now f [] = refl
parts-now f (part ∷ parts) = ap (λ xs. map f part.now ∷ xs) (parts-now f parts)
