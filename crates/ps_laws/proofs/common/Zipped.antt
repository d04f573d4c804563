-- Lists of lists that are related place by place.
use Rattle.std.proofs.Common.{◌≡◌, ℕ, suc, List, [], ◌∷◌, ◌++◌, length, map, flat_map, refl, sym, subst, ap, ap₂}
use Rattle.std.specs.Prelude.{All}
use Rattle.std.specs.List.{AllZip}
use Rattle.std.proofs.lemmas.List.{map-append}
use Rattle.std.proofs.lemmas.List.Elements.{All-head, All-tail}

-- appended lists
pub AllZip-append : {A B : Type 0} (R : A → B → Type 0) (xs : List A) (ys : List B) (us : List A) (vs : List B) →
    AllZip R xs ys → AllZip R us vs → AllZip R (xs ++ us) (ys ++ vs)
AllZip-append R [] [] us vs h k = k
AllZip-append R [] (y ∷ ys) us vs h k = absurd h
AllZip-append R (x ∷ xs) [] us vs h k = absurd h
AllZip-append R (x ∷ xs) (y ∷ ys) us vs h k = (h.0, AllZip-append R xs ys us vs h.1 k)

-- all lists joined
pub AllZip-joined : {A B : Type 0} (R : A → B → Type 0) (xss : List (List A)) (yss : List (List B)) →
    AllZip (AllZip R) xss yss → AllZip R (flat_map (λ xs. xs) xss) (flat_map (λ ys. ys) yss)
AllZip-joined R [] [] h = tt
AllZip-joined R [] (ys ∷ yss) h = absurd h
AllZip-joined R (xs ∷ xss) [] h = absurd h
AllZip-joined R (xs ∷ xss) (ys ∷ yss) h = AllZip-append R xs ys (flat_map (λ us. us) xss) (flat_map (λ us. us) yss) h.0
    (AllZip-joined R xss yss h.1)

-- they are as long
pub AllZip-length : {A B : Type 0} (R : A → B → Type 0) (xs : List A) (ys : List B) → AllZip R xs ys →
    length xs ≡ length ys
AllZip-length R [] [] h = refl
AllZip-length R [] (y ∷ ys) h = absurd h
AllZip-length R (x ∷ xs) [] h = absurd h
AllZip-length R (x ∷ xs) (y ∷ ys) h = ap suc (AllZip-length R xs ys h.1)

-- each is as long
pub AllZip-lengths : {A B : Type 0} (R : A → B → Type 0) (xss : List (List A)) (yss : List (List B)) →
    AllZip (AllZip R) xss yss → map length xss ≡ map length yss
AllZip-lengths R [] [] h = refl
AllZip-lengths R [] (ys ∷ yss) h = absurd h
AllZip-lengths R (xs ∷ xss) [] h = absurd h
AllZip-lengths R (xs ∷ xss) (ys ∷ yss) h = ap₂ (λ (n : ℕ) (ns : List ℕ).
    n ∷ ns) (AllZip-length R xs ys h.0) (AllZip-lengths R xss yss h.1)

-- what a function that can't tell them apart makes of each
pub AllZip-mapped : {A B C : Type 0} (R : A → B → Type 0) (f : A → C) (g : B → C) →
    ((x : A) (y : B) → R x y → f x ≡ g y) → (xs : List A) (ys : List B) → AllZip R xs ys → map f xs ≡ map g ys
AllZip-mapped R f g same [] [] h = refl
AllZip-mapped R f g same [] (y ∷ ys) h = absurd h
AllZip-mapped R f g same (x ∷ xs) [] h = absurd h
AllZip-mapped {C = C} R f g same (x ∷ xs) (y ∷ ys) h =
    ap₂ (λ (z : C) (zs : List C). z ∷ zs) (same x y h.0) (AllZip-mapped R f g same xs ys h.1)

-- what two functions make of each of a kind, the first of them in two steps
pub AllZip-made : {X Y A B : Type 0} (P : X → Type 0) (R : A → B → Type 0) (f : X → Y) (m : Y → A) (g : X → B) →
    ((x : X) → P x → R (m (f x)) (g x)) → (xs : List X) → All P xs →
    AllZip R (map m (map f xs)) (map g xs)
AllZip-made P R f m g made [] all = tt
AllZip-made P R f m g made (x ∷ xs) all = (
  made x (All-head P x xs all),
  AllZip-made P R f m g made xs (All-tail P x xs all),
)

-- the lists that they make of each, joined
pub AllZip-flat_map : {X Y A B : Type 0} (P : X → Type 0) (R : A → B → Type 0) (f : X → List Y) (m : Y → A) (g : X →
    List B) → ((x : X) → P x → AllZip R (map m (f x)) (g x)) → (xs : List X) →
    All P xs → AllZip R (map m (flat_map f xs)) (flat_map g xs)
AllZip-flat_map P R f m g made [] all = tt
AllZip-flat_map P R f m g made (x ∷ xs) all =
    subst (λ made. AllZip R made (flat_map g (x ∷ xs))) (sym (map-append m (f x) (flat_map f xs)))
    (AllZip-append R (map m (f x)) (g x) (map m (flat_map f xs)) (flat_map g xs) (made x (All-head P x xs all))
    (AllZip-flat_map P R f m g made xs (All-tail P x xs all)))

-- what follows place by place
pub AllZip-weaker : {A B : Type 0} (R S : A → B → Type 0) → ((x : A) (y : B) → R x y → S x y) →
    (xs : List A) (ys : List B) → AllZip R xs ys → AllZip S xs ys
AllZip-weaker R S weaker [] [] h = tt
AllZip-weaker R S weaker [] (y ∷ ys) h = absurd h
AllZip-weaker R S weaker (x ∷ xs) [] h = absurd h
AllZip-weaker R S weaker (x ∷ xs) (y ∷ ys) h = (weaker x y h.0, AllZip-weaker R S weaker xs ys h.1)
