-- Merging lists of objects.
use Rattle.std.proofs.Common.{◌≡◌, ◌∙◌, Bool, true, false, List, [], ◌∷◌, ◌++◌, ◌||◌, refl, sym, ap, append_assoc}
use lib.Pointwise.{pointwise}
use Rattle.std.proofs.lemmas.List.Folds.{list_any-append}
use Rattle.std.proofs.lemmas.Bool.{and_parts, or_left, or_right}
use Rattle.ps_model.specs.declared.pieces.ObjectId.{ObjectId}
use Rattle.ps_model.specs.names.Names.{is_among, same_object}
use Rattle.ps_laws.proofs.common.SameThings.{same_object-true, same_object-own}
use Rattle.ps_names.specs.Flattened.{merged}

module _ (known : List ObjectId) (object : ObjectId) (others : List ObjectId) where
  pub merged-old : is_among known object ≡ true → merged known (object ∷ others) ≡ merged known others
  merged-old e = rw (merged, e) refl

  pub merged-new : is_among known object ≡ false → merged known (object ∷ others) ≡ merged (known ++ object ∷ []) others
  merged-new e = rw (merged, e) refl

pub among-left : (xs ys : List ObjectId) (x : ObjectId) → is_among xs x ≡ true → is_among (xs ++ ys) x ≡ true
among-left xs ys x e = list_any-append (same_object x) xs ys ∙ or_left _ _ e

pub among-right : (xs ys : List ObjectId) (x : ObjectId) → is_among ys x ≡ true → is_among (xs ++ ys) x ≡ true
among-right xs ys x e = list_any-append (same_object x) xs ys ∙ or_right _ _ e

-- all of the one are among the other
abbrev pub Within : List ObjectId → List ObjectId → Type 0
Within xs ys = (x : ObjectId) → is_among xs x ≡ true → is_among ys x ≡ true

-- what was known stays
pub merged-keeps : (known others : List ObjectId) → Within known (merged known others)
merged-keeps known [] x e = e
merged-keeps known (object ∷ others) x e = by (is_among known object) refl (merged-keeps known others x e)
    (merged-keeps (known ++ object ∷ []) others x (among-left known (object ∷ []) x e))
  where
    by : (b : Bool) → is_among known object ≡ b → is_among (merged known others) x ≡ true →
        is_among (merged (known ++ object ∷ []) others) x ≡ true
        → is_among (merged known (object ∷ others)) x ≡ true
    by true q old new = ap (λ os. is_among os x) (merged-old known object others q) ∙ old
    by false q old new = ap (λ os. is_among os x) (merged-new known object others q) ∙ new

-- what is merged is there
pub merged-has : (known others : List ObjectId) → Within others (merged known others)
merged-has known [] x e = cc
merged-has known (object ∷ others) x e = by (is_among known object) (same_object x object) refl refl
    (merged-has known others x) (merged-has (known ++ object ∷ []) others x)
  where
    by : (b same : Bool) → is_among known object ≡ b → same_object x object ≡ same
        → (is_among others x ≡ true → is_among (merged known others) x ≡ true)
        → (is_among others x ≡ true → is_among (merged (known ++ object ∷ []) others) x ≡ true)
        → is_among (merged known (object ∷ others)) x ≡ true
    by true true q s old new =
        let here : is_among known x ≡ true = ap (is_among known) (same_object-true x object s) ∙ q in
        ap (λ os. is_among os x) (merged-old known object others q) ∙ merged-keeps known others x here
    by false true q s old new =
        let here : is_among (known ++ object ∷ []) x ≡ true =
        among-right known (object ∷ []) x (or_left (same_object x object) false s) in
        ap (λ os. is_among os x) (merged-new known object others q) ∙ merged-keeps (known ++ object ∷ []) others x here
    by true false q s old new = ap (λ os. is_among os x) (merged-old known object others q)
        ∙ old (ap (λ b. b || is_among others x) (sym s) ∙ e)
    by false false q s old new = ap (λ os. is_among os x) (merged-new known object others q)
        ∙ new (ap (λ b. b || is_among others x) (sym s) ∙ e)

-- merging one list after the other
pub merged-append : (known xs ys : List ObjectId) → merged known (xs ++ ys) ≡ merged (merged known xs) ys
merged-append known [] ys = refl
merged-append known (x ∷ xs) ys = by (is_among known x) refl (merged-append known xs ys)
    (merged-append (known ++ x ∷ []) xs ys)
  where
    by : (b : Bool) → is_among known x ≡ b → merged known (xs ++ ys) ≡ merged (merged known xs) ys →
        merged (known ++ x ∷ []) (xs ++ ys) ≡ merged (merged (known ++ x ∷ []) xs) ys
        → merged known (x ∷ (xs ++ ys)) ≡ merged (merged known (x ∷ xs)) ys
    by true q old new = merged-old known x (xs ++ ys) q ∙ old ∙ ap (λ os. merged os ys) (sym (merged-old known x xs q))
    by false q old new = merged-new known x (xs ++ ys) q ∙ new ∙ ap (λ os. merged os ys) (sym (merged-new known x xs q))

-- what is known changes nothing
pub absorbed : (known xs : List ObjectId) → Within xs known → merged known xs ≡ known
absorbed known [] in_it = refl
absorbed known (x ∷ xs) in_it =
    merged-old known x xs (in_it x (or_left (same_object x x) _ (same_object-own x)))
    ∙ absorbed known xs (λ y e. in_it y (or_right (same_object y x) _ e))

-- merging what was merged
pub merged-twice : (known others xs : List ObjectId) → merged known (merged others xs) ≡ merged (merged known others) xs
merged-twice known others [] = refl
merged-twice known others (x ∷ xs) = by (is_among others x) refl (merged-twice known others xs)
    (merged-twice known (others ++ x ∷ []) xs)
  where
    by : (b : Bool) → is_among others x ≡ b → merged known (merged others xs) ≡ merged (merged known others) xs
        → merged known (merged (others ++ x ∷ []) xs) ≡ merged (merged known (others ++ x ∷ [])) xs
        → merged known (merged others (x ∷ xs)) ≡ merged (merged known others) (x ∷ xs)
    by true q old new = ap (merged known) (merged-old others x xs q) ∙ old
        ∙ sym (merged-old (merged known others) x xs (merged-has known others x q))
    by false q old new =
        ap (merged known) (merged-new others x xs q) ∙ new
        ∙ ap (λ os. merged os xs) (merged-append known others (x ∷ []))
        ∙ sym (merged-append (merged known others) (x ∷ []) xs)

-- what is among two lists is among one of them
pub among-cases : (xs ys : List ObjectId) (x : ObjectId) (P : Type 0) → is_among (xs ++ ys) x ≡ true →
    (is_among xs x ≡ true → P) → (is_among ys x ≡ true → P) → P
among-cases xs ys x P e left right = by (is_among xs x) refl
  where
    by : (b : Bool) → is_among xs x ≡ b → P
    by true q = left q
    by false q = right (sym (list_any-append (same_object x) xs ys ∙ ap (λ b. b || is_among ys x) q) ∙ e)

-- the one that is among one
pub among-one : (object x : ObjectId) (known : List ObjectId) → is_among (object ∷ []) x ≡ true →
    is_among known object ≡ true → is_among known x ≡ true
among-one object x known e f = by (same_object x object) refl
  where
    by : (b : Bool) → same_object x object ≡ b → is_among known x ≡ true
    by true q = ap (is_among known) (same_object-true x object q) ∙ f
    by false q = let no : (false || false) ≡ true = ap (λ b. b || false) (sym q) ∙ e in cc

pub among-self : (object : ObjectId) → is_among (object ∷ []) object ≡ true
among-self object = or_left (same_object object object) false (same_object-own object)

-- what is merged is of the two
pub merged-within : (known others : List ObjectId) → Within (merged known others) (known ++ others)
merged-within known [] x e = among-left known [] x e
merged-within known (object ∷ others) x e = by (is_among known object) refl (merged-within known others x)
    (merged-within (known ++ object ∷ []) others x)
  where
    by : (b : Bool) → is_among known object ≡ b →
        (is_among (merged known others) x ≡ true → is_among (known ++ others) x ≡ true)
        → (is_among (merged (known ++ object ∷ []) others) x ≡ true →
        is_among ((known ++ object ∷ []) ++ others) x ≡ true) → is_among (known ++ (object ∷ others)) x ≡ true
    by true q old new =
        let e' : is_among (merged known others) x ≡ true =
        ap (λ os. is_among os x) (sym (merged-old known object others q)) ∙ e in
        among-cases known others x (is_among (known ++ (object ∷ others)) x ≡ true) (old e') (λ a.
        among-left known (object ∷ others) x a) (λ b.
        among-right known (object ∷ others) x (among-right (object ∷ []) others x b))
    by false q old new =
        let e' : is_among (merged (known ++ object ∷ []) others) x ≡ true =
        ap (λ os. is_among os x) (sym (merged-new known object others q)) ∙ e in
        ap (λ os. is_among os x) (sym (append_assoc known (object ∷ []) others)) ∙ new e'

-- lists whose objects are equal one by one
pub equal-lists : (E : ObjectId → ObjectId → Bool) → ((x y : ObjectId) → E x y ≡ true → x ≡ y) →
    (xs ys : List ObjectId) → pointwise E xs ys ≡ true → xs ≡ ys
equal-lists E same [] [] e = refl
equal-lists E same [] (y ∷ ys) e = cc
equal-lists E same (x ∷ xs) [] e = cc
equal-lists E same (x ∷ xs) (y ∷ ys) e =
    let one : x ≡ y = same x y (and_parts (E x y) (pointwise E xs ys) e).0 in
    ap (λ o. o ∷ xs) one ∙ ap (λ os. y ∷ os) (equal-lists E same xs ys (and_parts (E x y) (pointwise E xs ys) e).1)
