-- A list from its first element of a kind on, where the list is made of others.
use Rattle.std.proofs.Common.{◌≡◌, ◌∙◌, inl, inr, Bool, true, false, cond, List, [], ◌∷◌, ◌++◌, map, refl, sym, ap}
use Rattle.std.specs.Prelude.{All, filter}
use Rattle.std.specs.List.{flat_map}
use Rattle.std.proofs.lemmas.Bool.{cases_Bool}
use Rattle.std.proofs.lemmas.List.Elements.{All-head, All-tail}
use Rattle.ps_places.specs.Ways.{from_first}

-- the first element is of the kind or isn't
pub first-here : {X : Type 0} (kind : X → Bool) (x : X) (xs : List X) → kind x ≡ true →
    from_first kind (x ∷ xs) ≡ x ∷ xs
first-here kind x xs e = ap (λ (b : Bool). cond b (x ∷ xs) (from_first kind xs)) e

pub first-later : {X : Type 0} (kind : X → Bool) (x : X) (xs : List X) → kind x ≡ false →
    from_first kind (x ∷ xs) ≡ from_first kind xs
first-later kind x xs e = ap (λ (b : Bool). cond b (x ∷ xs) (from_first kind xs)) e

-- the first element of what is left is of the kind
pub first-fits : {X : Type 0} (kind : X → Bool) (xs : List X) (y : X) (ys : List X) → from_first kind xs ≡ y ∷ ys →
    kind y ≡ true
first-fits kind [] y ys e = absurd (cc)
first-fits kind (x ∷ xs) y ys e = elim (cases_Bool (kind x)) [
  | inl is ↦ let same : x ∷ xs ≡ y ∷ ys = sym (first-here kind x xs is) ∙ e in let first : x
      ≡ y = cc in ap kind (sym first) ∙ is
  | inr out ↦ first-fits kind xs y ys (sym (first-later kind x xs out) ∙ e)
]

-- one list behind another
pub first-append-none : {X : Type 0} (kind : X → Bool) (xs ys : List X) → from_first kind xs ≡ [] →
    from_first kind (xs ++ ys) ≡ from_first kind ys
first-append-none kind [] ys e = refl
first-append-none kind (x ∷ xs) ys e = elim (cases_Bool (kind x)) [
  | inl is ↦ let some : x ∷ xs ≡ [] = sym (first-here kind x xs is) ∙ e in absurd (cc)
  | inr out ↦ first-later kind x (xs ++ ys) out ∙ first-append-none kind xs ys (sym (first-later kind x xs out) ∙ e)
]

pub first-append-some : {X : Type 0} (kind : X → Bool) (xs ys : List X) (z : X) (zs : List X) →
    from_first kind xs ≡ z ∷ zs → from_first kind (xs ++ ys) ≡ z ∷ (zs ++ ys)
first-append-some kind [] ys z zs e = absurd (cc)
first-append-some kind (x ∷ xs) ys z zs e = elim (cases_Bool (kind x)) [
  | inl is ↦ first-here kind x (xs ++ ys) is ∙ ap (λ (l : List _). l ++ ys) (sym (first-here kind x xs is) ∙ e)
  | inr out ↦ first-later kind x (xs ++ ys) out
      ∙ first-append-some kind xs ys z zs (sym (first-later kind x xs out) ∙ e)
]

pub first-rest-none : {X : Type 0} (kind : X → Bool) (xs ys : List X) → from_first kind (xs ++ ys) ≡ [] →
    from_first kind ys ≡ []
first-rest-none kind [] ys e = e
first-rest-none kind (x ∷ xs) ys e = elim (cases_Bool (kind x)) [
  | inl is ↦ let some : x ∷ (xs ++ ys) ≡ [] = sym (first-here kind x (xs ++ ys) is) ∙ e in absurd (cc)
  | inr out ↦ first-rest-none kind xs ys (sym (first-later kind x (xs ++ ys) out) ∙ e)
]

-- each element made into another
pub first-map : {X Y : Type 0} (f : X → Y) (kind : Y → Bool) (same : X → Bool) (xs : List X) →
    All (λ x. kind (f x) ≡ same x) xs → from_first kind (map f xs) ≡ map f (from_first same xs)
first-map f kind same [] all = refl
first-map f kind same (x ∷ xs) all =
    let here : kind (f x) ≡ same x = All-head (λ y. kind (f y) ≡ same y) x xs all in
    elim (cases_Bool (same x)) [
      | inl is ↦ first-here kind (f x) (map f xs) (here ∙ is) ∙ ap (map f) (sym (first-here same x xs is))
      | inr out ↦
          first-later kind (f x) (map f xs) (here ∙ out)
          ∙ first-map f kind same xs (All-tail (λ y. kind (f y) ≡ same y) x xs all)
          ∙ ap (map f) (sym (first-later same x xs out))
    ]

-- lists made of elements, where only some elements lead to one of the kind
pub first-flat_map : {X Y : Type 0} (f : X → List Y) (kind : Y → Bool) (holds : X → Bool) (xs : List X) →
    ((x : X) → holds x ≡ false → from_first kind (f x) ≡ []) →
    from_first kind (flat_map f xs) ≡ from_first kind (flat_map f (from_first holds xs))
first-flat_map f kind holds [] none = refl
first-flat_map f kind holds (x ∷ xs) none = elim (cases_Bool (holds x)) [
  | inl is ↦ ap (λ (l : List _). from_first kind (flat_map f l)) (sym (first-here holds x xs is))
  | inr out ↦
      first-append-none kind (f x) (flat_map f xs) (none x out)
      ∙ first-flat_map f kind holds xs none
      ∙ ap (λ (l : List _). from_first kind (flat_map f l)) (sym (first-later holds x xs out))
]

pub first-filter-none : {X Y : Type 0} (f : X → List Y) (kind : Y → Bool) (test : X → Bool) (xs : List X) →
    ((x : X) → test x ≡ true → from_first kind (f x) ≡ []) →
    from_first kind (flat_map f (filter test xs)) ≡ []
first-filter-none f kind test [] none = refl
first-filter-none f kind test (x ∷ xs) none = elim (cases_Bool (test x)) [
  | inl is ↦
      ap (λ (b : Bool). from_first kind (flat_map f (cond b (x ∷ filter test xs) (filter test xs)))) is
      ∙ first-append-none kind (f x) (flat_map f (filter test xs)) (none x is)
      ∙ first-filter-none f kind test xs none
  | inr out ↦
      ap (λ (b : Bool). from_first kind (flat_map f (cond b (x ∷ filter test xs) (filter test xs)))) out
      ∙ first-filter-none f kind test xs none
]

-- none is of the kind
pub first-none : {X : Type 0} (kind : X → Bool) (xs : List X) → filter kind xs ≡ [] → from_first kind xs ≡ []
first-none kind [] e = refl
first-none kind (x ∷ xs) e = elim (cases_Bool (kind x)) [
  | inl is ↦ let some : x ∷ filter kind xs ≡ [] = sym (ap (λ (b : Bool). cond b (x ∷ filter kind xs) (filter kind xs))
      is) ∙ e in absurd (cc)
  | inr out ↦ first-later kind x xs out ∙ first-none kind xs (sym
      (ap (λ (b : Bool). cond b (x ∷ filter kind xs) (filter kind xs)) out) ∙ e)
]

-- what passed one test
pub first-passes : {X : Type 0} (kind test : X → Bool) (xs : List X) (y : X) (ys : List X) →
    from_first kind (filter test xs) ≡ y ∷ ys → test y ≡ true
first-passes kind test [] y ys e = absurd (cc)
first-passes kind test (x ∷ xs) y ys e = elim (cases_Bool (test x)) [
  | inr out ↦ first-passes kind test xs y ys
      (sym (ap (λ (b : Bool). from_first kind (cond b (x ∷ filter test xs) (filter test xs))) out) ∙ e)
  | inl is ↦
      let kept : from_first kind (x ∷ filter test xs)
      ≡ y ∷ ys = sym (ap (λ (b : Bool). from_first kind (cond b (x ∷ filter test xs) (filter test xs))) is) ∙ e in
      elim (cases_Bool (kind x)) [
        | inl has ↦ let same : x ∷ filter test xs ≡ y ∷ ys = sym (first-here kind x (filter test xs) has)
            ∙ kept in let first : x ≡ y = cc in ap test (sym first) ∙ is
        | inr lacks ↦ first-passes kind test xs y ys (sym (first-later kind x (filter test xs) lacks) ∙ kept)
      ]
]
