-- One of each: list by list, in two stages, and counted.
use Rattle.std.proofs.Common.{◌≡◌, ℕ, ◌+◌, ◌*◌, List, [], ◌∷◌, ◌++◌, length, map, refl, sym, ◌∙◌, ap, arith}
use Rattle.std.proofs.Common.{append_assoc, length-append}
use Rattle.std.specs.List.{flat_map}
use Rattle.std.proofs.lemmas.Grind.{flat_map-append}
use Rattle.std.proofs.lemmas.List.{map-append, append-nil, length-map, map-id}
use Rattle.std.proofs.lemmas.List.Folds.{flat_map-map}
use Rattle.std.proofs.lemmas.Simd.{map-map}
use mathlib.Core.Path.{fun_ext}
use Rattle.ps_model.specs.meaning.Readings.{one_of_each, ways}
use Rattle.ps_laws.specs.Stages.{split_by, split_all}

-- maps of maps --------------------------------------------------------------------------------------------------------

pub map-flat_map : {A B C : Type 0} (g : B → C) (f : A → List B) (items : List A) →
    map g (flat_map f items) ≡ flat_map (λ item. map g (f item)) items
map-flat_map g f [] = refl
map-flat_map g f (item ∷ items) = map-append g (f item) (flat_map f items)
    ∙ ap (λ l. map g (f item) ++ l) (map-flat_map g f items)

pub flat_map-flat_map : {A B C : Type 0} (g : B → List C) (f : A → List B) (items : List A) →
    flat_map g (flat_map f items) ≡ flat_map (λ item. flat_map g (f item)) items
flat_map-flat_map g f [] = refl
flat_map-flat_map g f (item ∷ items) = flat_map-append g (f item) (flat_map f items)
    ∙ ap (λ l. flat_map g (f item) ++ l) (flat_map-flat_map g f items)

-- the same function under a map
pub same_map : {A B : Type 0} (f g : A → B) → ((item : A) → f item ≡ g item) → (items : List A) →
    map f items ≡ map g items
same_map f g same items = ap (λ (h : _ → _). map h items) (fun_ext same)

pub same_flat_map : {A B : Type 0} (f g : A → List B) → ((item : A) → f item ≡ g item) → (items : List A) →
    flat_map f items ≡ flat_map g items
same_flat_map f g same [] = refl
same_flat_map f g same (item ∷ items) = ap (λ l. l ++ flat_map f items) (same item)
    ∙ ap (λ l. g item ++ l) (same_flat_map f g same items)

-- each item for itself
pub flat_map-each : {A : Type 0} (items : List A) → flat_map (λ item. item ∷ []) items ≡ items
flat_map-each [] = refl
flat_map-each (item ∷ items) = ap (λ l. item ∷ l) (flat_map-each items)

-- one of each ---------------------------------------------------------------------------------------------------------

-- one of each of two lists of lists, one after the other
pub one_of_each-append : {A : Type 0} (front behind : List (List A)) →
    one_of_each (front ++ behind) ≡ flat_map (λ first.
    map (λ second. first ++ second) (one_of_each behind)) (one_of_each front)
one_of_each-append [] behind = sym (append-nil (map (λ second. second) (one_of_each behind))
    ∙ map-id (one_of_each behind))
one_of_each-append (items ∷ front) behind = same_flat_map _ _ (each (one_of_each-append front behind)) items
    ∙ sym (flat_map-flat_map _ _ items) where
      each : one_of_each (front ++ behind) ≡ flat_map (λ first.
          map (λ second. first ++ second) (one_of_each behind)) (one_of_each front) → (item : _) →
          map (λ rest. item ∷ rest) (one_of_each (front ++ behind))
          ≡ flat_map (λ first. map (λ second. first ++ second) (one_of_each behind))
          (map (λ rest. item ∷ rest) (one_of_each front))
      each shorter item =
          ap (map (λ rest. item ∷ rest)) shorter
          ∙ map-flat_map (λ rest. item ∷ rest) _ (one_of_each front)
          ∙ same_flat_map _ _ (λ first. map-map (λ rest. item ∷ rest) (λ second. first ++ second) (one_of_each behind))
          (one_of_each front)
          ∙ sym (flat_map-map _ (λ rest. item ∷ rest) (one_of_each front))

-- splitting list by list puts one of each after each that is made
pub split_all-is : {A : Type 0} (choices made : List (List A)) →
    split_all choices made ≡ flat_map (λ first. map (λ second. first ++ second) (one_of_each choices)) made
split_all-is [] made = sym (same_flat_map _ _ (λ first. ap (λ l. l ∷ []) (append-nil first)) made ∙ flat_map-each made)
split_all-is (items ∷ others) made =
    split_all-is others (split_by items made)
    ∙ flat_map-flat_map _ _ made
    ∙ same_flat_map _ _ each made where
      each : (first : List _) → flat_map (λ l.
          map (λ second. l ++ second) (one_of_each others)) (map (λ item. first ++ item ∷ []) items)
          ≡ map (λ second. first ++ second) (flat_map (λ item. map (λ rest. item ∷ rest) (one_of_each others)) items)
      each first =
          flat_map-map _ (λ item. first ++ item ∷ []) items
          ∙ same_flat_map _ _ (λ item. same_map _ _ (λ second.
          append_assoc first (item ∷ []) second) (one_of_each others)
          ∙ sym (map-map (λ second. first ++ second) (λ rest. item ∷ rest) (one_of_each others))) items
          ∙ sym (map-flat_map (λ second. first ++ second) _ items)

-- splitting from nothing makes one of each
pub split_all-one_of_each : {A : Type 0} (choices : List (List A)) → split_all choices ([] ∷ []) ≡ one_of_each choices
split_all-one_of_each choices = split_all-is choices ([] ∷ [])
    ∙ append-nil (map (λ second. second) (one_of_each choices)) ∙ map-id (one_of_each choices)

-- counts --------------------------------------------------------------------------------------------------------------

-- as many from each
pub length-flat_map_same : {A B : Type 0} (f : A → List B) (count : ℕ) → ((item : A) → length (f item) ≡ count) →
    (items : List A) → length (flat_map f items) ≡ length items * count
length-flat_map_same f count same [] = omega arith
length-flat_map_same f count same (item ∷ items) =
    length-append (f item) (flat_map f items) ∙ ap (λ n. n + length (flat_map f items)) (same item)
    ∙ ap (λ n. count + n) (length-flat_map_same f count same items) ∙ omega arith

pub length-one_of_each : {A : Type 0} (choices : List (List A)) → length (one_of_each choices) ≡ ways choices
length-one_of_each [] = refl
length-one_of_each (items ∷ others) = length-flat_map_same _ (ways others) (λ item.
    length-map (one_of_each others) (λ rest. item ∷ rest) ∙ length-one_of_each others) items
