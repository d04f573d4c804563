-- What all elements of a list have, and those of the lists that are made of it.
use Rattle.std.proofs.Common.{◌≡◌, ℕ, Bool, true, false, cond, Option, Some, None, List, [], ◌∷◌, map, get_or}
use mathlib.Core.Path.{subst}
use Rattle.std.specs.Prelude.{All, IfSome, slice_get}
use Rattle.std.specs.List.{flat_map, filter_map, cons_option, onto_first, slice_split}
use Rattle.std.proofs.lemmas.Option.{slice_get_within, get_or_from_slice_get}
use Rattle.std.proofs.lemmas.List.Elements.{All-nil, All-cons, All-head, All-tail, All-append, All-map, All-weaker}

-- what two values have, the one that a test picks has
pub either_way : {A : Type 0} (P : A → Type 0) (test : Bool) (first second : A) → P first → P second →
    P (elim test [ true ↦ first | false ↦ second ])
either_way P true first second p q = p
either_way P false first second p q = q

pub either_one : {A : Type 0} (P : A → Type 0) (test : Bool) (first second : A) → P first → P second →
    P (cond test first second)
either_one P true first second p q = p
either_one P false first second p q = q

-- what everything has
pub All-always : {X : Type 0} (P : X → Type 0) (xs : List X) → ((x : X) → P x) → All P xs
All-always P xs h k d within = h (get_or xs k d)

-- what is read of a list
pub All-slice_get : {X : Type 0} (P : X → Type 0) (xs : List X) (i : ℕ) (x : X) → All P xs → slice_get xs i ≡ Some x →
    P x
All-slice_get P xs i x all e = subst P (get_or_from_slice_get xs i x x e) (all i x (slice_get_within xs i x e))

-- what comes of elements of one kind
pub All-mapped : {X Y : Type 0} (P : Y → Type 0) (Q : X → Type 0) (f : X → Y) (xs : List X) →
    ((x : X) → Q x → P (f x)) → All Q xs → All P (map f xs)
All-mapped P Q f xs h all = All-map P f xs (All-weaker Q (λ x. P (f x)) h xs all)

-- the lists that come of elements of one kind, joined
pub All-flat_map : {X Y : Type 0} (P : Y → Type 0) (Q : X → Type 0) (f : X → List Y) (xs : List X) →
    ((x : X) → Q x → All P (f x)) → All Q xs → All P (flat_map f xs)
All-flat_map P Q f [] h all = All-nil P
All-flat_map P Q f (x ∷ xs) h all = All-append P (f x) (flat_map f xs) (h x (All-head Q x xs all))
    (All-flat_map P Q f xs h (All-tail Q x xs all))

-- the lists that come of anything, joined
pub All-each : {X Y : Type 0} (P : Y → Type 0) (f : X → List Y) (xs : List X) → ((x : X) → All P (f x)) →
    All P (flat_map f xs)
All-each P f [] h = All-nil P
All-each P f (x ∷ xs) h = All-append P (f x) (flat_map f xs) (h x) (All-each P f xs h)

-- the elements of lists, joined
pub All-joined : {X : Type 0} (P : X → Type 0) (xss : List (List X)) → All (All P) xss → All P (flat_map (λ xs. xs) xss)
All-joined P xss all = All-flat_map P (All P) (λ xs. xs) xss (λ xs h. h) all

onto : {Y : Type 0} (P : Y → Type 0) (o : Option Y) (ys : List Y) → IfSome o P → All P ys → All P (cons_option o ys)
onto P None ys h all = all
onto P (Some y) ys h all = All-cons P y ys h all

-- what comes of some elements of one kind
pub All-filter_map : {X Y : Type 0} (P : Y → Type 0) (Q : X → Type 0) (f : X → Option Y) (xs : List X) →
    ((x : X) → Q x → IfSome (f x) P) → All Q xs → All P (filter_map f xs)
All-filter_map P Q f [] h all = All-nil P
All-filter_map P Q f (x ∷ xs) h all = onto P (f x) (filter_map f xs) (h x (All-head Q x xs all))
    (All-filter_map P Q f xs h (All-tail Q x xs all))

All-onto_first : {X : Type 0} (P : X → Type 0) (x : X) (parts : List (List X)) → P x → All (All P) parts →
    All (All P) (onto_first x parts)
All-onto_first P x [] p all = All-cons (All P) (x ∷ []) [] (All-cons P x [] p (All-nil P)) (All-nil (All P))
All-onto_first P x (part ∷ parts) p all =
    All-cons (All P) (x ∷ part) parts (All-cons P x part p (All-head (All P) part parts all))
    (All-tail (All P) part parts all)

-- the pieces of a list that is cut
pub All-slice_split : {X : Type 0} (P : X → Type 0) (cuts : X → Bool) (xs : List X) → All P xs →
    All (All P) (slice_split cuts xs)
All-slice_split P cuts [] all = All-cons (All P) [] [] (All-nil P) (All-nil (All P))
All-slice_split P cuts (x ∷ xs) all =
    let rest : All (All P) (slice_split cuts xs) = All-slice_split P cuts xs (All-tail P x xs all) in
    either_one (All (All P)) (cuts x) ([] ∷ slice_split cuts xs) (onto_first x (slice_split cuts xs))
    (All-cons (All P) [] (slice_split cuts xs) (All-nil P) rest)
    (All-onto_first P x (slice_split cuts xs) (All-head P x xs all) rest)
