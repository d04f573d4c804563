-- Elements of a kind cut a list into parts. These have an element each, where no such element is first, last or right
-- after another one.
use Rattle.std.proofs.Common.{◌≡◌, Bool, true, false, List, [], ◌∷◌, cond, sym, subst, arith}
use Rattle.std.specs.Prelude.{All, ⊤, drop}
use Rattle.std.specs.List.{slice_split, onto_first}
use Rattle.std.proofs.lemmas.List.Elements.{All-nil, All-cons}
use Rattle.ps_laws.specs.WholeRows.{HasCells}

-- a list may go on after an element that cuts, or one that doesn't: after one that cuts there is one that doesn't
abbrev pub GoesOn : {A : Type 0} → (A → Bool) → Bool → List A → Type 0
GoesOn cuts true [] = ⊥
GoesOn cuts false [] = ⊤
GoesOn cuts true (x ∷ xs) = (cuts x ≡ false) × GoesOn cuts false xs
GoesOn cuts false (x ∷ xs) = GoesOn cuts (cuts x) xs

-- the parts that begin after an element: all of them after one that cuts, else those after the first
abbrev begun : {A : Type 0} → Bool → List (List A) → List (List A)
begun true parts = parts
begun false parts = drop 1 parts

-- one more element before the parts
onto-whole : {A : Type 0} (x : A) (parts : List (List A)) → All HasCells (drop 1 parts) →
    All HasCells (onto_first x parts)
onto-whole x [] all = All-cons HasCells (x ∷ []) [] (omega arith) (All-nil HasCells)
onto-whole x (part ∷ parts) all = All-cons HasCells (x ∷ part) parts (omega arith) all

onto-later : {A : Type 0} (x : A) (parts : List (List A)) → All HasCells (drop 1 parts) →
    All HasCells (drop 1 (onto_first x parts))
onto-later x [] all = All-nil HasCells
onto-later x (part ∷ parts) all = all

-- an element that cuts, or one that doesn't, after one that doesn't
later-whole : {A : Type 0} (x : A) (parts : List (List A)) (here : Bool) → All HasCells (begun here parts) →
    All HasCells (drop 1 (cond here ([] ∷ parts) (onto_first x parts)))
later-whole x parts true all = all
later-whole x parts false all = onto-later x parts all

pub parts-whole : {A : Type 0} (cuts : A → Bool) (behind : Bool) (xs : List A) → GoesOn cuts behind xs →
    All HasCells (begun behind (slice_split cuts xs))
parts-whole cuts true [] h = absurd h
parts-whole cuts false [] h = All-nil HasCells
parts-whole cuts true (x ∷ xs) h =
    subst (λ (here : Bool). All HasCells (cond here ([] ∷ slice_split cuts xs) (onto_first x (slice_split cuts xs))))
    (sym h.0)
    (onto-whole x (slice_split cuts xs) (parts-whole cuts false xs h.1))
parts-whole cuts false (x ∷ xs) h = later-whole x (slice_split cuts xs) (cuts x) (parts-whole cuts (cuts x) xs h)
