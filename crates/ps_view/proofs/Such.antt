-- Lists whose elements are all such.
use Rattle.std.proofs.Common.{ℕ, ◌+◌, ◌-◌, Bool, true, false, cond, List, [], ◌∷◌, ◌++◌, length, take, drop, arith}
use Rattle.std.specs.Prelude.{All, nat_lt, nat_le}
use Rattle.std.proofs.lemmas.List.Elements.{All-nil, All-cons, All-append, All-take, All-drop}
use Rattle.ps_view.specs.Corners.{edge, part_from}

-- the first element, and the others
pub first_of : {X : Type 0} (P : X → Type 0) (x : X) (xs : List X) → All P (x ∷ xs) → P x
first_of P x xs all = all 0 x (omega arith)

pub others_of : {X : Type 0} (P : X → Type 0) (x : X) (xs : List X) → All P (x ∷ xs) → All P xs
others_of P x xs all = All-drop P 1 (x ∷ xs) all

-- one of two
pub either : {X : Type 0} (P : X → Type 0) (b : Bool) (x y : X) → P x → P y → P (cond b x y)
either P true x y p q = p
either P false x y p q = q

-- a part of a list whose elements and edges are all such
pub part_is_such : {X : Type 0} (P : X → Type 0) (room place : ℕ) (mark blank : X) (items : List X) → P mark → P blank →
    All P items → All P (part_from room place mark blank items)
part_is_such {X = X} P room place mark blank items m b all =
    let before : Bool = nat_lt 0 place in
    let behind : Bool = nat_lt (place + (room - 2)) (length items) in
    let rest : List X = drop place items in
    let shown : List X = take (room - 2) rest in
    let between : List X = (edge mark blank before ∷ shown) ++ edge mark blank behind ∷ [] in
    let such : All P rest = All-drop P place items all in
    either (All P) (nat_le (length items) room) items (cond (nat_lt room 3) (take room rest) between) all
    (either (All P) (nat_lt room 3) (take room rest) between (All-take P room rest such)
    (All-append P (edge mark blank before ∷ shown) (edge mark blank behind ∷ [])
    (All-cons P (edge mark blank before) shown (either P before mark blank m b) (All-take P (room - 2) rest such))
    (All-cons P (edge mark blank behind) [] (either P behind mark blank m b) (All-nil P))))
