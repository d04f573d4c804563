-- Faults that are picked from others: of each of several lists the first.
use Rattle.std.proofs.Common.{◌≡◌, ◌∙◌, ◌⊎◌, inl, inr, ◌<◌, ◌++◌, ◌∷◌, ℕ, zero, suc, List, [], length, refl, sym, ap}
use Rattle.std.proofs.Common.{arith}
use Rattle.std.specs.Prelude.{option_to_list, slice_index_or}
use Rattle.std.specs.List.{IsAmong}
use Rattle.ps_model.specs.declared.faults.Fault.{Fault}
use Rattle.ps_model.specs.text.Faults.{first_fault}

-- a fault is one of these
abbrev pub Has : List Fault → Fault → Type 0
Has [] fault = ⊥
Has (first ∷ others) fault = (first ≡ fault) ⊎ Has others fault

pub has-among : (faults : List Fault) (fault : Fault) → Has faults fault → IsAmong faults fault
has-among [] fault has = absurd has
has-among (first ∷ others) fault (inl same) = (zero, (omega arith, sym same))
has-among (first ∷ others) fault (inr has) =
    let among : IsAmong others fault = has-among others fault has in
    (suc among.0, (omega (arith, among.1.0), among.1.1))

has-at : (faults : List Fault) (fault : Fault) (i : ℕ) → i < length faults →
    fault ≡ slice_index_or faults i fault → Has faults fault
has-at [] fault i less e = absurd (omega (arith, less))
has-at (first ∷ others) fault zero less e = inl (sym e)
has-at (first ∷ others) fault (suc i) less e = inr (has-at others fault i (omega (arith, less)) e)

pub among-has : (faults : List Fault) (fault : Fault) → IsAmong faults fault → Has faults fault
among-has faults fault among = has-at faults fault among.0 among.1.0 among.1.1

pub has-left : (xs ys : List Fault) (fault : Fault) → Has xs fault → Has (xs ++ ys) fault
has-left [] ys fault has = absurd has
has-left (x ∷ xs) ys fault (inl same) = inl same
has-left (x ∷ xs) ys fault (inr has) = inr (has-left xs ys fault has)

pub has-right : (xs ys : List Fault) (fault : Fault) → Has ys fault → Has (xs ++ ys) fault
has-right [] ys fault has = has
has-right (x ∷ xs) ys fault has = inr (has-right xs ys fault has)

-- all of these are among those
abbrev pub AreOf : List Fault → List Fault → Type 0
AreOf picked all = (fault : Fault) → Has picked fault → Has all fault

pub same-are : (faults : List Fault) → AreOf faults faults
same-are faults fault has = has

-- parts of parts
pub joined-are : (xs xs' ys ys' : List Fault) → AreOf xs xs' → AreOf ys ys' → AreOf (xs ++ ys) (xs' ++ ys')
joined-are [] xs' ys ys' front behind fault has = has-right xs' ys' fault (behind fault has)
joined-are (x ∷ xs) xs' ys ys' front behind fault (inl same) = has-left xs' ys' fault (front fault (inl same))
joined-are (x ∷ xs) xs' ys ys' front behind fault (inr has) =
    joined-are xs xs' ys ys' (λ f h. front f (inr h)) behind fault has

-- the first alone
pub first-is : (faults : List Fault) → AreOf (option_to_list (first_fault faults)) faults
first-is [] fault has = absurd has
first-is (first ∷ others) fault (inl same) = inl same
first-is (first ∷ others) fault (inr has) = absurd has

pub first-joined : (xs ys ys' : List Fault) → AreOf ys ys' →
    AreOf (option_to_list (first_fault xs) ++ ys) (xs ++ ys')
first-joined xs ys ys' behind =
    joined-are (option_to_list (first_fault xs)) xs ys ys' (first-is xs) behind

-- the first of both is the same
pub first-same : (xs ys ys' : List Fault) → first_fault ys ≡ first_fault ys' →
    first_fault (option_to_list (first_fault xs) ++ ys) ≡ first_fault (xs ++ ys')
first-same [] ys ys' e = e
first-same (x ∷ xs) ys ys' e = refl

pub front-same : (xs xs' ys ys' : List Fault) → first_fault xs ≡ first_fault xs' → first_fault ys ≡ first_fault ys' →
    first_fault (xs ++ ys) ≡ first_fault (xs' ++ ys')
front-same [] [] ys ys' e f = f
front-same [] (x ∷ xs') ys ys' e f = absurd (let h = e in cc)
front-same (x ∷ xs) [] ys ys' e f = absurd (let h = e in cc)
front-same (x ∷ xs) (y ∷ xs') ys ys' e f = e
