-- Tests: joined in another order, one after another, two that imply each other, and one of two numbers turned round.
use Rattle.std.proofs.Common.{◌≡◌, ℕ, Bool, true, false, ◌||◌, refl, sym, ◌∙◌}
use Rattle.std.specs.Prelude.{nat_eq}
use Rattle.std.proofs.lemmas.Bool.{eqb-true, eq-eqb, false≢true}

-- what can't be
pub impossible : {X : Type 0} → false ≡ true → X
impossible clash = absurd (false≢true clash)

pub or_across : (a b c d : Bool) → ((a || b) || (c || d)) ≡ ((a || c) || (b || d))
or_across true b c d = refl
or_across false true true d = refl
or_across false true false d = refl
or_across false false c d = refl

-- the other of two, where the first fails
pub other_holds : (a b : Bool) → (a || b) ≡ true → a ≡ false → b ≡ true
other_holds true b any e = absurd (false≢true (sym e))
other_holds false b any e = any

-- one test, and another if that holds
abbrev pub and_then : Bool → Bool → Bool
and_then first second = elim first [ true ↦ second | false ↦ false ]

pub first-false : (first second : Bool) → first ≡ false → and_then first second ≡ false
first-false first second e = rw e refl

pub second-false : (first second : Bool) → second ≡ false → and_then first second ≡ false
second-false true second e = e
second-false false second e = refl

pub both-hold : (first second : Bool) → and_then first second ≡ true → (first ≡ true) × (second ≡ true)
both-hold true second e = (refl, e)
both-hold false second e = absurd (false≢true e)

-- two tests that imply each other
pub same_tests : (a b : Bool) → (a ≡ true → b ≡ true) → (b ≡ true → a ≡ true) → a ≡ b
same_tests true b forth back = sym (forth refl)
same_tests false true forth back = back refl
same_tests false false forth back = refl

-- the first is the second as the second is the first
pub equal_so : (a b : ℕ) (x y : Bool) → nat_eq a b ≡ x → nat_eq b a ≡ y → x ≡ y
equal_so a b true y e f = sym (eq-eqb b a (sym (eqb-true a b e))) ∙ f
equal_so a b false true e f = sym e ∙ eq-eqb a b (sym (eqb-true b a f))
equal_so a b false false e f = refl
