-- Products of counts that stop at one more than a rule may have.
use Rattle.std.proofs.Common.{◌≡◌, ℕ, zero, suc, ◌+◌, ◌*◌, ◌<◌, Bool, true, false, refl, sym, ap, ◌∙◌, arith}
use Rattle.std.specs.Prelude.{nat_lt}
use Rattle.std.proofs.lemmas.Bool.Decides.{nat_tests}
use Rattle.std.proofs.Math.Nat.{mul_assoc, mul_comm}
use Rattle.ps_model.specs.declared.limits.TheConstants.{RULE_READINGS_LIMIT}
use Rattle.ps_readings.specs.Counted.{counted}

-- what is over the limit is counted no further
over : (n : ℕ) → RULE_READINGS_LIMIT < n → counted n ≡ RULE_READINGS_LIMIT + 1
over n more = let e : nat_lt RULE_READINGS_LIMIT n ≡ true = grind (arith, nat_tests) in rw e refl

-- counting twice is counting once
twice_by : (n : ℕ) (many : Bool) → nat_lt RULE_READINGS_LIMIT n ≡ many → counted (counted n) ≡ counted n
twice_by n true e = let c : counted n ≡ RULE_READINGS_LIMIT + 1 = rw e refl in rw c refl
twice_by n false e = let c : counted n ≡ n = rw e refl in ap counted c

pub counted-twice : (n : ℕ) → counted (counted n) ≡ counted n
counted-twice n = twice_by n _ refl

-- a factor may be counted before
left_by : (a b : ℕ) (many : Bool) → nat_lt RULE_READINGS_LIMIT a ≡ many → counted (counted a * b) ≡ counted (a * b)
left_by a b false e = let c : counted a ≡ a = rw e refl in ap (λ (n : ℕ). counted (n * b)) c
left_by a zero true e = let p : counted a * 0 ≡ a * 0 = omega arith in ap counted p
left_by a (suc b) true e =
    let c : counted a ≡ RULE_READINGS_LIMIT + 1 = rw e refl in
    let more : RULE_READINGS_LIMIT < a = grind (arith, nat_tests) in
    let p : RULE_READINGS_LIMIT < (RULE_READINGS_LIMIT + 1) * suc b = omega arith in
    let q : a * suc b ≡ a + a * b = omega arith in
    ap (λ (n : ℕ). counted (n * suc b)) c ∙ over ((RULE_READINGS_LIMIT + 1) * suc b) p
    ∙ sym (over (a * suc b) (omega arith))

pub counted-left : (a b : ℕ) → counted (counted a * b) ≡ counted (a * b)
counted-left a b = left_by a b _ refl

pub counted-right : (a b : ℕ) → counted (a * counted b) ≡ counted (a * b)
counted-right a b = ap counted (mul_comm a (counted b)) ∙ counted-left b a ∙ ap counted (mul_comm b a)

-- the next factor
pub counted-step : (a w next counts rest : ℕ) → next ≡ counted (a * w) → w ≡ counted counts →
    counted (next * rest) ≡ counted (a * (counts * rest))
counted-step a w next counts rest e d =
    ap (λ (n : ℕ). counted (n * rest)) (e ∙ ap (λ (n : ℕ). counted (a * n)) d ∙ counted-right a counts)
    ∙ counted-left (a * counts) rest ∙ ap counted (mul_assoc a counts rest)

-- the product of two counts
pub counted-both : (a b m n : ℕ) → a ≡ counted m → b ≡ counted n → counted (a * b) ≡ counted (m * n)
counted-both a b m n e d = ap (λ (n : ℕ). counted (n * b)) e ∙ counted-left m b ∙ ap (λ (n : ℕ). counted (m * n)) d
    ∙ counted-right m n

-- a count that stops where it should is counted already
pub counted-already : (next n : ℕ) → next ≡ counted n → counted next ≡ next
counted-already next n e = ap counted e ∙ counted-twice n ∙ sym e
