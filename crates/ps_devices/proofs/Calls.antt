-- What one call adds to the count of calls.
use Rattle.std.proofs.Common.{◌≡◌, ℕ, ◌+◌, ◌<◌, ◌≤◌, inl, inr, true, false, arith}
use Rattle.std.proofs.lemmas.Bool.{cases_lt}

-- a call that didn't fail is one more
pub one_call : (old new most : ℕ) → (old < most → new ≡ old + 1) → (most ≤ old → false ≡ true) → new ≡ old + 1
one_call old new most counted worn = elim (cases_lt old most)
    [ inl below ↦ counted below | inr above ↦ (let e : false ≡ true = worn above in cc) ]

-- a call is one more at most
pub one_at_most : (old new most : ℕ) → (old < most → new ≡ old + 1) → (most ≤ old → new ≡ old) → new ≤ old + 1
one_at_most old new most counted held =
    elim (cases_lt old most) [
      | inl below ↦ (let e : new ≡ old + 1 = counted below in
          omega arith)
      | inr above ↦ (let e : new ≡ old = held above in omega arith)
    ]

-- no call takes from the count
pub never_less : (old new most : ℕ) → (old < most → new ≡ old + 1) → (most ≤ old → new ≡ old) → old ≤ new
never_less old new most counted held =
    elim (cases_lt old most) [
      | inl below ↦ (let e : new ≡ old + 1 = counted below in
          omega arith)
      | inr above ↦ (let e : new ≡ old = held above in omega arith)
    ]

-- one call more, where all calls before it took less than they were handed
pub few_more : (old_calls calls new_calls old_short short new_short : ℕ) → calls + old_short ≤ old_calls + short →
    new_calls ≤ calls + 1 → short ≤ new_short → new_calls + old_short ≤ old_calls + (1 + new_short)
few_more old_calls calls new_calls old_short short new_short so_far one more = omega arith

-- and it took less, too
pub short_more : (old_calls calls new_calls old_short short new_short : ℕ) → calls + old_short ≤ old_calls + short →
    new_calls ≡ calls + 1 → new_short ≡ short + 1 → new_calls + old_short ≤ old_calls + new_short
short_more old_calls calls new_calls old_short short new_short so_far one more = omega arith
