-- Numbers one below another: what arithmetic finds at once in a lemma, and long where much else is known.
use Rattle.std.proofs.Common.{ℕ, ◌<◌, ◌≤◌, arith}

pub less_up : (a b c : ℕ) → a < b → b ≤ c → a < c
less_up a b c first second = omega arith

pub two_up : (a b c : ℕ) → a ≤ b → b ≤ c → a ≤ c
two_up a b c first second = omega arith
