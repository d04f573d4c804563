-- Small steps that the proofs of several functions take.
use Rattle.std.proofs.Common.{◌≡◌, ℕ, ◌+◌, ◌-◌, ◌*◌, ◌<◌, ◌≤◌, Fits, w8, w32, w64, Some, None, true, false, arith}
use Rattle.ps_model.specs.declared.limits.TheConstants.{SIDE_LIMIT}
use Rattle.ps_program.specs.declared.rows.TheConstants.{PART_LIMIT}

-- numbers -------------------------------------------------------------------------------------------------------------

pub at_most : (n m a : ℕ) → n ≡ m → m ≤ a → n ≤ a
at_most n m a e low = omega arith

pub at_least : (a n m : ℕ) → n ≡ m → a ≤ m → a ≤ n
at_least a n m e far = omega arith

pub not_behind : (a b : ℕ) → a < b → a ≤ b
not_behind a b low = omega arith

pub further : (a b : ℕ) → a ≤ a + b
further a b = omega arith

-- what is left to do gets less
pub less_left : (n k : ℕ) → k < n → n - (k + 1) < n - k
less_left n k low = omega arith

pub reached : (k n : ℕ) → n ≤ k → k ≤ n → k ≡ n
reached k n far low = omega arith

-- positions on a board fit --------------------------------------------------------------------------------------------

pub fits_byte : (n : ℕ) → n < SIDE_LIMIT → Fits w8 n
fits_byte n low = omega arith

pub fits_half : (n : ℕ) → n < SIDE_LIMIT → Fits w32 n
fits_half n low = omega arith

pub fits_word : (n : ℕ) → n < SIDE_LIMIT → Fits w64 n
fits_word n low = omega arith

pub fits_both : (n m : ℕ) → n < SIDE_LIMIT → m < SIDE_LIMIT → Fits w32 (n + m)
fits_both n m low few = omega arith

-- what cannot be ------------------------------------------------------------------------------------------------------

pub no_yes : {X : Type 0} → true ≡ false → X
no_yes clash = absurd (cc)

pub no_some : {X Y : Type 0} {x : X} → Some x ≡ None → Y
no_some clash = absurd (cc)

-- lists of a room are long enough -------------------------------------------------------------------------------------

pub has_room : (n : ℕ) → n ≡ SIDE_LIMIT → SIDE_LIMIT ≤ n
has_room n e = omega arith

pub has_scratch : (n : ℕ) → n ≡ PART_LIMIT * SIDE_LIMIT → SIDE_LIMIT ≤ n
has_scratch n e = omega arith
