use Rattle.std.proofs.Common.{◌≡◌, length}
use Rattle.ps_engine.proofs.scratch.scratch_of.Given as goal

-- so many scratch are made
abbrev pub invariant-loop-number : goal.invariant-loop-number
invariant-loop-number g l = length l.scratch.items ≡ l._number
