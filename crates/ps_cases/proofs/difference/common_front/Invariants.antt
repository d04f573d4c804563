use Rattle.std.proofs.Common.{◌≡◌, take}
use Rattle.ps_cases.proofs.difference.common_front.Given as goal

abbrev pub invariant-loop-at : goal.invariant-loop-at
invariant-loop-at l = take l.at l.wanted ≡ take l.at l.written
