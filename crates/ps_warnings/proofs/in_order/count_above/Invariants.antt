use Rattle.std.proofs.Common.{◌≡◌, ◌+◌, drop}
use Rattle.ps_warnings.specs.InOrder.{count_above}
use Rattle.ps_warnings.proofs.in_order.count_above.Given as goal

-- those passed by are of lines above
abbrev pub invariant-loop-at : goal.invariant-loop-at
invariant-loop-at l = l.at + count_above l.line (drop l.at l.told) ≡ count_above l.line l.told
