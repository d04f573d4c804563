use Rattle.std.proofs.Common.{◌≤◌}
use Rattle.ps_cases.proofs.difference.line_start.Given as goal

abbrev pub invariant-loop-at : goal.invariant-loop-at
invariant-loop-at l = l.start ≤ l.at
