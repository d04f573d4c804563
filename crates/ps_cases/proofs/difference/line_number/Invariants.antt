use Rattle.std.proofs.Common.{◌≡◌, ◌≤◌, ◌+◌, ◌==◌, take, length, filter}
use Rattle.ps_cases.proofs.difference.line_number.Given as goal

abbrev pub invariant-loop-at : goal.invariant-loop-at
invariant-loop-at l = (l.number ≤ l.at + 1) × (l.number ≡ length (filter (λ byte. byte == 10) (take l.at l.front)) + 1)
