use Rattle.std.proofs.Common.{◌≡◌, ◌+◌, ◌==◌, not, drop}
use Rattle.std.specs.List.{prefix_len}
use Rattle.ps_text.proofs.regions.comment_start.Given as goal

abbrev pub invariant-loop-at : goal.invariant-loop-at
invariant-loop-at l = l.at + prefix_len (λ byte. not (byte == 40)) (drop l.at l.raw) ≡ l.fn.from + prefix_len (λ byte.
    not (byte == 40)) (drop l.fn.from l.raw)
