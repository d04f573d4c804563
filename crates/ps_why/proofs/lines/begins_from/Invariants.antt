use Rattle.std.proofs.Common.{◌≡◌, drop}
use Rattle.ps_why.specs.Lines.{begins_from}
use Rattle.ps_why.proofs.lines.begins_from.Given as goal

-- no character begins in what has been passed by
abbrev pub invariant-loop-at : goal.invariant-loop-at
invariant-loop-at l = begins_from l.at (drop l.at l.bytes) ≡ begins_from l.from (drop l.from l.bytes)
