use Rattle.ps_causes.specs.Loops.{IsLastAbove}
use Rattle.ps_causes.proofs.loops.last_above.Given as goal

-- of the lines passed by the last one that begins or ends a loop is found
abbrev pub invariant-loop-above : goal.invariant-loop-above
invariant-loop-above l = IsLastAbove l.source l.above l.last
