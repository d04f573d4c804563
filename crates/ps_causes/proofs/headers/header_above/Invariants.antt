use Rattle.ps_causes.specs.Causes.{AreHeadersBefore}
use Rattle.ps_causes.proofs.headers.header_above.Given as goal

-- the headers passed by are of sections before that of the line
abbrev pub invariant-loop-above : goal.invariant-loop-above
invariant-loop-above l = AreHeadersBefore l.source l.line l.above
