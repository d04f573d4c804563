use Rattle.ps_causes.proofs.slip_causes.slip_cause.Goals as goal

pub slips_told-requires-clause-each : goal.slips_told-requires-clause-each
slips_told-requires-clause-each c = rw c.deref.ensures.value c.in_ok-words.ensures.each
