use Rattle.ps_causes.proofs.wholes.aggregate_cause.Goals as goal

pub first_joined-requires-clause-words : goal.first_joined-requires-clause-words
first_joined-requires-clause-words c = rw c.deref-2.ensures.value c.in_ok-words.ensures.each
