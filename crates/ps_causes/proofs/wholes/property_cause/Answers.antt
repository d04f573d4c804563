use Rattle.ps_causes.proofs.wholes.property_cause.Goals as goal

pub first_choice-requires-clause-words : goal.first_choice-requires-clause-words
first_choice-requires-clause-words c = rw c.deref-2.ensures.value c.in_ok-words.ensures.each
