use Rattle.ps_causes.proofs.wholes.whole_cause.Goals as goal

pub joined_cause-requires-clause-words : goal.joined_cause-requires-clause-words
joined_cause-requires-clause-words c = rw c.deref-2.ensures.value c.in_ok-words.ensures.each

pub layers_cause-requires : goal.layers_cause-requires
layers_cause-requires c = rw c.deref-3.ensures.value c.in_ok-words.ensures.each
