use Rattle.ps_causes.proofs.wholes.one_layer_cause.Goals as goal

pub two_on_layer-requires : goal.two_on_layer-requires
two_on_layer-requires c = rw c.deref.ensures.value c.in_ok-words.ensures.each
