use Rattle.std.proofs.Common.{◌≡◌, length}
use Rattle.ps_model.specs.names.NameFaults.{layers_among, repeat}
use Rattle.ps_names.proofs.whole.repeat.Given as goal

abbrev pub invariant-loop-first : goal.invariant-loop-first
invariant-loop-first l = repeat (layers_among l.layers l.rest) ≡ repeat (layers_among l.layers l.objects)

abbrev pub decreases-loop-first : goal.decreases-loop-first
decreases-loop-first l = length l.rest
