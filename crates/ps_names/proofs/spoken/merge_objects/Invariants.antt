use Rattle.std.proofs.Common.{◌≡◌, drop}
use Rattle.ps_names.specs.Flattened.{merged}
use Rattle.ps_names.proofs.spoken.merge_objects.Given as goal

abbrev pub invariant-loop-other : goal.invariant-loop-other
invariant-loop-other l = merged l.objects.items (drop l.other-index l.others) ≡ merged l.initial.objects.items l.others
