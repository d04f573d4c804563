use Rattle.std.proofs.Common.{◌≡◌, drop}
use Rattle.ps_names.specs.LayersShown.{placed}
use Rattle.ps_names.proofs.layers.place_each.Given as goal

abbrev pub invariant-loop-object : goal.invariant-loop-object
invariant-loop-object l = placed l.layer l.places (drop l.object-index l.objects) ≡ placed l.layer l.initial.places
    l.objects
