use Rattle.std.proofs.Common.{◌≡◌, drop}
use Rattle.std.specs.Prelude.{nat_eq, find}
use Rattle.ps_model.specs.names.Names.{layer_of}
use Rattle.ps_levels.proofs.ground.object_on.Given as goal

abbrev pub invariant-loop-object : goal.invariant-loop-object
invariant-loop-object l = find (λ object. nat_eq (layer_of l.names object) l.layer) (drop l.object-index l.objects) ≡
    find (λ object. nat_eq (layer_of l.names object) l.layer) l.objects
