use Rattle.std.proofs.Common.{◌≡◌, ◌++◌, drop}
use Rattle.std.specs.Prelude.{map}
use Rattle.ps_model.specs.meaning.Rewriting.{object_claim}
use Rattle.ps_readings.proofs.claims.push_objects.Given as goal

abbrev pub invariant-loop-object : goal.invariant-loop-object
invariant-loop-object l = l.claims.items ++ map (object_claim l.names l.motion) (drop l.object-index l.objects) ≡
    l.initial.claims.items ++ map (object_claim l.names l.motion) l.objects
