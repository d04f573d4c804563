use Rattle.std.proofs.Common.{◌≡◌, ◌++◌, drop}
use Rattle.std.specs.Prelude.{map}
use Rattle.ps_readings.proofs.choices.members_at.Given as goal

abbrev pub invariant-loop-object : goal.invariant-loop-object
invariant-loop-object l = l.choices.items ++ map (λ object.
    (l.at, object)) (drop l.object-index l.objects) ≡ map (λ object. (l.at, object)) l.objects
