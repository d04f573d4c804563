use Rattle.std.proofs.Common.{◌≡◌, drop}
use Rattle.std.specs.Prelude.{find}
use Rattle.ps_warnings.specs.LayerWarnings.{is_elsewhere}
use Rattle.ps_warnings.proofs.layers.first_elsewhere.Given as goal

-- the objects passed by are on the layer
abbrev pub invariant-loop-object : goal.invariant-loop-object
invariant-loop-object l =
    find (is_elsewhere l.names l.layer) (drop l.object-index l.objects) ≡ find (is_elsewhere l.names l.layer) l.objects
