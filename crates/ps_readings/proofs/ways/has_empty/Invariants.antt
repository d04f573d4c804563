use Rattle.std.proofs.Common.{◌≡◌, drop}
use Rattle.ps_readings.specs.Wheels.{has_empty}
use Rattle.ps_readings.proofs.ways.has_empty.Given as goal

abbrev pub invariant-loop-wheel : goal.invariant-loop-wheel
invariant-loop-wheel g l = has_empty (drop l.wheel-index l.wheels) ≡ has_empty l.wheels
