use Rattle.std.proofs.Common.{◌≡◌}
use Rattle.ps_readings.specs.Wheels.{lists_of}
use Rattle.ps_readings.proofs.ways.wheels_of.Given as goal

abbrev pub invariant-loop-items : goal.invariant-loop-items
invariant-loop-items g l = lists_of l.wheels.items ≡ l.yielded
