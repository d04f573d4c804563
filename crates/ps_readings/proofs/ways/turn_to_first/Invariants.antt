use Rattle.std.proofs.Common.{◌≡◌, ◌++◌, map, take, drop}
use Rattle.ps_readings.specs.Wheels.{at_first}
use Rattle.ps_readings.proofs.ways.turn_to_first.Given as goal

abbrev pub invariant-loop-place : goal.invariant-loop-place
invariant-loop-place g l = l.wheels.items ≡ map at_first (take l.place l.initial.wheels.items) ++ drop l.place
    l.initial.wheels.items
