use Rattle.std.proofs.Common.{◌≡◌, ◌++◌, drop}
use Rattle.ps_readings.specs.Wheels.{way_shown}
use Rattle.ps_readings.proofs.ways.push_shown.Given as goal

abbrev pub invariant-loop-wheel : goal.invariant-loop-wheel
invariant-loop-wheel g l = l.way.items ++ way_shown (drop l.wheel-index l.wheels) ≡ l.initial.way.items ++ way_shown
    l.wheels
