use Rattle.std.proofs.Common.{◌≡◌, ◌≤◌, None, length, map, take, drop}
use Rattle.ps_readings.specs.Wheels.{at_first, next_wheels}
use Rattle.ps_readings.proofs.ways.turn_to_next.Given as goal

abbrev pub invariant-loop-place : goal.invariant-loop-place
invariant-loop-place g l =
    record {
      within : l.place ≤ length l.initial.wheels.items;
      long : length l.wheels.items ≡ length l.initial.wheels.items;
      front : take l.place l.wheels.items ≡ take l.place l.initial.wheels.items;
      behind : drop l.place l.wheels.items ≡ map at_first (drop l.place l.initial.wheels.items);
      none : next_wheels (drop l.place l.initial.wheels.items) ≡ None;
    }

abbrev pub decreases-loop-place : goal.decreases-loop-place
decreases-loop-place g l = l.place
