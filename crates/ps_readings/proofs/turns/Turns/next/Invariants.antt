use Rattle.std.proofs.Common.{◌≡◌, ◌-◌, length}
use Rattle.ps_readings.specs.TurnsLeft.{turns_left}
use Rattle.ps_readings.proofs.turns.Turns.next.Given as goal

abbrev pub invariant-loop-self : goal.invariant-loop-self
invariant-loop-self l = turns_left l.self ≡ turns_left l.initial.self

abbrev pub decreases-loop-self : goal.decreases-loop-self
decreases-loop-self l = length l.self.directions.items - l.self.faced
