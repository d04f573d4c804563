use Rattle.std.proofs.Common.{◌≡◌, length}
use Rattle.ps_model.specs.meaning.ReadingMeanings.{has_possible}
use Rattle.ps_readings.specs.TriedReadings.{some_is_possible}
use Rattle.ps_readings.specs.Wheels.{ways_left}
use Rattle.ps_readings.proofs.tried.has_possible.Given as goal

abbrev pub invariant-loop-reading : goal.invariant-loop-reading
invariant-loop-reading l = some_is_possible l.names l.occurrences (ways_left l.ways.ended l.ways.wheels.items) ≡
    has_possible l.names l.occurrences

abbrev pub decreases-loop-reading : goal.decreases-loop-reading
decreases-loop-reading l = length (ways_left l.ways.ended l.ways.wheels.items)
