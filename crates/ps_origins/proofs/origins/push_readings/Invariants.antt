use Rattle.std.proofs.Common.{◌≡◌, ◌++◌, length, map}
use Rattle.std.specs.Prelude.{filter}
use Rattle.ps_model.specs.meaning.CompiledRules.{rule_by}
use Rattle.ps_model.specs.meaning.ReadingMeanings.{is_possible}
use Rattle.ps_readings.specs.ReadingsLeft.{readings_left}
use Rattle.ps_origins.specs.Origins.{busy, origin_of, origins_of}
use Rattle.ps_origins.proofs.origins.push_readings.Given as goal

-- the origins that are left to be put last
abbrev pub invariant-loop-readings : goal.invariant-loop-readings
invariant-loop-readings l =
    l.origins.items ++ map (origin_of l.occurrences) (busy l.names (map (rule_by l.names l.occurrences)
    (filter (is_possible l.names l.occurrences) (readings_left l.readings))))
    ≡ l.initial.origins.items ++ origins_of l.names l.occurrences

abbrev pub decreases-loop-readings : goal.decreases-loop-readings
decreases-loop-readings l = length (readings_left l.readings)
