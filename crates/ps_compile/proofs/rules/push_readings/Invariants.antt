use Rattle.std.proofs.Common.{◌≡◌, ◌++◌, length}
use Rattle.std.specs.Prelude.{map, filter}
use Rattle.ps_model.specs.meaning.CompiledRules.{rule_by}
use Rattle.ps_compile.specs.CompactPrograms.{compact, compact_rules}
use Rattle.ps_model.specs.meaning.ReadingMeanings.{is_possible}
use Rattle.ps_readings.specs.ReadingsLeft.{readings_left}
use Rattle.ps_program.specs.ProgramShown.{rules_shown}
use Rattle.ps_compile.proofs.rules.push_readings.Given as goal

abbrev pub invariant-loop-readings : goal.invariant-loop-readings
invariant-loop-readings l =
    rules_shown l.rules.items ++ compact l.names (map (rule_by l.names l.occurrences)
    (filter (is_possible l.names l.occurrences) (readings_left l.readings)))
    ≡ rules_shown l.initial.rules.items ++ compact_rules l.names l.occurrences

abbrev pub decreases-loop-readings : goal.decreases-loop-readings
decreases-loop-readings l = length (readings_left l.readings)
