use Rattle.std.proofs.Common.{◌∙◌, ◌++◌, ap}
use Rattle.ps_model.specs.meaning.Readings.{Reading}
use Rattle.ps_program.specs.ProgramShown.{rules_shown}
use Rattle.ps_readings.specs.ReadingsLeft.{made_last, readings_left}
use Rattle.ps_readings.proofs.TurnedReadings.{one-taken}
use Rattle.ps_compile.specs.CompactPrograms.{compact}
use Rattle.ps_compile.specs.PossibleRules.{rule_if}
use Rattle.ps_compile.proofs.MadePieces.{read-more}
use Rattle.ps_compile.proofs.rules.push_readings.Goals as goal

pub loop-readings-preserved : goal.loop-readings-preserved
loop-readings-preserved c =
    read-more c.args.names.now c.args.occurrences.now (made_last c.next.new.self) (readings_left c.next.new.self)
    (readings_left c.loop-readings.readings) (rules_shown c.loop-readings.rules.items)
    (rules_shown c.push_if_possible.new.rules.items) _
    (one-taken c.in_ok-next.field-0 _ _ _ c.in_ok-next.ensures c.if-branch.true)
    (c.in_ok-push_if_possible.ensures ∙ ap (λ (r : Reading).
    rules_shown c.loop-readings.rules.items ++ compact c.args.names.now (rule_if c.args.names.now c.args.occurrences.now r))
    c.reading.ensures)
    c.loop-readings.invariant
