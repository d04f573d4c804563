use Rattle.std.proofs.Common.{◌∙◌, ◌++◌, ap, map}
use Rattle.ps_model.specs.meaning.Readings.{Reading}
use Rattle.ps_readings.specs.ReadingsLeft.{made_last, readings_left}
use Rattle.ps_readings.proofs.TurnedReadings.{one-taken}
use Rattle.ps_compile.specs.PossibleRules.{rule_if}
use Rattle.ps_origins.specs.Origins.{busy, origin_of}
use Rattle.ps_origins.proofs.OriginsMade.{read_more}
use Rattle.ps_origins.proofs.origins.push_readings.Goals as goal

pub loop-readings-preserved : goal.loop-readings-preserved
loop-readings-preserved c =
    read_more c.args.names.now c.args.occurrences.now (made_last c.next.new.self) (readings_left c.next.new.self)
    (readings_left c.loop-readings.readings) c.loop-readings.origins.items c.push_origin.new.origins.items _
    (one-taken c.in_ok-next.field-0 _ _ _ c.in_ok-next.ensures c.if-branch.true)
    (c.in_ok-push_origin.ensures ∙ ap (λ (r : Reading).
    c.loop-readings.origins.items ++ map (origin_of c.args.occurrences.now)
    (busy c.args.names.now (rule_if c.args.names.now c.args.occurrences.now r))) c.reading.ensures)
    c.loop-readings.invariant
