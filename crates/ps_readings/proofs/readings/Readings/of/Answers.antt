use Rattle.ps_readings.specs.ReadingsShown.{reading_shown}
use Rattle.ps_readings.proofs.TurnedReadings.{begun}
use Rattle.ps_readings.proofs.readings.Readings.of.Goals as goal

pub returns : goal.returns
returns c = begun (reading_shown c.new.result) c.args.names.now c.args.occurrences.now _ _ _ _
    c.in_ok-members.ensures.left c.in_ok-members.ensures.lists c.in_ok-lists.ensures c.in_ok-turns.ensures.left
