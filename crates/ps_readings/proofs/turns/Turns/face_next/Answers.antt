use Rattle.std.proofs.Common.{◌<◌, length, arith}
use Rattle.ps_readings.proofs.TurnedReadings.{faced}
use Rattle.ps_readings.proofs.turns.Turns.face_next.Goals as goal

pub returns-clause-turns : goal.returns-clause-turns
returns-clause-turns c =
    let less : c.args.self.now.faced < length c.args.self.now.directions.items =
    omega (arith, c.args.self.now.directions.ok.0) in
    faced c.args.self.now.occurrences.now c.args.self.now.directions.items c.args.self.now.faced
    c.index-direction.result.now _ _ less c.index-direction.ensures c.in_ok-self.ensures.left c.in_ok-lists.ensures
