use Rattle.std.proofs.Common.{arith, ◌<◌, length}
use Rattle.std.proofs.lemmas.List.Edits.{map_over_more}
use Rattle.ps_readings.specs.Wheels.{at_first}
use Rattle.ps_readings.proofs.ways.turn_to_first.Goals as goal

pub loop-place-preserved : goal.loop-place-preserved
loop-place-preserved g c =
    let less : c.loop-place.place < length c.args.wheels.now.items = omega (arith, c.args.wheels.now.ok.0) in
    map_over_more at_first c.args.wheels.now.items c.loop-place.wheels.items c.loop-place.place c.index_mut.result.now
    less c.loop-place.invariant c.index_mut.ensures.value
