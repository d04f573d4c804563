use Rattle.std.proofs.Common.{refl}
use Rattle.ps_rules.proofs.Loops.{loop-end}
use Rattle.ps_readings.specs.Wheels.{way_shown}
use Rattle.ps_readings.proofs.Pieces.{list_more}
use Rattle.ps_readings.proofs.ways.push_shown.Goals as goal

pub loop-wheel-preserved : goal.loop-wheel-preserved
loop-wheel-preserved g c =
    list_more way_shown c.loop-wheel.way.items c.push_item.new.way.items _ _ c.wheel-item.result c.wheel-item.result
    c.args.wheels.now c.loop-wheel.wheel-index refl c.loop-wheel-test.true c.wheel-item.is c.in_ok-push_item.ensures
    c.loop-wheel.invariant

pub returns : goal.returns
returns g c =
    loop-end c.loop-wheel.way.items _ way_shown c.args.wheels.now c.loop-wheel.wheel-index refl c.loop-wheel.invariant
    c.loop-wheel-test.false
