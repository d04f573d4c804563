use Rattle.ps_readings.proofs.WayByWay.{wheel_more}
use Rattle.ps_readings.proofs.ways.wheels_of.Goals as goal

pub loop-items-preserved : goal.loop-items-preserved
loop-items-preserved g c =
    wheel_more c.loop-items.wheels.items c.push.new.self.items c.in-Some.items c.loop-items.yielded
    c.in_ok-push.ensures.items c.loop-items.invariant
