use Rattle.std.proofs.Common.{arith}
use Rattle.ps_places.proofs.TargetColumns.{reach-far, reach-init}
use Rattle.ps_places.proofs.targets.up_to.Goals as goal

pub loop-steps-init : goal.loop-steps-init
loop-steps-init g c = record {
  some = omega arith;
  reach = reach-init c.args.set c.both-reach.result c.both-reach.ensures;
}

pub loop-steps-preserved : goal.loop-steps-preserved
loop-steps-preserved g c = record {
  some = omega (arith, c.loop-steps.invariant.some);
  reach = c.reach_twice-reach.ensures c.args.set c.loop-steps.invariant.reach;
}

pub returns : goal.returns
returns g c = reach-far c.args.set c.loop-steps.reach c.loop-steps.steps c.loop-steps-test.false
    c.loop-steps.invariant.reach
