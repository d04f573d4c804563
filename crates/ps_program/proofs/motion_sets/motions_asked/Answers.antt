use Rattle.std.proofs.Common.{◌+◌, ◌∙◌, ap, arith}
use Rattle.std.proofs.lemmas.List.{take_all}
use Rattle.ps_program.specs.MotionSets.{places_asked}
use Rattle.ps_program.proofs.MotionSets.{asked_more}
use Rattle.ps_program.proofs.motion_sets.motions_asked.Goals as goal

pub loop-test-init : goal.loop-test-init
loop-test-init c = c.none-motions.ensures

pub loop-test-preserved : goal.loop-test-preserved
loop-test-preserved c =
    asked_more c.args.tests.now c.loop-test.test-index (c.loop-test.test-index + 1) _ c.loop-test.motions
    c.with_motion-motions.result c.loop-test-test.true (omega arith) c.loop-test.invariant c.with_motion-motions.ensures

pub returns : goal.returns
returns c =
    c.loop-test.invariant
    ∙ ap places_asked (take_all c.loop-test.test-index c.args.tests.now c.loop-test-test.false)
