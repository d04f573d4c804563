use Rattle.std.proofs.Common.{◌≡◌, take}
use Rattle.ps_program.specs.MotionSets.{places_asked}
use Rattle.ps_program.proofs.motion_sets.motions_asked.Given as goal

-- the motions that the tests passed by ask for
abbrev pub invariant-loop-test : goal.invariant-loop-test
invariant-loop-test l = l.motions ≡ places_asked (take l.test-index l.tests)
