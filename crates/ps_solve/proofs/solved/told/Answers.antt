use Rattle.std.proofs.Common.{subst}
use Rattle.ps_solve.specs.SolvedLevels.{IsFound}
use Rattle.ps_solve.proofs.solved.told.Goals as goal

pub returns-in-Unknown : goal.returns-in-Unknown
returns-in-Unknown c script entry session limit found =
    let is = subst (IsFound script entry session limit) c.in-Unknown.is found in
    (is.0, is.1, c.why_of-why.ensures limit c.in-Unknown.states is.2, is.3)
