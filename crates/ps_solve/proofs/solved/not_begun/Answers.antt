use Rattle.std.proofs.Common.{arith, inr, refl}
use Rattle.ps_solve.proofs.AlikeLevels.{not_past_yet}
use Rattle.ps_solve.proofs.solved.not_begun.Goals as goal

pub returns : goal.returns
returns c = λ script entry session limit at.
    (not_past_yet script entry session at, omega arith, c.why_not_packed-why.ensures limit 0, inr (refl, refl))
