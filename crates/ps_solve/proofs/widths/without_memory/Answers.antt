use Rattle.ps_solve.specs.SolvedLevels.{entry_in}
use Rattle.ps_solve.proofs.FromSessions.{is_in}
use Rattle.ps_solve.proofs.widths.without_memory.Goals as goal

pub returns-in-Some : goal.returns-in-Some
returns-in-Some g c = λ script limit.
    let session = c.args.session.now.session in
    let at = is_in session _ _ c.in-Some.ensures.level.1 in
    (at, c.not_begun.ensures script (entry_in session) session limit at)
