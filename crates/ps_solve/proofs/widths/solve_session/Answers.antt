use Rattle.std.proofs.Common.{◌∙◌, sym}
use Rattle.ps_solve.proofs.FromSessions.{entry_is, here_in}
use Rattle.ps_solve.proofs.widths.solve_session.Goals as goal

pub returns-in-Some-solve_widely : goal.returns-in-Some-solve_widely
returns-in-Some-solve_widely g c = λ script plays.
    let session = c.args.session.now.session in
    here_in script session c.args.limit c.number-entry.result c.in-Some-solve_widely.solved
    (c.number-entry.ensures.number ∙ c.entry.ensures ∙ sym (entry_is session _ _ c.in-Some.ensures.level.1))
    (c.in-Some-solve_widely.ensures script plays)
