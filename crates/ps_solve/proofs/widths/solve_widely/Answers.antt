use Rattle.ps_solve.proofs.widths.solve_widely.Goals as goal

pub returns-then-is_answer_for : goal.returns-then-is_answer_for
returns-then-is_answer_for g c = λ script plays.
    c.is_answer_for.ensures c.if-is_answer_for.true script c.args.session.now.session
    (c.solve_with-first.ensures script plays)
