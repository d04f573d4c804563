use Rattle.lizhakoven.proofs.sessions.lzk_copy.Goals as goal

pub returns-in-Err-clause-copied : goal.returns-in-Err-clause-copied
returns-in-Err-clause-copied c =
    (c.in-Err.status, c.number-in-Err.ensures, c.in-Err.ensures.copy c.args.copy.now.value)
