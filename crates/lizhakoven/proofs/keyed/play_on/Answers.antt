use Rattle.lizhakoven.proofs.keyed.play_on.Goals as goal

pub returns-clause-played : goal.returns-clause-played
returns-clause-played c = λ read can had. c.in_default.ensures.played c.args.is_whole read can had
