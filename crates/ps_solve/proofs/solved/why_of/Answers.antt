use Rattle.ps_solve.proofs.solved.why_of.Goals as goal

pub returns-in-Moves : goal.returns-in-Moves
returns-in-Moves c = λ limit states is. c.why_not_packed.ensures limit states
